-- An image with sound marks and a valid bitmap represents the tree of the marks.
use Rattle.ados_check.proofs.Common.{◌≡◌, ◌≢◌, ℕ, ◌<◌, ◌⊎◌, inl, inr, List, [], length, slice_get, Contains, Option, Some, None, IsSome, refl, sym, ap, ap₂, ◌∙◌, subst, arith, eq-eqb, ne_eqb, false≢true, false_from_ne_true, IsImage, HasFreeBit, block_sum, has_free_bit, Chained, table_entry, secondary_type, format_of, FILE_TYPE, NEXT_IN_CHAIN, data_count, extension_count, Content, Node, Tree, content_at, size_in, HasFile, Layout, Duty, HasDuty, Named, Fits, Stands, HasNode, HasEntry, HasRoot, type_of, in_slot, data_blocks, extension_blocks, Role, Directory, File, InImage, root_of, HasValidBitmap, content_in, slice_get-index, Mark, mark_at, IsChecked, IsSound, IsSoundRoot, Data, Entry, Extension, Page, Root, mark_of}
use Rattle.ados_model.proofs.Counting.{no_data, slice_get-back}
use Rattle.ados_check.proofs.Joined.{place_of}
use Rattle.ados_check.proofs.Roles.{marked_inside}
use Rattle.ados_check.proofs.RolePlaces.{pages_of, length-pages_of, page-at, length-data_blocks, length-extension_blocks, length-contents, sound_file, chain-chained, StandsAt, marked_at, marked_stands, one_place, holder_of, long_of}
use Rattle.ados_check.proofs.Texts.{length-bytes_at, comment_text}
use Rattle.ados_check.proofs.TreeOf.{content_of, tree_of, IsLost, lost_view, lost_is, NodeView, the_root, an_entry, node_view, node_is, directory_content, file_content, file_bytes}
use Rattle.ados_check.proofs.ProperTree.{proper, slot_is}
use Rattle.ados_check.proofs.UpperNames.{entry_sound}

-- the data blocks and the extension blocks for a node's content
abbrev pub data_in : List ℕ → ℕ → Option Content → List ℕ
data_in image file (Some (File bytes)) = data_blocks image file
data_in image file _ = []

abbrev pub extensions_in : List ℕ → ℕ → Option Content → List ℕ
extensions_in image file (Some (File bytes)) = extension_blocks image file
extensions_in image file _ = []

abbrev pub layout_of : List ℕ → List (Option Mark) → Layout
layout_of image marks = record {
  pages = pages_of image;
  file_data = λ file. data_in image file (content_at (tree_of image marks) file);
  extensions = λ file. extensions_in image file (content_at (tree_of image marks) file);
}

abbrev duty_of : Role → ℕ → Duty
duty_of Page k = Duty.Page k
duty_of (Data file) k = Duty.Data file k
duty_of (Extension file) k = Duty.Extension file k
duty_of _ k = Duty.Key

module _ (image : List ℕ) (marks : List (Option Mark)) (im : IsImage image) (c : IsChecked image marks) where
  abbrev t : Tree
  t = tree_of image marks

  abbrev l : Layout
  l = layout_of image marks

  -- ---- the uses of a block

  serves_at : (role : Role) (k block : ℕ) → StandsAt image marks im c role k block → HasDuty t l block (duty_of role k)
  serves_at Root k block h = let n = node_is image marks block (mark_of Root 0 0) Root (marked_at image marks im c Root k block h) refl in rw n refl
  serves_at Page k block h = slice_get-index (pages_of image) k h.within ∙ ap Some h.here
  serves_at (Entry dir s) k block h = let n = node_is image marks block _ (Entry dir s) (marked_at image marks im c (Entry dir s) k block h) refl in rw n refl
  serves_at (Data file) k block h =
      ap (λ (o : Option Content). slice_get (data_in image file o) k) (file_bytes image marks c file h.holder)
      ∙ slice_get-index (data_blocks image file) k h.within ∙ ap Some h.here
  serves_at (Extension file) k block h =
      ap (λ (o : Option Content). slice_get (extensions_in image file o) k) (file_bytes image marks c file h.holder)
      ∙ slice_get-index (extension_blocks image file) k h.within ∙ ap Some h.here

  -- the block is at a position, or is lost
  data DutyView (block : ℕ) (duty : Duty) : Type 0 where
    at_place : (role : Role) (k : ℕ) → StandsAt image marks im c role k block → duty ≡ duty_of role k → DutyView block duty
    of_lost : IsLost image marks block → duty ≡ Duty.Lost → DutyView block duty

  some_of : {A : Type 0} (o : Option A) → IsSome o → (a : A) × (o ≡ Some a)
  some_of None h = absurd (false≢true h)
  some_of (Some a) h = (a, refl)

  key_view : (block : ℕ) (a : Node) → NodeView image marks block a → DutyView block Duty.Key
  key_view block a (the_root m e is same) =
      let at = marked_stands image marks im c block m e in
      at_place m.role at.0 at.1 (ap (λ (role : Role). duty_of role at.0) (sym is))
  key_view block a (an_entry m dir s e is same) =
      let at = marked_stands image marks im c block m e in
      at_place m.role at.0 at.1 (ap (λ (role : Role). duty_of role at.0) (sym is))

  -- the lists of a file
  file_view : (block file i : ℕ) (o : Option Content) → content_at t file ≡ o → (slice_get (data_in image file o) i ≡ Some block → DutyView block (Duty.Data file i)) × (slice_get (extensions_in image file o) i ≡ Some block → DutyView block (Duty.Extension file i))
  file_view block file i (Some (File bytes)) e =
      let n = content_in (t.nodes file) (File bytes) e in
      let f = (file_content image marks c file n.0 bytes n.1 n.2).0 in (
        (λ h. let back = slice_get-back (data_blocks image file) i block h in at_place (Data file) i (record { within = back.0; here = back.1; holder = f }) refl),
        (λ h. let back = slice_get-back (extension_blocks image file) i block h in at_place (Extension file) i (record { within = back.0; here = back.1; holder = f }) refl),
      )
  file_view block file i _ e = ((λ h. absurd (cc h)), (λ h. absurd (cc h)))

  duty_view : (block : ℕ) (duty : Duty) → HasDuty t l block duty → DutyView block duty
  duty_view block (Duty.Page i) h =
      let back = slice_get-back (pages_of image) i block h in
      at_place Page i (record { within = back.0; here = back.1; holder = tt }) refl
  duty_view block Duty.Key h = let n = some_of (t.nodes block) h in key_view block n.0 (node_view image marks block n.0 n.1)
  duty_view block (Duty.Data file i) h = (file_view block file i (content_at t file) refl).0 h
  duty_view block (Duty.Extension file i) h = (file_view block file i (content_at t file) refl).1 h
  duty_view block Duty.Lost h = let n = some_of (t.lost block) h in of_lost (lost_view image marks block n.0 n.1).0 refl

  -- a block at a position is marked, a lost one is not
  place_not_lost : (block : ℕ) (role : Role) (k : ℕ) → StandsAt image marks im c role k block → IsLost image marks block → ⊥
  place_not_lost block role k h lost =
      let marked = marked_at image marks im c role k block h in
      let none = lost.unmarked in
      cc (marked, none)

  same_duty : (block : ℕ) (duty other : Duty) → DutyView block duty → DutyView block other → duty ≡ other
  same_duty block duty other (at_place role k h d) (at_place role' k' h' d') =
      let one = marked_at image marks im c role k block h in
      let two = marked_at image marks im c role' k' block h' in
      let marks_same : mark_of role (holder_of image marks im c role k) (long_of image marks im c role k) ≡ mark_of role' (holder_of image marks im c role' k') (long_of image marks im c role' k') = cc (one, two) in
      let roles_same : role ≡ role' = ap (λ (m : Mark). m.role) marks_same in
      let moved : StandsAt image marks im c role k' block = subst (λ (r : Role). StandsAt image marks im c r k' block) (sym roles_same) h' in
      let places : k ≡ k' = one_place image marks im c role k k' block h moved in
      d ∙ ap₂ (λ (r : Role) (n : ℕ). duty_of r n) roles_same places ∙ sym d'
  same_duty block duty other (at_place role k h d) (of_lost lost d') = absurd (place_not_lost block role k h lost)
  same_duty block duty other (of_lost lost d) (at_place role k h d') = absurd (place_not_lost block role k h lost)
  same_duty block duty other (of_lost lost d) (of_lost lost' d') = d ∙ sym d'

  view_inside : (block : ℕ) (duty : Duty) → DutyView block duty → InImage image block
  view_inside block duty (at_place role k h d) = marked_inside image marks c.reached im block _ (marked_at image marks im c role k block h)
  view_inside block duty (of_lost lost d) = lost.inside

  -- ---- the lengths of the lists

  data_length : (file : ℕ) (o : Option Content) → content_at t file ≡ o → length (data_in image file o) ≡ data_count (format_of image) (size_in o)
  data_length file None e = sym (no_data (format_of image))
  data_length file (Some (Directory keys)) e = sym (no_data (format_of image))
  data_length file (Some (File bytes)) e =
      let n = content_in (t.nodes file) (File bytes) e in
      let same = (file_content image marks c file n.0 bytes n.1 n.2).1 in
      length-data_blocks image file ∙ ap (data_count (format_of image)) (sym (ap (λ (xs : List ℕ). length xs) same ∙ length-contents image file))

  extension_length : (file : ℕ) (o : Option Content) → length (extensions_in image file o) ≡ extension_count (length (data_in image file o))
  extension_length file (Some (File bytes)) = length-extension_blocks image file
  extension_length file _ = refl

  lost_length : (block : ℕ) (bytes : List ℕ) → t.lost block ≡ Some bytes → length bytes ≡ 512
  lost_length block bytes h =
      let view = lost_view image marks block bytes h in
      ap (λ (xs : List ℕ). length xs) view.1 ∙ length-bytes_at image block 0 512 im view.0.inside.1 (omega arith)

  fits : Fits t l
  fits = record {
    pages = length-pages_of image;
    file_data = λ file. data_length file (content_at t file) refl;
    extensions = λ file. extension_length file (content_at t file);
    inside = λ block duty h. view_inside block duty (duty_view block duty h);
    lost = lost_length;
    one_duty = λ block duty other h g. same_duty block duty other (duty_view block duty h) (duty_view block other g);
  }

  -- ---- the fields of the blocks

  sound_root : (key : ℕ) (m : Mark) → mark_at marks key ≡ Some m → m.role ≡ Root → IsSoundRoot image key
  sound_root key m e is = subst (IsSound image key) is (c.reached.sound key m e)

  has_node : (key : ℕ) (a : Node) → NodeView image marks key a → HasNode image key a
  has_node key a (the_root m e is same) =
      let sound = sound_root key m e is in
      subst (HasNode image key) (sym same) (record { primary = sound.primary; sum = sound.sum; name = sound.name.text; date = refl })
  has_node key a (an_entry m dir s e is same) =
      let sound = entry_sound image marks c.reached key dir (m, s, e, is) in
      subst (HasNode image key) (sym same) (record { primary = sound.primary; sum = sound.sum; name = sound.name.text; date = refl })

  type_is : (key : ℕ) → (secondary_type image key ≡ 2) ⊎ (secondary_type image key ≡ FILE_TYPE) → secondary_type image key ≡ type_of (content_of image key)
  type_is key (inl e) = rw (eq-eqb (secondary_type image key) 2 e) e
  type_is key (inr e) =
      let other : secondary_type image key ≢ 2 = λ z. omega (arith, e, z) in
      rw (ne_eqb (secondary_type image key) 2 other) e

  has_entry : (key dir : ℕ) (a : Node) → NodeView image marks key a → a.parent ≡ Some dir → HasEntry image key a dir
  has_entry key dir a (the_root m e is same) p =
      let none : a.parent ≡ None = ap (λ (b : Node). b.parent) same in
      absurd (cc (none, p))
  has_entry key dir a (an_entry m up s e is same) p =
      let sound = entry_sound image marks c.reached key up (m, s, e, is) in
      let parent : a.parent ≡ Some up = ap (λ (b : Node). b.parent) same in
      let dirs : up ≡ dir = cc (parent, p) in
      let inside = marked_inside image marks c.reached im key m e in
      subst (λ (b : Node). HasEntry image key b dir) (sym same)
      (record {
        key_field = sound.key_field;
        protection_field = refl;
        comment = comment_text image key im inside.1 sound.comment;
        parent = sound.parent ∙ dirs;
        secondary = type_is key sound.secondary;
      })

  root_fields : HasValidBitmap image → HasRoot image t l
  root_fields valid =
      let sound = sound_root (root_of image) (mark_of Root 0 0) c.reached.root refl in
      record {
        table_size = sound.table_size;
        valid = valid;
        pages = λ i h. sym (page-at image i (omega (arith, h, length-pages_of image)));
        disk_date = refl;
        creation_date = refl;
        parent = sound.parent;
        secondary = sound.secondary;
      }

  page_sum : (page : ℕ) → Contains (pages_of image) page → block_sum image page ≡ 0
  page_sum page h =
      let at = place_of (pages_of image) page h in
      c.reached.sound page (mark_of Page _ _) (marked_at image marks im c Page at.0 page (record { within = at.1; here = at.2; holder = tt }))

  chains : (dir : ℕ) (node : Node) (keys : List ℕ) (s : ℕ) → t.nodes dir ≡ Some node → node.content ≡ Directory keys → s < 72 → Chained image NEXT_IN_CHAIN (table_entry image dir s) (in_slot t dir s)
  chains dir node keys s h is small =
      let d = (directory_content image marks c dir node keys h is).0 in
      subst (Chained image NEXT_IN_CHAIN (table_entry image dir s)) (sym (slot_is image marks im c dir s d small)) (chain-chained image marks im c dir s d small)

  files : (file : ℕ) (node : Node) (bytes : List ℕ) → t.nodes file ≡ Some node → node.content ≡ File bytes → HasFile image (format_of image) file (l.file_data file) (l.extensions file) bytes
  files file node bytes h is =
      let f = file_content image marks c file node bytes h is in
      let content = file_bytes image marks c file f.0 in
      subst (λ (o : Option Content). HasFile image (format_of image) file (data_in image file o) (extensions_in image file o) bytes) (sym content)
      (subst (λ (xs : List ℕ). HasFile image (format_of image) file (data_blocks image file) (extension_blocks image file) xs) (sym f.1) (sound_file image marks im c file f.0))

  -- ---- the bitmap

  -- a block that is marked free has no use
  free_unnamed : ((block : ℕ) (m : Mark) → mark_at marks block ≡ Some m → ¬ HasFreeBit image block) → (block : ℕ) → HasFreeBit image block → ¬ Named t l block
  free_unnamed used block free named = go (duty_view block named.0 named.1)
    where
      go : DutyView block named.0 → ⊥
      go (at_place role k h d) = used block _ (marked_at image marks im c role k block h) free
      go (of_lost lost d) = false≢true (sym lost.used ∙ free)

  -- any other block has one
  used_named : (block : ℕ) → InImage image block → ¬ HasFreeBit image block → Named t l block
  used_named block inside used = go (mark_at marks block) refl
    where
      go : (o : Option Mark) → mark_at marks block ≡ o → Named t l block
      go None e =
          let lost = lost_is image marks block (record { inside = inside; unmarked = e; used = false_from_ne_true (has_free_bit image block) used }) in
          (Duty.Lost, rw lost refl)
      go (Some m) e = let at = marked_stands image marks im c block m e in (duty_of m.role at.0, serves_at m.role at.0 block at.1)

  pub stands : HasValidBitmap image → ((block : ℕ) (m : Mark) → mark_at marks block ≡ Some m → ¬ HasFreeBit image block) → Stands image t
  stands valid used = record {
    proper = proper image marks im c;
    layout = l;
    fits = fits;
    whole = omega (arith, im.whole);
    boot = c.boot;
    root_fields = root_fields valid;
    nodes = λ key a h. has_node key a (node_view image marks key a h);
    entries = λ key dir a h p. has_entry key dir a (node_view image marks key a h) p;
    pages = page_sum;
    lost = λ block bytes h. sym (lost_view image marks block bytes h).1;
    chains = chains;
    files = files;
    marked_free = λ block inside free. free_unnamed used block free;
    marked_used = used_named;
  }
