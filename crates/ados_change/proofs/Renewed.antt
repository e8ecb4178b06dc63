-- A file that gets its time stamp and is then rewritten: consequences for the tree and the image.
use Rattle.ados_change.proofs.Common.{◌≡◌, ◌≢◌, ℕ, ◌+◌, ◌/◌, ◌<◌, ◌≤◌, inl, inr, true, false, List, length, Option, Some, None, option_map, refl, sym, ap, ap₂, ◌∙◌, subst, arith, eq-eqb, [], ne_eqb, stamped, cases_eq, lt-ltb, ltb-true, false≢true, IsImage, free_bit_count, IsInside, block_count, byte_at, long, has_free_bit, secondary_type, format_of, SameBut, FILE_TYPE, same_count, long-same, Date3, InTurn, slice_index, NoneFreeBelow, block_cost, Content, Node, Tree, root, free, content_at, size_of, bytes_of, data_blocks, extension_blocks, contents, HasFree, WritableFile, IsDataField, RisesBehind, IsBeside, KeepsUnnamed, pages_of, page_count, File, Duty, Stands, HasFileKey, HasTree, rewritten, without_archive, KeepsRest, root_is, IsFileNode, one_tree, AtStamps, IsFileStamp, touched, IsStamped, NeedsMore, free_bits_count, is_some, KeepsUses, KeepsKinds}
use Rattle.ados_data.proofs.Bounds.{below_stays}
use Rattle.ados_model.specs.Tree.{bytes_in as bytes_held}
use Rattle.ados_data.specs.declared.place.Place.{Place}
use Rattle.ados_data.specs.Place.{IsAmong, IsPlace}
use Rattle.ados_change.proofs.Writable.{inside, key_serves, writable, data_is, extensions_is, bytes_is, format_is}
use Rattle.ados_change.proofs.FilesStay.{file_of_key, has_bytes, untold_trans}
use Rattle.ados_change.proofs.Changed.{each_keeps, same_nodes, changed_keeps}
use Rattle.ados_change.proofs.Contents.{refilled, holding, file_not_root}
use Rattle.ados_change.proofs.Relaid.{IsRewritten}
use Rattle.ados_change.proofs.Refilled.{stands_after}
use Rattle.ados_change.proofs.BytesKept.{kept, kinds, takes_lowest, freed_stays, key_used, uses}
use Rattle.ados_change.proofs.Stamping.{kept_before, type_stamped, count_marked, lowest_before, marks_same, format_same, stamps_kept, stamps_untold}
use Rattle.ados_change.proofs.BytesUntold.{untold_kept}
use Rattle.ados_change.proofs.Uses.{has_key, kinds_both, uses_both, uses_stay}

pub bytes_in : (image : List ℕ) (t : Tree) (s : Stands image t) (file : ℕ) → HasFileKey image file → contents image file ≡ bytes_of t file
bytes_in image t s file key =
    let f = file_of_key image t s file key in
    bytes_is image t s file f.node f.bytes f.at f.content ∙ rw f.at (rw f.content refl)

pub size_in : (image : List ℕ) (t : Tree) (s : Stands image t) (file : ℕ) → HasFileKey image file → length (contents image file) ≡ size_of t file
size_in image t s file key =
    let f = file_of_key image t s file key in
    ap length (bytes_is image t s file f.node f.bytes f.at f.content) ∙ rw f.at (rw f.content refl)

pub file_writable : (image : List ℕ) (file : ℕ) → HasTree image → HasFileKey image file → WritableFile image file
file_writable image file tree key =
    let f = file_of_key image tree.0 tree.1 file key in
    writable image tree.0 tree.1 file f.node f.bytes f.at f.content

pub file_inside : (image : List ℕ) (file : ℕ) → HasTree image → HasFileKey image file → file < block_count image
file_inside image file tree key =
    let f = file_of_key image tree.0 tree.1 file key in
    (inside image tree.0 tree.1 file Duty.Key (key_serves image tree.0 tree.1 file f.node f.at)).1

pub size_field : (image : List ℕ) (t : Tree) (s : Stands image t) (file : ℕ) → HasFileKey image file → long image file 81 ≡ size_of t file
size_field image t s file key =
    let f = file_of_key image t s file key in
    (s.files file f.node f.bytes f.at f.content).size ∙ rw f.at (rw f.content refl)

-- ---- room

-- the image has enough free blocks for a file exactly if its tree has
pub free_in : (image : List ℕ) (t : Tree) (s : Stands image t) (file size : ℕ) → HasFileKey image file → (free_bit_count image + block_cost (format_of image) (length (contents image file)) ≡ free t + block_cost t.format (size_of t file)) × (block_cost (format_of image) size ≡ block_cost t.format size)
free_in image t s file size key = (
  ap₂ (λ (a b : ℕ). a + b) (free_bits_count image t s) (ap₂ block_cost (format_is image t s) (size_in image t s file key)),
  ap (λ f. block_cost f size) (format_is image t s),
)

pub room_enough : (image : List ℕ) (t : Tree) (s : Stands image t) (file size : ℕ) → HasFileKey image file → HasFree image file size → ¬ NeedsMore t file size
room_enough image t s file size key h n = let f = free_in image t s file size key in omega (arith, h, ltb-true _ _ n, f.0, f.1)

pub lacks_room : (image : List ℕ) (t : Tree) (s : Stands image t) (file size : ℕ) → HasFileKey image file → ¬ HasFree image file size → NeedsMore t file size
lacks_room image t s file size key h = let f = free_in image t s file size key in lt-ltb _ _ (omega (arith, h, f.0, f.1))

-- ---- the tree

abbrev touch : Date3 → Node → Node
touch moment node = record node { date = moment; protection = without_archive node.protection }

-- a file that is stamped and refilled is rewritten
same_node : (moment : Date3) (bytes : List ℕ) (file k : ℕ) (t : Tree) → (refilled file bytes (touched moment file t)).nodes k ≡ (rewritten moment file bytes t).nodes k
same_node moment bytes file k t = elim (cases_eq k file) [
  | inl e ↦ rw (eq-eqb k file e, eq-eqb file file refl) (go (t.nodes file))
  | inr n ↦ rw (ne_eqb k file n) refl
]
  where
    go : (o : Option Node) → option_map (holding bytes) (option_map (touch moment) o) ≡ option_map (λ (node : Node). record node { content = File bytes; date = moment; protection = without_archive node.protection }) o
    go None = refl
    go (Some a) = refl

pub is_rewritten : (moment : Date3) (bytes : List ℕ) (file : ℕ) (t : Tree) → refilled file bytes (touched moment file t) ≡ rewritten moment file bytes t
is_rewritten moment bytes file t = same_nodes (stamped moment t) (refilled file bytes (touched moment file t)).nodes (rewritten moment file bytes t).nodes (λ k. same_node moment bytes file k t)

-- ---- after the time stamp

module _ (moment : Date3) (old mid : List ℕ) (file : ℕ) (tree : HasTree old) (key : HasFileKey old file) (h : IsStamped moment old file mid) where
  -- the content of every node is the same
  touched_contents : (t : Tree) (k : ℕ) → content_at (touched moment file t) k ≡ content_at t k
  touched_contents t = changed_keeps (option_map (λ (node : Node). node.content)) (touch moment) file t (each_keeps (option_map (λ (node : Node). node.content)) (touch moment) (λ a. refl))

  -- the image after it represents a tree in which the file is still a file
  abbrev pub mid_tree : HasTree mid
  mid_tree = (touched moment file tree.0, h.stands tree.0 tree.1)

  pub mid_key : HasFileKey mid file
  mid_key t s =
      let c = key tree.0 tree.1 in
      let same : touched moment file tree.0 ≡ t = one_tree mid (touched moment file tree.0) t mid_tree.1 s in
      (c.0, ap (λ (u : Tree). content_at u file) (sym same) ∙ touched_contents tree.0 file ∙ c.1)

  pub mid_writable : WritableFile mid file
  mid_writable = file_writable mid file mid_tree mid_key

  node : IsFileNode old tree.0 tree.1 file
  node = file_of_key old tree.0 tree.1 file key

  file_is_no_root : file ≢ root tree.0
  file_is_no_root = file_not_root tree.0 file node.node node.bytes [] node.at node.content tree.1.proper

  rest : SameBut (AtStamps (root tree.0) file) old mid
  rest = subst (λ (r : ℕ). SameBut (AtStamps r file) old mid) (root_is old tree.0 tree.1) h.rest

  -- in the header only the time stamps change
  pub header_stamped : (k : ℕ) → k < 512 → ¬ IsFileStamp (k / 4) → byte_at mid file k ≡ byte_at old file k
  header_stamped k l n = rest.same_byte file k l (λ w. elim w [ inl z ↦ n z.1 | inr z ↦ file_is_no_root z.0 ])

  -- the same blocks are marked
  pub inside_mid : (b : ℕ) → IsInside (block_count old) b → IsInside (block_count mid) b
  inside_mid b i = let count = same_count (AtStamps (root tree.0) file) old mid rest in (i.0, omega (arith, i.1, count))

  pub marks_mid : (b : ℕ) → IsInside (block_count old) b → has_free_bit mid b ≡ has_free_bit old b
  marks_mid b i = marks_same old mid tree.0 tree.1 file node.node node.at file_is_no_root rest b i

  pub below_mid : (from : ℕ) → NoneFreeBelow old from → NoneFreeBelow mid from
  below_mid from = below_stays old mid from (same_count (AtStamps (root tree.0) file) old mid rest) (λ b i used. marks_mid b i ∙ used)

  -- a block beside the file is still beside it
  pub beside_mid : (blocks extensions : List ℕ) (b : ℕ) → IsBeside old file blocks extensions b → IsBeside mid file blocks extensions b
  beside_mid blocks extensions b n =
      let count = same_count (AtStamps (root tree.0) file) old mid rest in
      let past = (stamps_untold old mid tree.0 tree.1 file node.node node.at file_is_no_root rest).past_end in
      record {
        inside = omega (arith, n.inside, count);
        beside_pages = λ p l e.
            let before : p < pages_of old = omega (arith, l, ap page_count count) in
            n.beside_pages p before (e ∙ past.pages p before);
        beside_headers = n.beside_headers;
        beside_data = n.beside_data;
      }

  -- the file's bytes are the same, and equally many blocks are free
  pub same_contents : contents mid file ≡ contents old file
  same_contents =
      bytes_in mid mid_tree.0 mid_tree.1 file mid_key
      ∙ ap (λ (c : Option Content). bytes_held c) (touched_contents tree.0 file)
      ∙ sym (bytes_in old tree.0 tree.1 file key)

  -- its blocks are the same, so a place in it is still a place
  pub same_place : (place : Place) → IsPlace old file place → IsPlace mid file place
  same_place place =
      let c = key tree.0 tree.1 in
      let stays = (stamps_untold old mid tree.0 tree.1 file node.node node.at file_is_no_root rest) in
      let same = stays.other_data file c.0 (has_bytes old tree.0 tree.1 file c.0 c.1) (has_bytes mid mid_tree.0 mid_tree.1 file c.0 (touched_contents tree.0 file ∙ c.1)) in
      subst (λ (xs : List ℕ). IsAmong file xs place) (sym same.extensions)

  pub same_room : (size : ℕ) → HasFree old file size → HasFree mid file size
  same_room size free =
      let format = format_same old mid tree.0 tree.1 file node.node node.at file_is_no_root rest in
      let marked = count_marked old mid tree.0 tree.1 file node.node node.at file_is_no_root rest in
      let need = ap (λ f. block_cost f size) format in
      let held : block_cost (format_of mid) (length (contents mid file)) ≡ block_cost (format_of old) (length (contents old file)) = ap₂ block_cost format (ap length same_contents) in
      omega (arith, free, marked, need, held)

  -- the uses of its blocks are the same
  stamp_uses : KeepsUses old mid
  stamp_uses =
      uses_stay old mid tree.0 (touched moment file tree.0) tree.1 mid_tree.1 (same_count (AtStamps (root tree.0) file) old mid rest) (stamps_untold old mid tree.0 tree.1 file node.node node.at file_is_no_root rest)
      (λ k m. sym (changed_keeps is_some touch file tree.0 (each_keeps is_some touch (λ a. refl)) k) ∙ m) (λ b. refl) (λ g bytes is. sym (touched_contents tree.0 g) ∙ is)
    where
      touch : Node → Node
      touch a = record a { date = moment; protection = without_archive a.protection }

  stamp_kinds : KeepsKinds old mid
  stamp_kinds g is = let c = is mid_tree.0 mid_tree.1 in inl (has_key old tree.0 tree.1 g (sym (touched_contents tree.0 g) ∙ c.1))

  module _ (new : List ℕ) (r : IsRewritten mid file (data_blocks mid file) (extension_blocks mid file) new (data_blocks new file) (extension_blocks new file) (contents new file)) where
    -- for each tree of the old image, the new one represents the tree with the file rewritten
    pub stands_rewritten : (u : Tree) → Stands old u → Stands new (rewritten moment file (contents new file) u)
    stands_rewritten u s =
        let after = h.stands u s in
        let f = file_of_key mid (touched moment file u) after file mid_key in
        let blocks = data_is mid (touched moment file u) after file f.node f.bytes f.at f.content in
        let lists = extensions_is mid (touched moment file u) after file f.node f.bytes f.at f.content in
        let laid : IsRewritten mid file (after.layout.file_data file) (after.layout.extensions file) new (data_blocks new file) (extension_blocks new file) (contents new file) = rw (← blocks, ← lists) r in
        subst (Stands new) (is_rewritten moment (contents new file) file u)
        (stands_after mid new (touched moment file u) after file f.node f.bytes f.at f.content (data_blocks new file) (extension_blocks new file) (contents new file) laid)

    -- the file is still a file
    still_file : secondary_type new file ≡ FILE_TYPE
    still_file =
        long-same mid new file 127 (λ k e. r.leaves.header k (omega (arith, e)) (beside_data (k / 4) e))
        ∙ type_stamped old mid tree.0 tree.1 file node.node node.at file_is_no_root rest node.bytes node.content
      where
        beside_data : (j : ℕ) → j ≡ 127 → ¬ IsDataField j
        beside_data j e f = omega (arith, e, f)

    module _ (keeps : KeepsUnnamed mid file (data_blocks mid file) (extension_blocks mid file) new (data_blocks new file) (extension_blocks new file))
        (images : contents new file ≡ contents mid file → IsImage mid) (is : IsImage new)
        (lowest : (c d : ℕ) → IsInside (block_count mid) d → 2 ≤ c → c < d → has_free_bit mid d ≡ true → has_free_bit new d ≡ false → has_free_bit new c ≡ false)
        (rises : RisesBehind (data_blocks mid file) (data_blocks new file)) (rises' : RisesBehind (extension_blocks mid file) (extension_blocks new file))
        (turns : (q i : ℕ) → length (extension_blocks mid file) ≤ q → q < length (extension_blocks new file) → length (data_blocks mid file) ≤ i → i < length (data_blocks new file) → InTurn q (slice_index (extension_blocks new file) q) i (slice_index (data_blocks new file) i)) where
      pub keeps_rest : KeepsRest old new
      keeps_rest =
          let u = touched moment file tree.0 in
          let f = file_of_key mid u mid_tree.1 file mid_key in
          let blocks = data_is mid u mid_tree.1 file f.node f.bytes f.at f.content in
          let lists = extensions_is mid u mid_tree.1 file f.node f.bytes f.at f.content in
          let laid : IsRewritten mid file (mid_tree.1.layout.file_data file) (mid_tree.1.layout.extensions file) new (data_blocks new file) (extension_blocks new file) (contents new file) = rw (← blocks, ← lists) r in
          let unnamed : KeepsUnnamed mid file (mid_tree.1.layout.file_data file) (mid_tree.1.layout.extensions file) new (data_blocks new file) (extension_blocks new file) = rw (← blocks, ← lists) keeps in
          record {
            kept = kept_before old mid tree.0 tree.1 file node.node node.at file_is_no_root rest node.bytes node.content new still_file (stamps_kept old mid tree.0 tree.1 file node.node node.at file_is_no_root rest)
                (kept mid new u mid_tree.1 file f.node f.bytes f.at f.content (data_blocks new file) (extension_blocks new file) (contents new file) laid unnamed);
            lowest = lowest_before old mid tree.0 tree.1 file node.node node.at file_is_no_root rest new
                (takes_lowest mid new u mid_tree.1 file f.node f.bytes f.at f.content (data_blocks new file) (extension_blocks new file) (contents new file) laid unnamed lowest
                (subst (λ (xs : List ℕ). RisesBehind xs (data_blocks new file)) blocks rises) (subst (λ (xs : List ℕ). RisesBehind xs (extension_blocks new file)) lists rises')
                (λ q i l m n k. turns q i (omega (arith, l, ap length lists)) m (omega (arith, n, ap length blocks)) k));
            freed = λ b inside free i l.
                let used = key_used mid new u mid_tree.1 file f.node f.bytes f.at f.content (data_blocks new file) (extension_blocks new file) (contents new file) laid unnamed in
                let at_root = used (root u) mid_tree.1.proper.root_node.0 mid_tree.1.proper.root_node.1 in
                freed_stays mid new u mid_tree.1 file f.node f.bytes f.at f.content (data_blocks new file) (extension_blocks new file) (contents new file) laid unnamed b free i (inside_mid b inside) l
                ∙ rest.same_byte b i l (λ w. elim w [
                  | inl z ↦ false≢true (sym (used file f.node f.at) ∙ ap (has_free_bit new) (sym z.0) ∙ free)
                  | inr z ↦ false≢true (sym at_root ∙ ap (has_free_bit new) (sym z.0) ∙ free)
                ]);
            untold = untold_trans old mid new tree.0 tree.1 (same_count (AtStamps (root tree.0) file) old mid rest)
                (λ g bs is was. has_bytes mid u mid_tree.1 g bs (touched_contents tree.0 g ∙ was tree.0 tree.1))
                (stamps_untold old mid tree.0 tree.1 file node.node node.at file_is_no_root rest)
                (untold_kept mid new u mid_tree.1 file f.node f.bytes f.at f.content (data_blocks new file) (extension_blocks new file) (contents new file) laid unnamed
                (λ same. (images (same ∙ sym (bytes_is mid u mid_tree.1 file f.node f.bytes f.at f.content)), is)));
            uses = uses_both old mid new u mid_tree.1 (ap (λ (n : ℕ). n / 512) r.leaves.same_length ∙ same_count (AtStamps (root tree.0) file) old mid rest) stamp_uses
                (uses mid new u mid_tree.1 file f.node f.bytes f.at f.content (data_blocks new file) (extension_blocks new file) (contents new file) laid unnamed)
                (λ b inside free. sym (marks_mid b inside) ∙ free);
            kinds = kinds_both old mid new (refilled file (contents new file) u)
                (stands_after mid new u mid_tree.1 file f.node f.bytes f.at f.content (data_blocks new file) (extension_blocks new file) (contents new file) laid)
                (ap (λ (n : ℕ). n / 512) r.leaves.same_length ∙ same_count (AtStamps (root tree.0) file) old mid rest) stamp_kinds
                (kinds mid new u mid_tree.1 file f.node f.bytes f.at f.content (data_blocks new file) (extension_blocks new file) (contents new file) laid unnamed)
                (λ b inside free. sym (marks_mid b inside) ∙ free);
            bytes = λ was. is;
          }
