-- A checked image shows no fault, except possibly in a valid bitmap.
use Rattle.ados_check.proofs.Common.{◌≡◌, ℕ, ◌⊎◌, inl, inr, List, Option, Some, refl, sym, ap, ◌∙◌, subst, arith, secondary_type, format_of, FILE_TYPE, IsImage, data_count, data_blocks, extension_blocks, contents, Role, ShowsNoFault, IsLinkType, IsPlace, PlaceNames, Reached, HasName, root_of, start, HasValidBitmap, IsWhole, is_dos, is_known, Mark, mark_at, HasValidName, IsSound, IsSoundRoot, IsMarkedEntry, IsChecked, Data, Entry, Extension, Page, Root, mark_of}
use Rattle.ados_model.specs.declared.fault.FaultKind.TheVariants.{NotADosDisk, UnsupportedKind, BadSum, BadType, BadOwnKey, BadParent, BadPointer, BlockUsedTwice, WrongChain, BadName, DuplicateName, BadComment, BadCount, BadSequence, LinkEntry, MarkedFree, NoMemory}
use Rattle.ados_model.specs.Faults
use Rattle.ados_model.proofs.FileFaults.{WholeFile, AreWhole, first_link, next_link, no_bad_sequence, no_bad_count}
use Rattle.ados_check.proofs.NameLemmas.{no_bad_name}
use Rattle.ados_check.proofs.RolePlaces.{length-data_blocks, length-extension_blocks, length-contents, sound_file, marked_at, different_headers, file_at, reached_stands}
use Rattle.ados_check.proofs.Roles.{IsMarkedFile, marked_inside, place_not_root, reached_marked}

module _ (image : List ℕ) (marks : List (Option Mark)) (im : IsImage image) (c : IsChecked image marks) where
  -- ---- the fields of single blocks

  sound : {block : ℕ} {role : Role} → Reached image block role → IsSound image block role
  sound {block} {role} h = let at = reached_marked image marks c.reached h in subst (IsSound image block) at.2 (c.reached.sound block at.0 at.1)

  sound_root : {block : ℕ} → block ≡ root_of image → IsSoundRoot image block
  sound_root e = subst (IsSoundRoot image) (sym e) (sound start)

  no_bad_sum : (block : ℕ) → Faults.HasBadSum image block → ⊥
  no_bad_sum block h = go h.role h.reached h.summed
    where
      go : (role : Role) → Reached image block role → Faults.HasSum image role → ⊥
      go Page r m = h.wrong (sound r)
      go (Data file) r m = h.wrong (sound r m).sum
      go _ r m = h.wrong (sound r).sum

  valid_name : (block : ℕ) → HasName image block → HasValidName image block
  valid_name block (HasName.root_name e) = (sound_root e).name
  valid_name block (HasName.entry_name h) = (sound h.2).name

  no_link : (type : ℕ) → (type ≡ 2) ⊎ (type ≡ FILE_TYPE) → IsLinkType type → ⊥
  no_link type is link = grind arith

  -- ---- the entries of a directory

  marked_entry : {block dir s : ℕ} → Reached image block (Entry dir s) → IsMarkedEntry marks block dir
  marked_entry {s = s} h = let at = reached_marked image marks c.reached h in (at.0, s, at.1, at.2)

  -- ---- the blocks that places name

  -- the block is marked with the place that names it
  noted : {holder i block : ℕ} (n : PlaceNames image holder i block) → mark_at marks block ≡ Some (mark_of n.next holder i)
  noted {holder} {i} {block} n =
      let from = reached_marked image marks c.reached n.reached in
      let place = subst (λ (role : Role). IsPlace image holder role i n.next) (sym from.2) n.place in
      ap (mark_at marks) (sym n.names) ∙ c.reached.marked holder i from.0 n.next from.1 place

  one_holder : {holder other i j block : ℕ} → PlaceNames image holder i block → PlaceNames image other j block → (holder ≡ other) × (i ≡ j)
  one_holder {holder} {other} {i} {j} m n =
      let one = noted m in
      let two = noted n in
      let same : mark_of m.next holder i ≡ mark_of n.next other j = cc (one, two) in
      (ap (λ (mark : Mark). mark.holder) same, ap (λ (mark : Mark). mark.long) same)

  -- ---- the files

  whole_file : (file : ℕ) → IsMarkedFile image marks file → WholeFile image file
  whole_file file f = record { blocks = data_blocks image file; extensions = extension_blocks image file; bytes = contents image file; whole = whole }
    where
      whole : IsWhole image file (data_blocks image file) (extension_blocks image file) (contents image file)
      whole = record {
        holds = sound_file image marks im c file f;
        data_fits = length-data_blocks image file ∙ ap (data_count (format_of image)) (sym (length-contents image file));
        extensions_fit = length-extension_blocks image file;
        inside = λ i l. marked_inside image marks c.reached im _ _ (marked_at image marks im c (Extension file) i _ (record { within = l; here = refl; holder = f }));
        once = λ p q l m e. different_headers image marks im c file f p q (omega (arith, l)) (omega (arith, m)) e;
      }

  are_whole : AreWhole image
  unfolding whole_file
  are_whole = record {
    file = λ file h. let at = reached_stands image marks im c h.reached in whole_file file (file_at image marks im c h.dir h.slot_of_chain at.0 file at.1 h.secondary);
    extension = λ file block h. let at = reached_stands image marks im c h in record { of_file = whole_file file at.1.holder; place = at.0; within = at.1.within; here = at.1.here };
  }

  -- ---- all faults

  pub shows_no_fault : ¬ HasValidBitmap image → ShowsNoFault image
  shows_no_fault was NotADosDisk block h = h.0 (is_dos image (format_of image) c.boot)
  shows_no_fault was UnsupportedKind block h = omega (arith, h.1, is_known image (format_of image) c.boot)
  shows_no_fault was BadSum block h = no_bad_sum block h
  shows_no_fault was BadType block (Faults.HasBadType.root_primary e n) = n (sound_root e).primary
  shows_no_fault was BadType block (Faults.HasBadType.root_table e n) = n (sound_root e).table_size
  shows_no_fault was BadType block (Faults.HasBadType.root_secondary e n) = n (sound_root e).secondary
  shows_no_fault was BadType block (Faults.HasBadType.entry_primary h n) = n (sound h.2).primary
  shows_no_fault was BadType block (Faults.HasBadType.entry_secondary h n m l) = elim (sound h.2).secondary [ inl e ↦ n e | inr e ↦ m e ]
  shows_no_fault was BadType block (Faults.HasBadType.extension_primary h n) = n (sound h.1).primary
  shows_no_fault was BadType block (Faults.HasBadType.extension_secondary h n) = n (sound h.1).secondary
  shows_no_fault was BadType block (Faults.HasBadType.data_primary o h n) = n (sound h.1 o).primary
  shows_no_fault was BadOwnKey block (Faults.HasBadOwnKey.entry_key h n) = n (sound h.2).key_field
  shows_no_fault was BadOwnKey block (Faults.HasBadOwnKey.extension_key h n) = n (sound h.1).key_field
  shows_no_fault was BadParent block (Faults.HasBadParent.root_parent e n) = n (sound_root e).parent
  shows_no_fault was BadParent block (Faults.HasBadParent.entry_parent h n) = n (sound h).parent
  shows_no_fault was BadParent block (Faults.HasBadParent.extension_file h n) = n (sound h).parent
  shows_no_fault was BadParent block (Faults.HasBadParent.data_file o h n) = n (sound h o).header
  shows_no_fault was BadPointer block (Faults.HasBadPointer.outside {i = i} {next = next} h p n) =
      let from = reached_marked image marks c.reached h in
      n (c.reached.inside block i from.0 next from.1 (subst (λ (role : Role). IsPlace image block role i next) (sym from.2) p))
  shows_no_fault was BadPointer block (Faults.HasBadPointer.first_data o h n) = n (first_link image are_whole o block h)
  shows_no_fault was BadPointer block (Faults.HasBadPointer.further_data {file = file} {i = i} {blocks = blocks} o h n) = n (next_link image are_whole o file i block blocks h)
  shows_no_fault was BlockUsedTwice block (Faults.IsUsedTwice.two_holders inside m n d) = d (one_holder m.1 n.1).0
  shows_no_fault was BlockUsedTwice block (Faults.IsUsedTwice.two_longs inside m n d) = d (one_holder m n).1
  shows_no_fault was BlockUsedTwice block (Faults.IsUsedTwice.root_named {holder = holder} {i = i} e n) =
      let one = noted n in
      let root = ap (mark_at marks) e ∙ c.reached.root in
      let same : mark_of n.next holder i ≡ mark_of Root 0 0 = cc (one, root) in
      place_not_root n.place (ap (λ (mark : Mark). mark.role) same)
  shows_no_fault was WrongChain block h = h.wrong (sound h.reached).slotted
  shows_no_fault was BadName block h = no_bad_name image block (valid_name block) h
  shows_no_fault was DuplicateName block h = h.two (c.unlike block h.other h.dir (marked_entry h.reached) (marked_entry h.other_reached) h.same)
  shows_no_fault was BadComment block (Faults.HasBadComment.directory_comment h l) = omega (arith, (sound h.reached).comment, l)
  shows_no_fault was BadComment block (Faults.HasBadComment.file_comment h l) = omega (arith, (sound h.reached).comment, l)
  shows_no_fault was BadCount block h = no_bad_count image are_whole block h
  shows_no_fault was BadSequence block h = no_bad_sequence image are_whole block h
  shows_no_fault was LinkEntry block h = no_link (secondary_type image block) (sound h.0.2).secondary h.1
  shows_no_fault was MarkedFree block h = was h.valid
  shows_no_fault was NoMemory block h = h
