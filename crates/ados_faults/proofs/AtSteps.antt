-- Each fault that an image shows is noted at a step of the walk, or shows only further.
use Rattle.ados_faults.proofs.Common.{◌≡◌, ◌≢◌, ℕ, ◌+◌, ◌<◌, ◌⊎◌, List, Bool, length, get_or, None, Some, inl, inr, refl, sym, ◌∙◌, subst, slice_get, none-some, slice_get-get_or, slice_get_within, unwrap_or-slice_get, text_at, block_sum, own_key, parent_key, NAME_BYTE, FaultKind, NotADosDisk, UnsupportedKind, BadSum, BadType, BadOwnKey, BadParent, BadPointer, BlockUsedTwice, WrongChain, BadName, DuplicateName, BadComment, BadCount, BadSequence, LinkEntry, MarkedFree, NoMemory, Role, Root, Page, Entry, Data, Extension, HasName, HasSum, HasWrongName, Reached, Shows, root_of, BreaksRule, kind_of_data, Sequence, TooFew, TooMany, Link, HasBadField, HasBadTypeAs, HasOtherCount, kind_of, NoLink, OwnKey, Parent, Name, Chain, Comment, PointerCount, FirstData, IsOtherKind, Step, AreLookedAt, IsLookedAt, AreStillNoted, IsNoted, cell_of, Part, Directory, Slot, DataFile, ExtensionFile, AreCovered, IsListed, number_of, step_of, AreOutsideNoted, AreTwiceNoted, IsMarkedFree, only_root, slot, DataRule, FieldRule}
use Rattle.ados_model.specs.Faults
use Rattle.ados_faults.proofs.Covering.{data_listed, data_role, directory_role, entry_listed, extension_listed, extension_role, other_number, page_listed, slot_role}

wrong_name : (image : List ℕ) (block : ℕ) → Faults.HasBadName image block → HasName image block × HasWrongName image block
wrong_name image block (Faults.HasBadName.empty h e) = (h, inl (inl e))
wrong_name image block (Faults.HasBadName.long_name h e) = (h, inl (inr e))
wrong_name image block (Faults.HasBadName.slash h e) = (h, inr (inl e))
wrong_name image block (Faults.HasBadName.colon h e) = (h, inr (inr e))

followed : (blocks : List ℕ) (i : ℕ) → i < length blocks → slice_get blocks i ≢ None
followed blocks i l e = none-some (get_or blocks i 0) (sym e ∙ slice_get-get_or blocks i 0 l)

-- what the walk noted, and what the looks at its steps noted, is still noted
pub record AreStepsNoted (image : List ℕ) (cells : List Bool) : Type 0 where
  pub walked : List Bool
  pub looked : List Bool
  pub steps : List Step
  pub covered : AreCovered image steps
  pub twice : AreTwiceNoted image walked
  pub outside : AreOutsideNoted image walked
  pub after_walk : AreStillNoted walked cells
  pub looks : AreLookedAt image looked steps (length steps)
  pub after_looks : AreStillNoted looked cells

-- a fault that shows only in the boot block, in the names of a directory, or in all blocks of a file
pub data ShowsFurther (image : List ℕ) : FaultKind → ℕ → Type 0 where
  disk : {kind : FaultKind} {block : ℕ} → IsOtherKind image kind → block ≡ 0 → ShowsFurther image kind block
  name : {block : ℕ} → Faults.HasDuplicateName image block → ShowsFurther image DuplicateName block
  placed : {file i block : ℕ} {blocks : List ℕ} → Faults.IsOfs image → Faults.IsDataAt image file blocks i block → (rule : DataRule) → BreaksRule image (record { block = block; position = i; next = slice_get blocks (i + 1) }) rule
      → ShowsFurther image (kind_of_data rule) block
  size : {block : ℕ} {blocks : List ℕ} → Faults.AreDataBlocks image block blocks → length blocks ≢ Faults.count_of_size image block → ShowsFurther image BadCount block
  sum : {block : ℕ} → Faults.IsOfs image → Faults.HoldsOtherSize image block → ShowsFurther image BadCount block

module _ (image : List ℕ) (last : List Bool) (w : AreStepsNoted image last) where
  look_at : (block : ℕ) (role : Role) → IsListed w.steps (step_of block role) → IsLookedAt image w.looked (step_of block role)
  look_at block role at = w.looks.looked at.0 (step_of block role) (slice_get_within w.steps at.0 (step_of block role) at.1) at.1

  -- the block was w.looked at in a role of this kind
  root_look : (block : ℕ) → block ≡ root_of image → IsLookedAt image w.looked (step_of block Root)
  root_look block e = subst (λ (b : ℕ). IsLookedAt image w.looked (step_of b Root)) (sym e) (look_at (root_of image) Root w.covered.root)

  entry_look : (block dir s : ℕ) → Reached image block (Entry dir s) → (d : ℕ) × (t : ℕ) × IsLookedAt image w.looked (step_of block (Entry d t))
  entry_look block dir s h = let at = entry_listed w.steps block dir s (w.covered.covered block (Entry dir s) h) in (at.0, at.1, look_at block (Entry at.0 at.1) at.2)

  data_look : (block file : ℕ) → Reached image block (Data file) → (f : ℕ) × IsLookedAt image w.looked (step_of block (Data f))
  data_look block file h = let at = data_listed w.steps block file (w.covered.covered block (Data file) h) in (at.0, look_at block (Data at.0) at.1)

  extension_look : (block file : ℕ) → Reached image block (Extension file) → (f : ℕ) × IsLookedAt image w.looked (step_of block (Extension f))
  extension_look block file h = let at = extension_listed w.steps block file (w.covered.covered block (Extension file) h) in (at.0, look_at block (Extension at.0) at.1)

  -- the block was w.looked at in a role with another number than a field has
  other_look : (block : ℕ) (role : Role) (part : Part) (n field : ℕ) → Reached image block role → number_of part role ≡ Some n → field ≢ n
      → (m : ℕ) × (r : Role) × (number_of part r ≡ Some m) × (field ≢ m) × IsLookedAt image w.looked (step_of block r)
  other_look block role part n field h is apart =
      let o = other_number w.steps block part n field apart ((w.covered.covered block role h).covered part n is) in
      (o.0, o.1.0.role, o.1.0.number, o.1.1, look_at block o.1.0.role o.1.0.listed)

  -- the block was looked at in a role of the same kind
  like_look : (block : ℕ) (role : Role) → Reached image block role → (r : Role) × IsLookedAt image w.looked (step_of block r) × (HasSum image role → HasSum image r)
  like_look block Root h = (Root, root_look block (only_root h refl), λ x. x)
  like_look block Page h = (Page, look_at block Page (page_listed w.steps block (w.covered.covered block Page h)), λ x. x)
  like_look block (Entry d s) h = let look = entry_look block d s h in (Entry look.0 look.1, look.2, λ x. x)
  like_look block (Data f) h = let look = data_look block f h in (Data look.0, look.1, λ x. x)
  like_look block (Extension f) h = let look = extension_look block f h in (Extension look.0, look.1, λ x. x)

  sum_noted : (block : ℕ) (role : Role) → Reached image block role → HasSum image role → block_sum image block ≢ 0 → IsNoted last (cell_of BadSum block)
  sum_noted block role h summed wrong = let look = like_look block role h in w.after_looks.stay (cell_of BadSum block) (look.1.wrongs.sum (look.2 summed, wrong))

  types_noted : (block : ℕ) (role : Role) → IsLookedAt image w.looked (step_of block role) → HasBadTypeAs image block role → IsNoted last (cell_of BadType block)
  types_noted block role look wrong = w.after_looks.stay (cell_of BadType block) (look.wrongs.types wrong)

  type_noted : (block : ℕ) → Faults.HasBadType image block → IsNoted last (cell_of BadType block)
  type_noted block (Faults.HasBadType.root_primary e n) = types_noted block Root (root_look block e) (inl n)
  type_noted block (Faults.HasBadType.root_table e n) = types_noted block Root (root_look block e) (inr (inl n))
  type_noted block (Faults.HasBadType.root_secondary e n) = types_noted block Root (root_look block e) (inr (inr n))
  type_noted block (Faults.HasBadType.entry_primary h n) = let look = entry_look block h.0 h.1 h.2 in types_noted block (Entry look.0 look.1) look.2 (inl n)
  type_noted block (Faults.HasBadType.entry_secondary h d f k) = let look = entry_look block h.0 h.1 h.2 in types_noted block (Entry look.0 look.1) look.2 (inr (d, f, k))
  type_noted block (Faults.HasBadType.extension_primary h n) = let look = extension_look block h.0 h.1 in types_noted block (Extension look.0) look.1 (inl n)
  type_noted block (Faults.HasBadType.extension_secondary h n) = let look = extension_look block h.0 h.1 in types_noted block (Extension look.0) look.1 (inr n)
  type_noted block (Faults.HasBadType.data_primary o h n) = let look = data_look block h.0 h.1 in types_noted block (Data look.0) look.1 (o, n)

  field_noted : (block : ℕ) (role : Role) (rule : FieldRule) → IsLookedAt image w.looked (step_of block role) → HasBadField image block role rule → IsNoted last (cell_of (kind_of rule) block)
  field_noted block role rule look wrong = w.after_looks.stay (cell_of (kind_of rule) block) (look.wrongs.fields rule wrong)

  key_noted : (block : ℕ) → Faults.HasBadOwnKey image block → IsNoted last (cell_of BadOwnKey block)
  key_noted block (Faults.HasBadOwnKey.entry_key h n) = let look = entry_look block h.0 h.1 h.2 in field_noted block (Entry look.0 look.1) OwnKey look.2 n
  key_noted block (Faults.HasBadOwnKey.extension_key h n) = let look = extension_look block h.0 h.1 in field_noted block (Extension look.0) OwnKey look.1 n

  parent_noted : (block : ℕ) → Faults.HasBadParent image block → IsNoted last (cell_of BadParent block)
  parent_noted block (Faults.HasBadParent.root_parent e n) = field_noted block Root Parent (root_look block e) n
  parent_noted block (Faults.HasBadParent.entry_parent {dir = d} {s = s} h n) =
      let o = other_look block (Entry d s) Directory d (parent_key image block) h refl n in
      let r = directory_role o.1 o.0 o.2 in
      field_noted block (Entry o.0 r.0) Parent (subst (λ (x : Role). IsLookedAt image w.looked (step_of block x)) r.1 o.4) o.3
  parent_noted block (Faults.HasBadParent.extension_file {file = f} h n) =
      let o = other_look block (Extension f) ExtensionFile f (parent_key image block) h refl n in
      field_noted block (Extension o.0) Parent (subst (λ (x : Role). IsLookedAt image w.looked (step_of block x)) (extension_role o.1 o.0 o.2) o.4) o.3
  parent_noted block (Faults.HasBadParent.data_file {file = f} ofs h n) =
      let o = other_look block (Data f) DataFile f (own_key image block) h refl n in
      field_noted block (Data o.0) Parent (subst (λ (x : Role). IsLookedAt image w.looked (step_of block x)) (data_role o.1 o.0 o.2) o.4) (ofs, o.3)

  chain_noted : (block : ℕ) → Faults.IsInWrongChain image block → IsNoted last (cell_of WrongChain block)
  chain_noted block h =
      let o = other_look block (Entry h.dir h.slot_of_chain) Slot h.slot_of_chain (slot (text_at image block NAME_BYTE)) h.reached refl h.wrong in
      let r = slot_role o.1 o.0 o.2 in
      field_noted block (Entry r.0 o.0) Chain (subst (λ (x : Role). IsLookedAt image w.looked (step_of block x)) r.1 o.4) (record { short = h.short; wrong = o.3 })

  bad_name_noted : (block : ℕ) → HasName image block → HasWrongName image block → IsNoted last (cell_of BadName block)
  bad_name_noted block (HasName.root_name e) bad = field_noted block Root Name (root_look block e) bad
  bad_name_noted block (HasName.entry_name h) bad = let look = entry_look block h.0 h.1 h.2 in field_noted block (Entry look.0 look.1) Name look.2 bad

  comment_noted : (block : ℕ) → Faults.HasBadComment image block → IsNoted last (cell_of BadComment block)
  comment_noted block (Faults.HasBadComment.directory_comment h k) = let look = entry_look block h.dir h.slot_of_chain h.reached in field_noted block (Entry look.0 look.1) Comment look.2 (inl h.secondary, k)
  comment_noted block (Faults.HasBadComment.file_comment h k) = let look = entry_look block h.dir h.slot_of_chain h.reached in field_noted block (Entry look.0 look.1) Comment look.2 (inr h.secondary, k)

  pointers_noted : (block : ℕ) → Faults.HasPointers image block → HasOtherCount image block → IsNoted last (cell_of BadCount block)
  pointers_noted block (Faults.HasPointers.file_pointers h) n = let look = entry_look block h.dir h.slot_of_chain h.reached in field_noted block (Entry look.0 look.1) PointerCount look.2 (h.secondary, n)
  pointers_noted block (Faults.HasPointers.extension_pointers h) n = let look = extension_look block h.0 h.1 in field_noted block (Extension look.0) PointerCount look.1 (inr n)

  pub free_noted : (block : ℕ) (role : Role) → Reached image block role → IsMarkedFree image block → IsNoted last (cell_of MarkedFree block)
  free_noted block role h free = w.after_looks.stay (cell_of MarkedFree block) ((like_look block role h).1.free free)

  pointer_noted : (block : ℕ) → Faults.HasBadPointer image block → IsNoted last (cell_of BadPointer block) ⊎ ShowsFurther image BadPointer block
  pointer_noted block (Faults.HasBadPointer.outside {i = i} {role = r} {next = n} h place out) = inl (w.after_walk.stay (cell_of BadPointer block) (w.outside.noted block i r n h place out))
  pointer_noted block (Faults.HasBadPointer.first_data ofs h wrong) =
      inl (let look = entry_look block h.dir h.slot_of_chain h.reached in field_noted block (Entry look.0 look.1) FirstData look.2 (h.secondary, (ofs, wrong)))
  pointer_noted block (Faults.HasBadPointer.further_data {i = i} {blocks = b} ofs at wrong) = inr (ShowsFurther.placed ofs at Link (λ e. wrong (e ∙ unwrap_or-slice_get b (i + 1) 0)))

  count_noted : (block : ℕ) → Faults.HasBadCount image block → IsNoted last (cell_of BadCount block) ⊎ ShowsFurther image BadCount block
  count_noted block (Faults.HasBadCount.over h l) = inl (pointers_noted block h (inl l))
  count_noted block (Faults.HasBadCount.not_full h l n) = inl (pointers_noted block h (inr (l, n)))
  count_noted block (Faults.HasBadCount.no_pointer h e) = inl (let look = extension_look block h.0 h.1 in field_noted block (Extension look.0) PointerCount look.1 (inl e))
  count_noted block (Faults.HasBadCount.wrong_size d n) = inr (ShowsFurther.size d n)
  count_noted block (Faults.HasBadCount.held_not_full ofs h n) = inr (ShowsFurther.placed ofs h.at TooFew (inr (n, followed h.blocks (h.i + 1) h.followed)))
  count_noted block (Faults.HasBadCount.held_none ofs at e) = inr (ShowsFurther.placed ofs at TooFew (inl e))
  count_noted block (Faults.HasBadCount.held_over ofs at l) = inr (ShowsFurther.placed ofs at TooMany l)
  count_noted block (Faults.HasBadCount.wrong_sum ofs h) = inr (ShowsFurther.sum ofs h)

  pub noted_or_further : (kind : FaultKind) (block : ℕ) → Shows image kind block → IsNoted last (cell_of kind block) ⊎ ShowsFurther image kind block
  noted_or_further NotADosDisk block h = inr (ShowsFurther.disk (record { of_boot = inl refl; shown = (h.0, refl) }) h.1)
  noted_or_further UnsupportedKind block h = inr (ShowsFurther.disk (record { of_boot = inr refl; shown = (h.0, h.1, refl) }) h.2)
  noted_or_further BadSum block h = inl (sum_noted block h.role h.reached h.summed h.wrong)
  noted_or_further BadType block h = inl (type_noted block h)
  noted_or_further BadOwnKey block h = inl (key_noted block h)
  noted_or_further BadParent block h = inl (parent_noted block h)
  noted_or_further BadPointer block h = pointer_noted block h
  noted_or_further BlockUsedTwice block h = inl (w.after_walk.stay (cell_of BlockUsedTwice block) (w.twice.noted block h))
  noted_or_further WrongChain block h = inl (chain_noted block h)
  noted_or_further BadName block h = let name = wrong_name image block h in inl (bad_name_noted block name.0 name.1)
  noted_or_further DuplicateName block h = inr (ShowsFurther.name h)
  noted_or_further BadComment block h = inl (comment_noted block h)
  noted_or_further BadCount block h = count_noted block h
  noted_or_further BadSequence block h = inr (ShowsFurther.placed h.ofs h.at Sequence h.wrong)
  noted_or_further LinkEntry block h = inl (let look = entry_look block h.0.0 h.0.1 h.0.2 in field_noted block (Entry look.0 look.1) NoLink look.2 h.1)
  noted_or_further MarkedFree block h = inl (free_noted block h.role h.reached (record { valid = h.valid; page = h.page; free = h.free }))
  noted_or_further NoMemory block h = absurd h
