-- An image that represents a tree shows no fault.
use Rattle.ados_model.proofs.Common.{◌≡◌, ℕ, zero, suc, ◌+◌, ◌*◌, ◌<◌, ◌≤◌, ◌⊎◌, inl, inr, List, [], ◌∷◌, length, take, drop, slice_index, Contains, refl, sym, ap, ap₂, ◌∙◌, subst, arith, ◌==◌, if◌then◌else◌, get_or_default, take-take, All-contains, Format, Ofs, Ffs, byte_at, bytes_at, long, block_sum, HasText, primary_type, parent_key, secondary_type, format_of, byte-bytes_at, Same, slot, IsName, IsNameByte, Content, Node, Tree, root, name_of, size_of, data_count, Directory, File, FILE_TYPE, COMMENT_BYTE, NAME_BYTE, text_at, Duty, HasDuty, Stands, HasNode, HasEntry, format_byte, type_of, HasFile, HasExtension, HasOfsData, kind_bytes, Role, IsOfs, IsEntry, IsLinkType, Reached, PlaceNames, HasName, root_of, FaultsHaveNoTree}
use Rattle.ados_model.specs.declared.fault.FaultKind.TheVariants.{NotADosDisk, UnsupportedKind, BadSum, BadType, BadOwnKey, BadParent, BadPointer, BlockUsedTwice, WrongChain, BadName, DuplicateName, BadComment, BadCount, BadSequence, LinkEntry, MarkedFree, NoMemory}
use Rattle.ados_model.specs.Faults
use Rattle.ados_model.specs.declared.role.Role.TheVariants as roles
use Rattle.ados_model.proofs.Standing.{StandsAt, IsFileNode, IsEntryNode, entry_at, file_at, reached_stands, same_place, inside_at, serves_at, duty_of, leads, LeadsTo, root_at, root_is, holder_of, long_of}
use Rattle.ados_model.proofs.FileBlocks.{IsWhole}
use Rattle.ados_model.proofs.FileFaults.{WholeFile, AreWhole, first_link, next_link, no_bad_sequence, no_bad_count}

-- the first bytes of a part of a block
front_of : (image : List ℕ) (b i m n : ℕ) → m ≤ n → bytes_at image b i m ≡ take m (bytes_at image b i n)
unfolding bytes_at
front_of image b i m n l = sym (take-take m n (drop (512 * b + i) image) l)

pub text_is : (image : List ℕ) (b i : ℕ) (text : List ℕ) → HasText image b i text → text_at image b i ≡ text
text_is image b i text h = ap (bytes_at image b (i + 1)) h.counted ∙ h.follows

ofs_byte : (f : Format) → format_byte f ≡ 0 → f ≡ Ofs
ofs_byte Ofs e = refl
ofs_byte Ffs e = absurd (omega (arith, e))

format_small : (f : Format) → format_byte f ≤ 1
format_small Ofs = omega arith
format_small Ffs = omega arith

format_from_byte : (f : Format) → (if format_byte f == 0 then Ofs else Ffs) ≡ f
format_from_byte Ofs = refl
format_from_byte Ffs = refl

-- the boot block of a format
module _ (image : List ℕ) (format : Format) (boot : bytes_at image 0 0 4 ≡ kind_bytes format) where
  pub is_dos : bytes_at image 0 0 3 ≡ 68 ∷ 79 ∷ 83 ∷ []
  is_dos = front_of image 0 0 3 4 (omega arith) ∙ ap (take 3) boot

  format_at : byte_at image 0 3 ≡ format_byte format
  format_at = sym (byte-bytes_at image 0 0 4 3 (omega arith)) ∙ ap (λ (bytes : List ℕ). slice_index bytes 3) boot

  pub is_known : byte_at image 0 3 ≤ 1
  is_known = omega (arith, format_at, format_small format)

-- the use of a header or extension block of a file
abbrev header_duty : ℕ → ℕ → Duty
header_duty file zero = Duty.Key
header_duty file (suc k) = Duty.Extension file k

one_header : (file p q : ℕ) → header_duty file p ≡ header_duty file q → p ≡ q
one_header file zero zero e = refl
one_header file zero (suc q) e = absurd (cc e)
one_header file (suc p) zero e = absurd (cc e)
one_header file (suc p) (suc q) e = let places : p ≡ q = cc e in ap (λ (n : ℕ). suc n) places

module _ (image : List ℕ) (t : Tree) (s : Stands image t) where
  ofs : IsOfs image → t.format ≡ Ofs
  ofs h = ofs_byte t.format (sym (format_at image t.format s.boot) ∙ h)

  format_same : format_of image ≡ t.format
  format_same = ap (λ (n : ℕ). if n == 0 then Ofs else Ffs) (format_at image t.format s.boot) ∙ format_from_byte t.format

  -- an entry is a node, with the fields of an entry
  record EntryFields (dir r block : ℕ) : Type 0 where
    of_node : IsEntryNode image t s dir r block
    as_node : HasNode image block of_node.node
    as_entry : HasEntry image block of_node.node dir

  entry : {dir r block : ℕ} → Reached image block (roles.Entry dir r) → EntryFields dir r block
  entry {dir} {r} {block} h =
      let at = reached_stands image t s h in
      let n = entry_at image t s dir r at.0 block at.1 in
      record { of_node = n; as_node = s.nodes block n.node n.at; as_entry = s.entries block dir n.node n.at n.parent }

  root_node : HasNode image (root t) s.proper.root_node.0
  root_node = s.nodes (root t) s.proper.root_node.0 s.proper.root_node.1

  -- an extension block with its fields
  extension : {file block : ℕ} → Reached image block (roles.Extension file) → HasExtension image file block
  extension {file} {block} h =
      let at = reached_stands image t s h in
      let f = at.1.holder in
      subst (HasExtension image file) at.1.here ((s.files file f.node f.bytes f.at f.content).extension at.0 at.1.within)

  -- an OFS data block with its fields
  record DataFields (file block : ℕ) : Type 0 where
    size : ℕ
    place : ℕ
    fields : HasOfsData image file size place block

  ofs_data : {file block : ℕ} → IsOfs image → Reached image block (roles.Data file) → DataFields file block
  ofs_data {file} {block} o h =
      let at = reached_stands image t s h in
      let f = at.1.holder in
      let fields = (s.files file f.node f.bytes f.at f.content).ofs_data (ofs o) at.0 at.1.within in
      record { size = length f.bytes; place = at.0; fields = subst (HasOfsData image file (length f.bytes) at.0) at.1.here fields }

  entry_type : (c : Content) → (type_of c ≡ 2) ⊎ (type_of c ≡ FILE_TYPE)
  entry_type (Directory keys) = inl refl
  entry_type (File bytes) = inr refl

  no_bad_sum : (block : ℕ) → Faults.HasBadSum image block → ⊥
  no_bad_sum block h = go h.role h.reached h.summed
    where
      go : (role : Role) → Reached image block role → Faults.HasSum image role → ⊥
      go roles.Root r m =
          let at = reached_stands image t s r in
          h.wrong (ap (block_sum image) (root_at image t s at.0 block at.1) ∙ root_node.sum)
      go roles.Page r m =
          let at = reached_stands image t s r in
          h.wrong (s.pages block (at.0, at.1.within, get_or_default s.layout.pages at.0 block 0 at.1.within ∙ at.1.here))
      go (roles.Entry dir q) r m = h.wrong (entry r).as_node.sum
      go (roles.Data file) r m = h.wrong (ofs_data m r).fields.sum
      go (roles.Extension file) r m = h.wrong (extension r).sum

  at_root : {block : ℕ} → block ≡ root_of image → block ≡ root t
  at_root e = e ∙ root_is image t s

  no_bad_type : (block : ℕ) → Faults.HasBadType image block → ⊥
  no_bad_type block (Faults.HasBadType.root_primary e n) = n (ap (primary_type image) (at_root e) ∙ root_node.primary)
  no_bad_type block (Faults.HasBadType.root_table e n) = n (ap (λ (b : ℕ). long image b 3) (at_root e) ∙ s.root_fields.table_size)
  no_bad_type block (Faults.HasBadType.root_secondary e n) = n (ap (secondary_type image) (at_root e) ∙ s.root_fields.secondary)
  no_bad_type block (Faults.HasBadType.entry_primary h n) = n (entry h.2).as_node.primary
  no_bad_type block (Faults.HasBadType.entry_secondary h n m l) =
      let e = entry h.2 in
      elim (entry_type e.of_node.node.content) [ inl k ↦ n (e.as_entry.secondary ∙ k) | inr k ↦ m (e.as_entry.secondary ∙ k) ]
  no_bad_type block (Faults.HasBadType.extension_primary h n) = n (extension h.1).primary
  no_bad_type block (Faults.HasBadType.extension_secondary h n) = n (extension h.1).secondary
  no_bad_type block (Faults.HasBadType.data_primary o h n) = n (ofs_data o h.1).fields.primary

  no_bad_own_key : (block : ℕ) → Faults.HasBadOwnKey image block → ⊥
  no_bad_own_key block (Faults.HasBadOwnKey.entry_key h n) = n (entry h.2).as_entry.key_field
  no_bad_own_key block (Faults.HasBadOwnKey.extension_key h n) = n (extension h.1).key_field

  no_bad_parent : (block : ℕ) → Faults.HasBadParent image block → ⊥
  no_bad_parent block (Faults.HasBadParent.root_parent e n) = n (ap (parent_key image) (at_root e) ∙ s.root_fields.parent)
  no_bad_parent block (Faults.HasBadParent.entry_parent h n) = n (entry h).as_entry.parent
  no_bad_parent block (Faults.HasBadParent.extension_file h n) = n (extension h).parent
  no_bad_parent block (Faults.HasBadParent.data_file o h n) = n (ofs_data o h).fields.header

  no_wrong_chain : (block : ℕ) → Faults.IsInWrongChain image block → ⊥
  no_wrong_chain block h =
      let e = entry h.reached in
      h.wrong (ap slot (text_is image block NAME_BYTE e.of_node.node.name e.as_node.name) ∙ e.of_node.slotted)

  -- a block with a name is a node
  record NamedNode (block : ℕ) : Type 0 where
    node : Node
    fields : HasNode image block node
    name : IsName node.name

  named_node : (block : ℕ) → HasName image block → NamedNode block
  named_node block (HasName.root_name e) =
      let m = s.proper.root_node in
      record { node = m.0; fields = s.nodes block m.0 (ap t.nodes (at_root e) ∙ m.1); name = s.proper.name (root t) m.0 m.1 }
  named_node block (HasName.entry_name h) =
      let e = entry h.2 in
      record { node = e.of_node.node; fields = e.as_node; name = s.proper.name block e.of_node.node e.of_node.at }

  no_separator : (block c : ℕ) → HasName image block → Contains (text_at image block NAME_BYTE) c → IsNameByte c
  no_separator block c h m =
      let n = named_node block h in
      All-contains IsNameByte n.node.name c n.name.plain (subst (λ (text : List ℕ). Contains text c) (text_is image block NAME_BYTE n.node.name n.fields.name) m)

  no_bad_name : (block : ℕ) → Faults.HasBadName image block → ⊥
  no_bad_name block (Faults.HasBadName.empty h e) =
      let n = named_node block h in omega (arith, n.name.not_empty, n.fields.name.counted, e)
  no_bad_name block (Faults.HasBadName.long_name h l) =
      let n = named_node block h in omega (arith, n.name.short, n.fields.name.counted, l)
  no_bad_name block (Faults.HasBadName.slash h m) = (no_separator block 47 h m).no_slash refl
  no_bad_name block (Faults.HasBadName.colon h m) = (no_separator block 58 h m).no_colon refl

  no_duplicate_name : (block : ℕ) → Faults.HasDuplicateName image block → ⊥
  no_duplicate_name block h =
      let e = entry h.reached in
      let f = entry h.other_reached in
      let name_e : name_of t block ≡ e.of_node.node.name = rw e.of_node.at refl in
      let name_f : name_of t h.other ≡ f.of_node.node.name = rw f.of_node.at refl in
      let text_e = name_e ∙ sym (text_is image block NAME_BYTE e.of_node.node.name e.as_node.name) in
      let text_f = name_f ∙ sym (text_is image h.other NAME_BYTE f.of_node.node.name f.as_node.name) in
      let same : Same (name_of t block) (name_of t h.other) = subst (λ (n : List ℕ). Same n (name_of t h.other)) (sym text_e) (subst (Same (text_at image block NAME_BYTE)) (sym text_f) h.same) in
      h.two (s.proper.unlike h.dir block h.other e.of_node.listed f.of_node.listed same)

  short_comment : {dir r block : ℕ} → Reached image block (roles.Entry dir r) → byte_at image block COMMENT_BYTE ≤ 79
  short_comment {block = block} h =
      let e = entry h in
      let valid = s.proper.comment block e.of_node.node e.of_node.at in
      omega (arith, valid.short, e.as_entry.comment.counted)

  no_bad_comment : (block : ℕ) → Faults.HasBadComment image block → ⊥
  no_bad_comment block (Faults.HasBadComment.directory_comment h l) = omega (arith, short_comment h.reached, l)
  no_bad_comment block (Faults.HasBadComment.file_comment h l) = omega (arith, short_comment h.reached, l)

  no_link : (block : ℕ) → IsEntry image block → IsLinkType (secondary_type image block) → ⊥
  no_link block h l =
      let e = entry h.2 in
      go (type_of e.of_node.node.content) (entry_type e.of_node.node.content) e.as_entry.secondary l
    where
      go : (c : ℕ) → (c ≡ 2) ⊎ (c ≡ FILE_TYPE) → secondary_type image block ≡ c → IsLinkType (secondary_type image block) → ⊥
      go n (inl a) b (inl c) = omega (arith, a, b, c)
      go n (inl a) b (inr (inl c)) = omega (arith, a, b, c)
      go n (inl a) b (inr (inr c)) = omega (arith, a, b, c)
      go n (inr a) b (inl c) = omega (arith, a, b, c)
      go n (inr a) b (inr (inl c)) = omega (arith, a, b, c)
      go n (inr a) b (inr (inr c)) = omega (arith, a, b, c)

module _ (image : List ℕ) (t : Tree) (s : Stands image t) where
  -- the block that a place names
  record Target (holder i block : ℕ) : Type 0 where
    next : Role
    to : LeadsTo image t s holder i next
    stands : StandsAt image t s next to.place block

  target : (holder i block : ℕ) → PlaceNames image holder i block → Target holder i block
  target holder i block n =
      let at = reached_stands image t s n.reached in
      let to = leads image t s at.0 at.1 n.place in
      record { next = n.next; to = to; stands = subst (StandsAt image t s n.next to.place) n.names to.stands }

  one_holder : (block holder other i j : ℕ) → PlaceNames image holder i block → PlaceNames image other j block → (holder ≡ other) × (i ≡ j)
  one_holder block holder other i j m n =
      let a = target holder i block m in
      let b = target other j block n in
      let same = same_place image t s a.next b.next a.to.place b.to.place block a.stands b.stands in (
        a.to.by_block ∙ ap₂ (holder_of image t s) same.0 same.1 ∙ sym b.to.by_block,
        a.to.by_long ∙ ap₂ (long_of image t s) same.0 same.1 ∙ sym b.to.by_long,
      )

  none_used_twice : (block : ℕ) → Faults.IsUsedTwice image block → ⊥
  none_used_twice block (Faults.IsUsedTwice.two_holders {holder = a} {other = b} inside m n d) = d (one_holder block a b m.0 n.0 m.1 n.1).0
  none_used_twice block (Faults.IsUsedTwice.two_longs {holder = a} {i = i} {j = j} inside m n d) = d (one_holder block a a i j m n).1
  none_used_twice block (Faults.IsUsedTwice.root_named {holder = a} {i = i} e n) =
      let b = target a i block n in
      let root_stands : StandsAt image t s roles.Root 0 block = record { within = omega arith; here = sym (at_root image t s e); holder = tt } in
      b.to.not_root (same_place image t s b.next roles.Root b.to.place 0 block b.stands root_stands).0

  -- ---- the files

  whole_file : (file : ℕ) → IsFileNode image t s file → WholeFile image file
  whole_file file f = record { blocks = s.layout.file_data file; extensions = s.layout.extensions file; bytes = f.bytes; whole = whole }
    where
      size : size_of t file ≡ length f.bytes
      size = rw (f.at, f.content) refl

      stands : (k : ℕ) → k < length (s.layout.extensions file) → StandsAt image t s (roles.Extension file) k (slice_index (s.layout.extensions file) k)
      stands k l = record { within = l; here = refl; holder = f }

      serves : (k : ℕ) → k ≤ length (s.layout.extensions file) → HasDuty t s.layout (slice_index (file ∷ s.layout.extensions file) k) (header_duty file k)
      serves zero l = rw f.at refl
      serves (suc k) l = serves_at image t s (roles.Extension file) k _ (stands k (omega arith))

      whole : IsWhole image file (s.layout.file_data file) (s.layout.extensions file) f.bytes
      whole = record {
        holds = subst (λ (format : Format). HasFile image format file (s.layout.file_data file) (s.layout.extensions file) f.bytes) (sym (format_same image t s)) (s.files file f.node f.bytes f.at f.content);
        data_fits = s.fits.file_data file ∙ ap₂ data_count (sym (format_same image t s)) size;
        extensions_fit = s.fits.extensions file;
        inside = λ i l. inside_at image t s (roles.Extension file) i _ (stands i l);
        once = λ p q l m e. one_header file p q (s.fits.one_duty _ (header_duty file p) (header_duty file q) (serves p l) (subst (λ (b : ℕ). HasDuty t s.layout b (header_duty file q)) (sym e) (serves q m)));
      }

  are_whole : AreWhole image
  unfolding whole_file
  are_whole = record {
    file = λ file h. let at = reached_stands image t s h.reached in whole_file file (file_at image t s h.dir h.slot_of_chain at.0 file at.1 h.secondary);
    extension = λ file block h. let at = reached_stands image t s h in record { of_file = whole_file file at.1.holder; place = at.0; within = at.1.within; here = at.1.here };
  }

  no_bad_pointer : (block : ℕ) → Faults.HasBadPointer image block → ⊥
  no_bad_pointer block (Faults.HasBadPointer.outside {i = i} {role = role} {next = next} r p n) =
      let at = reached_stands image t s r in
      let to = leads image t s at.0 at.1 p in
      n (inside_at image t s next to.place (long image block i) to.stands)
  no_bad_pointer block (Faults.HasBadPointer.first_data o h n) = n (first_link image are_whole o block h)
  no_bad_pointer block (Faults.HasBadPointer.further_data {file = file} {i = i} {blocks = blocks} o h n) = n (next_link image are_whole o file i block blocks h)

  none_marked_free : (block : ℕ) → Faults.IsReachedAndFree image block → ⊥
  none_marked_free block h =
      let at = reached_stands image t s h.reached in
      let serves = serves_at image t s h.role at.0 block at.1 in
      s.marked_free block (s.fits.inside block _ serves) h.free (duty_of image t s h.role at.0, serves)

pub faults_have_no_tree : FaultsHaveNoTree
faults_have_no_tree image t NotADosDisk block h s = h.0 (is_dos image t.format s.boot)
faults_have_no_tree image t UnsupportedKind block h s = omega (arith, h.1, is_known image t.format s.boot)
faults_have_no_tree image t BadSum block h s = no_bad_sum image t s block h
faults_have_no_tree image t BadType block h s = no_bad_type image t s block h
faults_have_no_tree image t BadOwnKey block h s = no_bad_own_key image t s block h
faults_have_no_tree image t BadParent block h s = no_bad_parent image t s block h
faults_have_no_tree image t BadPointer block h s = no_bad_pointer image t s block h
faults_have_no_tree image t BlockUsedTwice block h s = none_used_twice image t s block h
faults_have_no_tree image t WrongChain block h s = no_wrong_chain image t s block h
faults_have_no_tree image t BadName block h s = no_bad_name image t s block h
faults_have_no_tree image t DuplicateName block h s = no_duplicate_name image t s block h
faults_have_no_tree image t BadComment block h s = no_bad_comment image t s block h
faults_have_no_tree image t BadCount block h s = no_bad_count image (are_whole image t s) block h
faults_have_no_tree image t BadSequence block h s = no_bad_sequence image (are_whole image t s) block h
faults_have_no_tree image t LinkEntry block h s = no_link image t s block h.0 h.1
faults_have_no_tree image t MarkedFree block h s = none_marked_free image t s block h
faults_have_no_tree image t NoMemory block h s = h
