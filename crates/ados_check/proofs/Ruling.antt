-- What a broken rule shows, and that a block which breaks none is sound.
use Rattle.ados_check.proofs.Common.{◌≡◌, ◌≢◌, ℕ, ◌+◌, ◌<◌, ◌≤◌, inl, inr, ◌==◌, List, All, Contains, refl, subst, arith, eq-eqb, cases_Bool, eqb-true, Contains-get_or, block_count, byte_at, secondary_type, IsImage, text_at, COMMENT_BYTE, DIRECTORY_TYPE, FILE_TYPE, NAME_BYTE, HasBadName, HasName, IsFile, Reached, Shows, Role, Root, Page, Entry, Data, Extension, HasEntryType, HasValidName, IsSound, HasBadField, HasBadSumAs, HasBadTypeAs, HasNoType, HasWrongName, kind_of, FieldRule, NoLink, OwnKey, Parent, Name, Chain, Comment, PointerCount, FirstData, FIELD_RULES, root_name, entry_name}
use Rattle.ados_model.specs.Faults
use Rattle.ados_model.specs.Faults.HasBadType.{root_primary, root_table, root_secondary, entry_primary, entry_secondary, extension_primary, extension_secondary, data_primary}
use Rattle.ados_model.specs.Faults.HasBadOwnKey.{entry_key, extension_key}
use Rattle.ados_model.specs.Faults.HasBadParent.{root_parent, entry_parent, extension_file, data_file}
use Rattle.ados_model.specs.Faults.HasBadComment.{directory_comment, file_comment}
use Rattle.ados_model.specs.Faults.HasPointers.{file_pointers, extension_pointers}
use Rattle.ados_check.proofs.NameLemmas.{length_text, valid_name}
use Rattle.ados_check.proofs.Roles.{only_root}
use Rattle.ados_check.proofs.Texts.{bytes_at-small}

pub stable : (a b : ℕ) → ¬ (a ≢ b) → a ≡ b
stable a b h = elim (cases_Bool (a == b)) [
  | inl same ↦ eqb-true a b same
  | inr other ↦ absurd (h (λ e. let same = eq-eqb a b e in cc (same, other)))
]

module _ (image : List ℕ) (block : ℕ) where
  pub type_shows : (role : Role) → Reached image block role → HasBadTypeAs image block role → Faults.HasBadType image block
  type_shows Root h (inl n) = root_primary (only_root h refl) n
  type_shows Root h (inr (inl n)) = root_table (only_root h refl) n
  type_shows Root h (inr (inr n)) = root_secondary (only_root h refl) n
  type_shows Page h n = absurd n
  type_shows (Entry dir s) h (inl n) = entry_primary (dir, s, h) n
  type_shows (Entry dir s) h (inr n) = entry_secondary (dir, s, h) n.0 n.1 n.2
  type_shows (Data file) h n = data_primary n.0 (file, h) n.1
  type_shows (Extension file) h (inl n) = extension_primary (file, h) n
  type_shows (Extension file) h (inr n) = extension_secondary (file, h) n

  file_of : (dir s : ℕ) → Reached image block (Entry dir s) → Faults.HasFileType image block → IsFile image block
  file_of dir s h f = record { dir = dir; slot_of_chain = s; reached = h; secondary = f }

  -- a wrong name of a root or an entry is a fault
  bad_name : HasName image block → HasWrongName image block → HasBadName image block
  bad_name named (inl (inl none)) = HasBadName.empty named none
  bad_name named (inl (inr long)) = HasBadName.long_name named long
  bad_name named (inr (inl found)) = HasBadName.slash named found
  bad_name named (inr (inr found)) = HasBadName.colon named found

  pub field_shows : (role : Role) (rule : FieldRule) → Reached image block role → HasBadField image block role rule → Shows image (kind_of rule) block
  field_shows Root Parent h n = root_parent (only_root h refl) n
  field_shows Root Name h n = bad_name (root_name (only_root h refl)) n
  field_shows (Entry dir s) NoLink h n = ((dir, s, h), n)
  field_shows (Entry dir s) OwnKey h n = entry_key (dir, s, h) n
  field_shows (Entry dir s) Parent h n = entry_parent h n
  field_shows (Entry dir s) Name h n = bad_name (entry_name (dir, s, h)) n
  field_shows (Entry dir s) Chain h n = record { dir = dir; slot_of_chain = s; reached = h; short = n.short; wrong = n.wrong }
  field_shows (Entry dir s) Comment h (inl d, n) = directory_comment (record { dir = dir; slot_of_chain = s; reached = h; secondary = d }) n
  field_shows (Entry dir s) Comment h (inr f, n) = file_comment (file_of dir s h f) n
  field_shows (Entry dir s) PointerCount h (f, inl n) = Faults.HasBadCount.over (file_pointers (file_of dir s h f)) n
  field_shows (Entry dir s) PointerCount h (f, inr n) = Faults.HasBadCount.not_full (file_pointers (file_of dir s h f)) n.0 n.1
  field_shows (Entry dir s) FirstData h n = Faults.HasBadPointer.first_data n.1.0 (file_of dir s h n.0) n.1.1
  field_shows (Data file) Parent h n = data_file n.0 h n.1
  field_shows (Extension file) OwnKey h n = extension_key (file, h) n
  field_shows (Extension file) Parent h n = extension_file h n
  field_shows (Extension file) PointerCount h (inl n) = Faults.HasBadCount.no_pointer (file, h) n
  field_shows (Extension file) PointerCount h (inr (inl n)) = Faults.HasBadCount.over (extension_pointers (file, h)) n
  field_shows (Extension file) PointerCount h (inr (inr n)) = Faults.HasBadCount.not_full (extension_pointers (file, h)) n.0 n.1
  field_shows _ _ h n = absurd n

  -- an entry that is no link and has a type is a directory or a file
  entry_typed : ¬ HasNoType image block → ¬ Faults.HasLinkType image block → HasEntryType image block
  entry_typed types no_link = elim (cases_Bool (secondary_type image block == DIRECTORY_TYPE)) [
    | inl d ↦ inl (eqb-true _ _ d)
    | inr nd ↦ elim (cases_Bool (secondary_type image block == FILE_TYPE)) [
      | inl f ↦ inr (eqb-true _ _ f)
      | inr nf ↦ absurd (types ((λ e. let same = eq-eqb _ _ e in cc (same, nd)), (λ e. let same = eq-eqb _ _ e in cc (same, nf)), no_link))
    ]
  ]

  module _ (im : IsImage image) (inside : block < block_count image) where
    name_right : ¬ HasWrongName image block → HasValidName image block
    name_right right =
        let text = text_at image block NAME_BYTE in
        let not_long : ¬ (30 < byte_at image block NAME_BYTE) = λ l. right (inl (inr l)) in
        let not_none : ¬ (byte_at image block NAME_BYTE ≡ 0) = λ e. right (inl (inl e)) in
        let short : byte_at image block NAME_BYTE ≤ 30 = omega (arith, not_long) in
        let size = length_text image block inside short in
        valid_name image block inside short (record {
          not_empty = omega (arith, size, not_none);
          short = omega (arith, size, short);
          plain = λ k d l. record {
            byte = bytes_at-small image block (NAME_BYTE + 1) (byte_at image block NAME_BYTE) im k d l;
            no_slash = λ e. right (inr (inl (subst (Contains text) e (Contains-get_or text k d l))));
            no_colon = λ e. right (inr (inr (subst (Contains text) e (Contains-get_or text k d l))));
          };
        })

    pub sound : (role : Role) → Reached image block role → ¬ HasBadSumAs image block role → ¬ HasBadTypeAs image block role → All (λ rule. ¬ HasBadField image block role rule) FIELD_RULES
        → IsSound image block role
    sound Root h sum types fields = record {
      primary = stable _ _ (λ n. types (inl n));
      table_size = stable _ _ (λ n. types (inr (inl n)));
      secondary = stable _ _ (λ n. types (inr (inr n)));
      parent = stable _ _ (fields 2 NoLink (omega arith));
      sum = stable _ _ (λ n. sum (tt, n));
      name = name_right (fields 3 NoLink (omega arith));
    }
    sound Page h sum types fields = stable _ _ (λ n. sum (tt, n))
    sound (Entry dir s) h sum types fields =
        let name = name_right (fields 3 NoLink (omega arith)) in
        let short : byte_at image block NAME_BYTE ≤ 30 = omega (arith, name.text.counted, name.valid.short) in
        let typed = entry_typed (λ n. types (inr n)) (fields 0 NoLink (omega arith)) in
        let not_long : ¬ (79 < byte_at image block COMMENT_BYTE) = λ l. fields 5 NoLink (omega arith) (typed, l) in
        record {
          primary = stable _ _ (λ n. types (inl n));
          secondary = typed;
          key_field = stable _ _ (fields 1 NoLink (omega arith));
          parent = stable _ _ (fields 2 NoLink (omega arith));
          sum = stable _ _ (λ n. sum (tt, n));
          name = name;
          slotted = stable _ _ (λ n. fields 4 NoLink (omega arith) (record { short = short; wrong = n }));
          comment = omega (arith, not_long);
        }
    sound (Data file) h sum types fields = λ ofs. record {
      primary = stable _ _ (λ n. types (ofs, n));
      header = stable _ _ (λ n. fields 2 NoLink (omega arith) (ofs, n));
      sum = stable _ _ (λ n. sum (ofs, n));
    }
    sound (Extension file) h sum types fields = record {
      primary = stable _ _ (λ n. types (inl n));
      key_field = stable _ _ (fields 1 NoLink (omega arith));
      sum = stable _ _ (λ n. sum (tt, n));
      parent = stable _ _ (fields 2 NoLink (omega arith));
      secondary = stable _ _ (λ n. types (inr n));
    }
