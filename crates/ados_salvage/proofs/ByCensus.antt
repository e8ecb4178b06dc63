-- Headers by the longs of their blocks, as the census looks at them, and by their bytes.
use Rattle.ados_salvage.proofs.KnownCommon.{◌≡◌, ℕ, zero, suc, ◌+◌, ◌-◌, ◌*◌, ◌/◌, ◌%◌, ◌<◌, ◌≤◌, ◌⊎◌, inl, inr, cases_lt, Bool, true, false, IsTrue, ◌↔◌, List, slice_index, All-from_get_or, sym, ap, ◌∙◌, arith, block_count, long, IsInside, IsImage, IsSoundHeader, LooksLikeHeader}
use Rattle.std.proofs.Common.{◌^◌}
use Rattle.adf_block.proofs.Blocks.{byte-bytes_at}
use Rattle.adf_block.proofs.Longs.{byte_at-below, long-bytes}
use Rattle.adf_block.specs.Image.{block_sum, byte_at}
use Rattle.adf_block.specs.Whole.{text_at}
use Rattle.adf_block.specs.declared.layout.TheConstants.{COMMENT_BYTE, DIRECTORY_TYPE, FILE_TYPE, NAME_BYTE, SECONDARY_TYPE}
use Rattle.ados_name.specs.Name.{IsName, IsNameByte}
use Rattle.std.specs.Prelude.{None}
use Rattle.ados_census.specs.Classes.{HasHeading, HasWrongName, IsKind, byte_of}
use Rattle.ados_census.specs.declared.class.BlockKind.TheVariants.{DirectoryHeader, FileHeader}
use Rattle.ados_check.proofs.NameLemmas.{length_text}
use Rattle.ados_check.specs.Marks.{HasEntryType}
use Rattle.ados_chain.proofs.Framing.{name-short}
use Rattle.ados_salvage.specs.ByCensus.{HeadersLookByCensus, SoundHeadersByCensus}

-- byte r of a long
digit : (f : ℕ → ℕ) → ((k : ℕ) → f k < 256) → (r : ℕ) → r < 4
    → (f 0 * 256 ^ 3 + (f 1 * 256 ^ 2 + (f 2 * 256 ^ 1 + (f 3 * 256 ^ 0 + 0)))) / 2 ^ (24 - 8 * r) % 2 ^ 8 ≡ f r
digit f small zero l = omega (arith, small 0, small 1, small 2, small 3)
digit f small (suc zero) l = omega (arith, small 0, small 1, small 2, small 3)
digit f small (suc (suc zero)) l = omega (arith, small 0, small 1, small 2, small 3)
digit f small (suc (suc (suc zero))) l = omega (arith, small 0, small 1, small 2, small 3)
digit f small (suc (suc (suc (suc r)))) l = absurd (omega (arith, l))

module _ (image : List ℕ) (block : ℕ) (im : IsImage image) where
  -- a byte by the longs of its block
  byte_is : (p : ℕ) → byte_of (long image block) p ≡ byte_at image block p
  byte_is p =
      let at : 4 * (p / 4) + p % 4 ≡ p = omega arith in
      ap (λ (n : ℕ). n / 2 ^ (24 - 8 * (p % 4)) % 2 ^ 8) (long-bytes image block (p / 4))
      ∙ digit (λ (k : ℕ). byte_at image block (4 * (p / 4) + k)) (λ k. byte_at-below image block (4 * (p / 4) + k) im) (p % 4) (omega arith)
      ∙ ap (byte_at image block) at

  -- letter k of the name
  letter : (k : ℕ) → k < byte_at image block NAME_BYTE → slice_index (text_at image block NAME_BYTE) k ≡ byte_of (long image block) (433 + k)
  letter k l = byte-bytes_at image block 433 (byte_at image block NAME_BYTE) k l ∙ sym (byte_is (433 + k))

  module _ (inside : block < block_count image) where
    -- a name that is not wrong is a name
    right_name : ¬ HasWrongName (long image block) → IsName (text_at image block NAME_BYTE)
    right_name right =
        let counted = byte_is NAME_BYTE in
        let short : byte_at image block NAME_BYTE ≤ 30 = elim (cases_lt 30 (byte_at image block NAME_BYTE)) [
          | inl many ↦ absurd (right (inr (inl (omega (arith, many, counted)))))
          | inr few ↦ few
        ] in
        let some : 0 < byte_at image block NAME_BYTE = elim (cases_lt 0 (byte_at image block NAME_BYTE)) [
          | inl more ↦ more
          | inr none ↦ absurd (right (inl (omega (arith, none, counted))))
        ] in
        let size = length_text image block inside short in
        record {
          not_empty = omega (arith, some, size);
          short = omega (arith, short, size);
          plain = All-from_get_or IsNameByte (text_at image block NAME_BYTE) 0 (λ k l.
              let there : k < byte_at image block NAME_BYTE = omega (arith, l, size) in
              let same = letter k there in
              let within : 433 + k ≤ NAME_BYTE + byte_of (long image block) NAME_BYTE = omega (arith, there, counted) in
              record {
                byte = omega (arith, same, byte_is (433 + k), byte_at-below image block (433 + k) im);
                no_slash = λ e. right (inr (inr (433 + k, (omega arith, within, inl (sym same ∙ e)))));
                no_colon = λ e. right (inr (inr (433 + k, (omega arith, within, inr (sym same ∙ e)))));
              });
        }

    -- a name is not wrong
    not_wrong : IsName (text_at image block NAME_BYTE) → ¬ HasWrongName (long image block)
    not_wrong name wrong =
        let counted = byte_is NAME_BYTE in
        let short = name-short image block inside name in
        let size = length_text image block inside short in
        elim wrong [
          | inl none ↦ omega (arith, name.not_empty, size, counted, none)
          | inr (inl many) ↦ omega (arith, short, counted, many)
          | inr (inr (p, (above, within, separator))) ↦
              (let there : p - 433 < byte_at image block NAME_BYTE = omega (arith, above, within, counted) in
              let at : 433 + (p - 433) ≡ p = omega (arith, above) in
              let same = letter (p - 433) there ∙ ap (λ (q : ℕ). byte_of (long image block) q) at in
              let right = name.plain (p - 433) 0 (omega (arith, there, size)) in
              elim separator [
                | inl e ↦ right.no_slash (same ∙ e)
                | inr e ↦ right.no_colon (same ∙ e)
              ])
        ]

  heading : (secondary : ℕ) → LooksLikeHeader image block → long image block SECONDARY_TYPE ≡ secondary → HasHeading secondary block (long image block)
  heading secondary h is = record { primary = h.primary; own_key = h.key_field; secondary_type = is; name = not_wrong h.inside.1 h.name }

  headed : (secondary : ℕ) → IsInside (block_count image) block → HasEntryType image block → HasHeading secondary block (long image block) → LooksLikeHeader image block
  headed secondary inside entry h = record { inside = inside; primary = h.primary; secondary = entry; key_field = h.own_key; name = right_name inside.1 h.name }

pub headers_look : HeadersLookByCensus
headers_look image block im inside = (to, from)
  where
    to : LooksLikeHeader image block → HasHeading FILE_TYPE block (long image block) ⊎ HasHeading DIRECTORY_TYPE block (long image block)
    to h = elim h.secondary [
      | inl directory ↦ inr (heading image block im DIRECTORY_TYPE h directory)
      | inr file ↦ inl (heading image block im FILE_TYPE h file)
    ]

    from : HasHeading FILE_TYPE block (long image block) ⊎ HasHeading DIRECTORY_TYPE block (long image block) → LooksLikeHeader image block
    from (inl file) = headed image block im FILE_TYPE inside (inr file.secondary_type) file
    from (inr directory) = headed image block im DIRECTORY_TYPE inside (inl directory.secondary_type) directory

pub sound_headers : SoundHeadersByCensus
sound_headers image block im = (to, from)
  where
    comment_is : byte_of (long image block) COMMENT_BYTE ≡ byte_at image block COMMENT_BYTE
    comment_is = byte_is image block im COMMENT_BYTE

    to : IsSoundHeader image block → IsKind image block FileHeader None ⊎ IsKind image block DirectoryHeader None
    to h =
        let looks : LooksLikeHeader image block = record { inside = h.inside; primary = h.primary; secondary = h.secondary; key_field = h.key_field; name = h.name } in
        elim ((headers_look image block im h.inside).0 looks) [
          | inl file ↦ inl (record { fields = record { inside = h.inside; looks = file; others = omega (arith, h.comment, comment_is) }; sum = h.sum })
          | inr directory ↦ inr (record { fields = record { inside = h.inside; looks = directory; others = omega (arith, h.comment, comment_is) }; sum = h.sum })
        ]

    sound : LooksLikeHeader image block → byte_of (long image block) COMMENT_BYTE ≤ 79 → block_sum image block ≡ 0 → IsSoundHeader image block
    sound l comment sum = record {
      inside = l.inside;
      primary = l.primary;
      secondary = l.secondary;
      key_field = l.key_field;
      sum = sum;
      name = l.name;
      comment = omega (arith, comment, comment_is);
    }

    from : IsKind image block FileHeader None ⊎ IsKind image block DirectoryHeader None → IsSoundHeader image block
    from (inl s) = sound ((headers_look image block im s.fields.inside).1 (inl s.fields.looks)) s.fields.others s.sum
    from (inr s) = sound ((headers_look image block im s.fields.inside).1 (inr s.fields.looks)) s.fields.others s.sum

-- one of two, by a first test that holds
pub first_holds : {A B C : Type 0} {r : Bool} → r ≡ true → IsTrue r ↔ A → C ↔ (A ⊎ B) → IsTrue r ↔ C
first_holds holds first both = (λ t. both.1 (inl (first.0 t)), λ c. holds)

-- one of two, by a second test after a first one that does not hold
pub second_holds : {A B C : Type 0} {r s : Bool} → r ≡ false → IsTrue r ↔ A → IsTrue s ↔ B → C ↔ (A ⊎ B) → IsTrue s ↔ C
second_holds fails first second both = (
  λ t. both.1 (inr (second.0 t)),
  λ c. elim (both.0 c) [
    | inl a ↦ (let same : true ≡ false = sym (first.1 a) ∙ fails in absurd (cc same))
    | inr b ↦ second.1 b
  ],
)
