-- A change of fields in blocks of keys leaves all bytes outside fields and the bitmap untouched.
use Rattle.ados_change.proofs.Common.{◌≡◌, ◌≢◌, ℕ, ◌-◌, ◌/◌, ◌<◌, ◌≤◌, ◌⊎◌, inl, inr, List, Some, refl, ◌∙◌, arith, byte_at, long, HasText, format_of, COMMENT_BYTE, NAME_BYTE, SameBut, same_long, same_weaken, IsName, IsComment, Node, Tree, root, Duty, Stands, HasFileKey, IsImage, Kept, KeepsRest, KeepsUntold, KeepsUses, KeepsData, data_at, IsWritten, of_node, of_name, of_comment, sum, bits, date, disk, KeepsKinds}
use Rattle.ados_change.proofs.EntriesKept.{changed_kept, unwritten, written_changed}
use Rattle.ados_change.proofs.EntriesUntold.{keeps_freed, marks_stay, past_end}
use Rattle.ados_change.proofs.FilesStay.{data_blocks_stay, data_serves, extension_blocks_stay, file_of_key, files_stay}
use Rattle.ados_change.proofs.Keeping.{none_taken}
use Rattle.ados_change.proofs.Retells.{Telling}

-- byte i is in the checksum, or after a file's pointers but not in its size or extension
abbrev pub IsTold : Tree → ℕ → ℕ → Type 0
IsTold t b i = (i / 4 ≡ 5) ⊎ ((320 ≤ i) × (i < 504) × (i / 4 ≢ 81))

module _ (old new : List ℕ) (t : Tree) (s : Stands old t) where
  module _ (changed : ℕ → ℕ → Type 0) (h : SameBut changed old new) (written : (b i : ℕ) → changed b i → IsWritten old t s new b i) (told : (b i : ℕ) → changed b i → IsTold t b i) where
    footprint : SameBut (IsWritten old t s new) old new
    footprint = same_weaken changed (IsWritten old t s new) old new written h

    -- ---- what no tree determines

    link_stays : (b : ℕ) → long new b 126 ≡ long old b 126
    link_stays b = same_long changed old new h b 126 (omega arith) (λ k e w. elim (told b k w) [ inl f ↦ omega (arith, e, f) | inr f ↦ omega (arith, e, f.1) ])

    size_stays : (b : ℕ) → long new b 81 ≡ long old b 81
    size_stays b = same_long changed old new h b 81 (omega arith) (λ k e w. elim (told b k w) [ inl f ↦ omega (arith, e, f) | inr f ↦ f.2 e ])

    format_stays : format_of new ≡ format_of old
    format_stays = let kind : byte_at new 0 3 ≡ byte_at old 0 3 = h.same_byte 0 3 (omega arith) (λ w. elim (told 0 3 w) [ inl f ↦ omega (arith, f) | inr f ↦ omega (arith, f.0) ]) in rw kind refl

    -- no data block is written
    data_stays : (file : ℕ) → HasFileKey old file → KeepsData old new file
    data_stays file key =
        let pointers : (b i : ℕ) → i < 72 → long new b (77 - i) ≡ long old b (77 - i) = λ b i l. same_long changed old new h b (77 - i) (omega arith) (λ k e w. omega (arith, e, l, told b k w)) in
        record {
          blocks = data_blocks_stay old new link_stays pointers format_stays file (size_stays file);
          extensions = extension_blocks_stay old new link_stays pointers format_stays file (size_stays file);
          bytes = λ q i l m. footprint.same_byte (data_at old file q) i m (unwritten old t s new (data_at old file q) i (Duty.Data file q) (data_serves old t s file (file_of_key old t s file key) q l) (λ z. cc z));
        }

    pub fields_kept : Kept old new
    fields_kept = changed_kept old new t s (written_changed old t s new old new footprint)

    pub fields_untold : KeepsUntold old new
    fields_untold = files_stay old new (past_end old new t s footprint) (λ file was is. data_stays file was)

    pub keeps_fields : KeepsUses old new → KeepsKinds old new → IsImage new → KeepsRest old new
    keeps_fields uses kinds is = record {
      kept = fields_kept;
      lowest = none_taken old new (λ b inside free. marks_stay old new t s footprint b inside ∙ free);
      freed = keeps_freed old new t s footprint;
      untold = fields_untold;
      uses = uses;
      kinds = kinds;
      bytes = λ was. is;
    }

  -- ---- the bytes for a node

  -- they are none of the fields of a file's data
  pub telling_told : (key : ℕ) (after : Node) → IsName after.name → IsComment after.comment → (i : ℕ) → Telling t key after i → IsTold t key i
  telling_told key after name short i (Telling.sum e) = inl e
  telling_told key after name short i (Telling.date l m) = inr (omega (arith, l), omega (arith, m), λ z. omega (arith, l, z))
  telling_told key after name short i (Telling.root_name e l m) = inr (omega (arith, l), omega (arith, m, name.short), λ z. omega (arith, l, z))
  telling_told key after name short i (Telling.disk_date e l m) = inr (omega (arith, l), omega (arith, m), λ z. omega (arith, l, z))
  telling_told key after name short i (Telling.bits n l m) = inr (l, omega (arith, m), λ z. omega (arith, m, z))
  telling_told key after name short i (Telling.comment n l m) = inr (omega (arith, l), omega (arith, m, short.short), λ z. omega (arith, l, z))

  pub telling_written : (key : ℕ) (node after : Node) → t.nodes key ≡ Some node → IsName after.name → IsComment after.comment → (key ≡ root t → HasText new key NAME_BYTE after.name) → (key ≢ root t → HasText new key COMMENT_BYTE after.comment)
      → (i : ℕ) → Telling t key after i → IsWritten old t s new key i
  telling_written key node after at valid short name comment i (Telling.sum e) = of_node node at (sum e)
  telling_written key node after at valid short name comment i (Telling.date l m) = of_node node at (date (omega (arith, l)) (omega (arith, m)))
  telling_written key node after at valid short name comment i (Telling.root_name e l m) = of_name node at (l, omega (arith, m, (name e).counted)) (omega (arith, m, valid.short))
  telling_written key node after at valid short name comment i (Telling.disk_date e l m) = of_node node at (disk e (omega (arith, l)) (omega (arith, m)))
  telling_written key node after at valid short name comment i (Telling.bits n l m) = of_node node at (bits n (omega (arith, l, m)))
  telling_written key node after at valid short name comment i (Telling.comment n l m) = of_comment node at n (l, omega (arith, m, (comment n).counted)) (omega (arith, m, short.short))
