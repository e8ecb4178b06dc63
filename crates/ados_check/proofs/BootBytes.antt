-- The DOS type of a disk from its first four bytes.
use Rattle.ados_check.proofs.Common.{◌≡◌, ℕ, ◌<◌, ◌==◌, if◌then◌else◌, List, [], ◌∷◌, slice_index, sym, ap, ◌∙◌, arith, byte_at, bytes_at, format_of, IsDos, Ofs, Ffs, byte-bytes_at, format_byte}
use Rattle.ados_model.specs.Phrases.{kind_bytes}

module _ (image : List ℕ) (kind : ℕ) (is : bytes_at image 0 0 4 ≡ 68 ∷ 79 ∷ 83 ∷ kind ∷ []) where
  byte : (k : ℕ) → k < 4 → byte_at image 0 k ≡ slice_index (68 ∷ 79 ∷ 83 ∷ kind ∷ []) k
  byte k l = ap (byte_at image 0) (omega arith) ∙ sym (byte-bytes_at image 0 0 4 k l) ∙ ap (λ (bytes : List ℕ). slice_index bytes k) is

  pub is_dos : IsDos image
  is_dos = (byte 0 (omega arith), byte 1 (omega arith), byte 2 (omega arith))

  pub kind_is : byte_at image 0 3 ≡ kind
  kind_is = byte 3 (omega arith)

  pub names_kind : format_byte (if kind == 0 then Ofs else Ffs) ≡ kind → bytes_at image 0 0 4 ≡ kind_bytes (format_of image)
  names_kind same =
      is ∙ ap (λ (k : ℕ). 68 ∷ 79 ∷ 83 ∷ k ∷ []) (sym same)
      ∙ ap (λ (k : ℕ). 68 ∷ 79 ∷ 83 ∷ format_byte (if k == 0 then Ofs else Ffs) ∷ []) (sym kind_is)
