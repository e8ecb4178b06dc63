-- The headers of an accepted image, one by one.
use Rattle.ados_salvage.proofs.KnownCommon.{ℕ, ◌<◌, ◌≤◌, ◌⊎◌, inl, inr, List, All, arith, block_count, LooksLikeHeader}
use Rattle.ados_model.specs.Faults.{IsEntry}
use Rattle.ados_salvage.specs.Found.{AreHidden, IsHidden, IsLostHeader}
use Rattle.ados_salvage.proofs.Splitting.{Splits}

-- a block that looks like a header only as an entry, or as a sound header among the lost blocks
abbrev pub IsToldIn : List ℕ → ℕ → Type 0
IsToldIn image block = LooksLikeHeader image block → IsEntry image block ⊎ IsLostHeader image block

-- all blocks of the image are split
pub hidden_by : (image : List ℕ) (n : ℕ) (headers : List ℕ) → block_count image ≤ n → Splits (IsHidden image) (IsToldIn image) n headers → AreHidden image headers
hidden_by image n headers size h = record {
  each = λ block looks. elim (h.each block (omega (arith, size, looks.inside.1))) [
    | inl told ↦ inl (told looks)
    | inr there ↦ inr there
  ];
  only = h.only;
}

-- hidden headers are blocks of the image
pub hidden_inside : (image headers : List ℕ) → AreHidden image headers → All (λ header. header < block_count image) headers
hidden_inside image headers h k d l = (h.only k d l).looks.inside.1
