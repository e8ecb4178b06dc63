-- What a boot block is after the standard one was installed.
use Rattle.adf_block.proofs.Common.{◌≡◌, ℕ, inl, inr, ◌/◌, ◌%◌, ◌<◌, ◌≤◌, List, length, slice_index, sym, ap, ◌∙◌, arith, length-take, cases_lt, get_or-take, get_or_past, byte_at, HasBoot, HoldsCode, Follows, IsBootCode, IsEmpty, boot_bytes}
use Rattle.adf_block.specs.declared.standard.TheConstants.{STANDARD_BOOT}
use Rattle.adf_block.specs.declared.code.BootCode.TheVariants.{Standard}

-- byte k of the image, by its block
at_byte : (image : List ℕ) (k : ℕ) → byte_at image (k / 512) (k % 512) ≡ slice_index image k
unfolding byte_at
at_byte image k = ap (slice_index image) (omega arith)

-- the bytes of code that was written
module _ (first : ℕ) (code old new : List ℕ) (h : HoldsCode first code old new) where
  held_at : (k : ℕ) → first ≤ k → k < 1024 → slice_index new k ≡ slice_index code k
  held_at k from lt = sym (at_byte new k) ∙ h.byte (k / 512) (k % 512) (omega arith) (omega arith) (omega (arith, from)) ∙ ap (slice_index code) (omega arith)

  follows_code : Follows first code (boot_bytes new)
  follows_code k from lt =
      let inside : k < 1024 = omega (arith, lt, length-take 1024 new) in
      get_or-take 1024 new k 0 inside ∙ held_at k from inside

-- byte 11 is one of code that is there
not_empty : (new : List ℕ) → slice_index new 11 ≡ 112 → ¬ IsEmpty new
not_empty new is empty = elim (cases_lt 11 (length new)) [
  | inl inside ↦
      let zero : slice_index new 11 ≡ 0 = sym (get_or-take 1024 new 11 0 (omega arith)) ∙ empty 11 (omega arith) (omega (arith, inside, length-take 1024 new)) in
      cc (sym is ∙ zero)
  | inr behind ↦ cc (sym is ∙ get_or_past new 11 0 behind)
]

pub is_standard : (old new : List ℕ) → HasBoot STANDARD_BOOT old new → IsBootCode new Standard
is_standard old new (holds, right) = (not_empty new (held_at 8 STANDARD_BOOT old new holds 11 (omega arith) (omega arith)), right, follows_code 8 STANDARD_BOOT old new holds)
