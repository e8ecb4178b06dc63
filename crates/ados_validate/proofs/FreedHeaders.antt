-- A block that the new bitmap marks free is no bitmap block and not the root, so no byte of it changed.
use Rattle.ados_validate.proofs.Common.{◌≡◌, ℕ, ◌+◌, ◌*◌, ◌<◌, ◌≤◌, inl, inr, List, length, drop, min, sym, ap, ◌∙◌, subst, arith, length-drop, length-take, SameBut, block_count, byte_at, bytes_at, long, text_at, COMMENT_BYTE, NAME_BYTE, same_bytes_at, same_count, same_long, same_sum, IsSoundHeader, Reached, start, IsOfBitmap, FreedHeadersStay}
use Rattle.ados_model.specs.declared.role.Role.TheVariants as roles
use Rattle.ados_validate.proofs.Widened.{turned}

-- a sound header whose bytes are the same in another image
module _ (changed : ℕ → ℕ → Type 0) (a b : List ℕ) (same : SameBut changed a b) (block : ℕ) (un : (k : ℕ) → ¬ changed block k) where
  long_kept : (i : ℕ) → i < 128 → long b block i ≡ long a block i
  long_kept i l = same_long changed a b same block i l (λ k e. un k)

  byte_kept : (i : ℕ) → i < 512 → byte_at b block i ≡ byte_at a block i
  byte_kept i l = same.same_byte block i l (un i)

  -- the length of the text in the name field
  counted : block < block_count a → min (byte_at a block NAME_BYTE) 79 ≤ length (text_at a block NAME_BYTE)
  unfolding bytes_at
  counted l = omega (arith, length-take (byte_at a block NAME_BYTE) (drop (512 * block + 433) a), length-drop (512 * block + 433) a, l)

  sound_kept : IsSoundHeader a block → IsSoundHeader b block
  sound_kept h =
      let count = same_count changed a b same in
      let secondary = long_kept 127 (omega arith) in
      let short : byte_at a block NAME_BYTE ≤ 30 = omega (arith, counted h.inside.1, h.name.short) in
      let text : text_at b block NAME_BYTE ≡ text_at a block NAME_BYTE =
      ap (λ (n : ℕ). bytes_at b block 433 n) (byte_kept NAME_BYTE (omega arith))
      ∙ same_bytes_at changed a b same block 433 (byte_at a block NAME_BYTE) (omega arith) (λ k l m. un k) in
      record {
        inside = (h.inside.0, omega (arith, h.inside.1, count));
        primary = long_kept 0 (omega arith) ∙ h.primary;
        secondary = elim h.secondary [ inl e ↦ inl (secondary ∙ e) | inr e ↦ inr (secondary ∙ e) ];
        key_field = long_kept 1 (omega arith) ∙ h.key_field;
        sum = same_sum changed a b same block (λ k l. un k) ∙ h.sum;
        name = rw (sym text) at h.name;
        comment = omega (arith, h.comment, byte_kept COMMENT_BYTE (omega arith));
      }

pub freed_headers_stay : FreedHeadersStay
freed_headers_stay old new v block inside bit =
    (sound_kept (IsOfBitmap old) new old (turned (IsOfBitmap old) old new v.rest) block apart, sound_kept (IsOfBitmap old) old new v.rest block apart)
  where
    apart : (k : ℕ) → ¬ IsOfBitmap old block k
    apart k (inl page) = v.free block inside bit roles.Page page
    apart k (inr (e, at)) = v.free block inside bit roles.Root (subst (λ (b : ℕ). Reached old b roles.Root) (sym e) start)
