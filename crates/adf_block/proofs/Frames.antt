-- What stays the same when an image changes only at some places.
use Rattle.adf_block.proofs.Common.{◌≡◌, ◌≢◌, ◌⊎◌, inl, inr, ℕ, ◌+◌, ◌*◌, ◌/◌, ◌%◌, ◌<◌, ◌≤◌, ◌^◌, List, length, take, drop, slice_index, arith, ap, sym, ◌∙◌, length-take, length-drop, cases_lt, ext_get_or, get_or-take, get_or-drop, byte_at, bytes_at, long, total, block_sum, block_count, SameBut, AtLong, InBlock, OnlyLong, OnlyBlock}
use Rattle.adf_block.proofs.Bytes.{with_number, length-with_number, before-with_number, behind-with_number}
use Rattle.adf_block.proofs.Longs.{long-same}
use Rattle.adf_block.proofs.Totals.{total-same, total-one}

-- ---- the whole frame

-- two changes, one after the other
pub same_trans : (changed : ℕ → ℕ → Type 0) (old mid new : List ℕ) → SameBut changed old mid → SameBut changed mid new → SameBut changed old new
same_trans changed old mid new first second = record {
  same_length = second.same_length ∙ first.same_length;
  same_byte = λ b i lt un. second.same_byte b i lt un ∙ first.same_byte b i lt un;
}

-- the set of places that may change can be widened
pub same_weaken : (changed wider : ℕ → ℕ → Type 0) (old new : List ℕ) → ((b i : ℕ) → changed b i → wider b i) → SameBut changed old new → SameBut wider old new
same_weaken changed wider old new within h = record {
  same_length = h.same_length;
  same_byte = λ b i lt un. h.same_byte b i lt (λ at. un (within b i at));
}

-- a change of one long is a change of its block
pub block_from_long : (b i : ℕ) (old new : List ℕ) → OnlyLong b i old new → OnlyBlock b old new
block_from_long b i old new h = same_weaken (AtLong b i) (InBlock b) old new (λ c k at. at.0) h

-- the number of blocks stays the same
pub same_count : (changed : ℕ → ℕ → Type 0) (old new : List ℕ) → SameBut changed old new → block_count new ≡ block_count old
same_count changed old new h = ap (λ (n : ℕ). n / 512) h.same_length

-- ---- what the unchanged places hold

-- a long whose bytes did not change
pub same_long : (changed : ℕ → ℕ → Type 0) (old new : List ℕ) → SameBut changed old new
    → (b i : ℕ) → i < 128 → ((k : ℕ) → k / 4 ≡ i → ¬ changed b k) → long new b i ≡ long old b i
same_long changed old new h b i lt un = long-same old new b i (λ k e. h.same_byte b k (omega arith) (un k e))

-- bytes that did not change
pub same_bytes_at : (changed : ℕ → ℕ → Type 0) (old new : List ℕ) → SameBut changed old new
    → (b i n : ℕ) → i + n ≤ 512 → ((k : ℕ) → i ≤ k → k < i + n → ¬ changed b k) → bytes_at new b i n ≡ bytes_at old b i n
unfolding bytes_at byte_at
same_bytes_at changed old new h b i n room un =
    ext_get_or 0 (take n (drop (512 * b + i) new)) (take n (drop (512 * b + i) old))
    (omega (arith, length-take n (drop (512 * b + i) new), length-take n (drop (512 * b + i) old), length-drop (512 * b + i) new, length-drop (512 * b + i) old, h.same_length))
    (λ k lt.
    let below : k < n = omega (arith, length-take n (drop (512 * b + i) new)) in
    let at : 512 * b + i + k ≡ 512 * b + (i + k) = omega arith in
    let byte : slice_index new (512 * b + (i + k)) ≡ slice_index old (512 * b + (i + k)) = h.same_byte b (i + k) (omega arith) (un (i + k) (omega arith) (omega arith)) in
    get_or-take n (drop (512 * b + i) new) k 0 below
    ∙ get_or-drop (512 * b + i) new k 0
    ∙ ap (slice_index new) at ∙ byte ∙ ap (slice_index old) (sym at)
    ∙ sym (get_or-drop (512 * b + i) old k 0)
    ∙ sym (get_or-take n (drop (512 * b + i) old) k 0 below))

-- the sum of a block that did not change
pub same_sum : (changed : ℕ → ℕ → Type 0) (old new : List ℕ) → SameBut changed old new
    → (b : ℕ) → ((k : ℕ) → k < 512 → ¬ changed b k) → block_sum new b ≡ block_sum old b
unfolding block_sum
same_sum changed old new h b un =
    ap (λ (n : ℕ). n % 2 ^ 32) (total-same (long old b) (long new b) 128 (λ j lt. same_long changed old new h b j lt (λ k e. un k (omega arith))))

-- ---- after a change of one long

-- any other long of the image
pub other_long : (b i : ℕ) (old new : List ℕ) → OnlyLong b i old new
    → (c j : ℕ) → j < 128 → (c ≢ b) ⊎ (j ≢ i) → long new c j ≡ long old c j
other_long b i old new h c j lt apart =
    same_long (AtLong b i) old new h c j lt (λ k e at. elim apart [ inl other ↦ other at.0 | inr other ↦ other (sym e ∙ at.1) ])

-- equal sums are equal modulo 2^32
moved : (t u x y : ℕ) → u + x ≡ t + y → (u % 2 ^ 32 + x) % 2 ^ 32 ≡ (t % 2 ^ 32 + y) % 2 ^ 32
moved t u x y e = omega arith

-- the sum of the block changes by as much as the long
pub changed_sum : (b i : ℕ) (old new : List ℕ) → OnlyLong b i old new → i < 128
    → (block_sum new b + long old b i) % 2 ^ 32 ≡ (block_sum old b + long new b i) % 2 ^ 32
unfolding block_sum
changed_sum b i old new h lt =
    let one = total-one (long old b) (long new b) i 128 lt (λ j below ne. other_long b i old new h b j below (inr ne)) in
    moved (total (long old b) 128) (total (long new b) 128) (long old b i) (long new b i) one

-- ---- after a change of one block

-- a long of another block
pub other_block_long : (b : ℕ) (old new : List ℕ) → OnlyBlock b old new → (c j : ℕ) → c ≢ b → j < 128 → long new c j ≡ long old c j
other_block_long b old new h c j ne lt = same_long (InBlock b) old new h c j lt (λ k e at. ne at)

-- the sum of another block
pub other_block_sum : (b : ℕ) (old new : List ℕ) → OnlyBlock b old new → (c : ℕ) → c ≢ b → block_sum new c ≡ block_sum old c
other_block_sum b old new h c ne = same_sum (InBlock b) old new h c (λ k lt at. ne at)

-- ---- how such changes come about

-- a number written over a long changes that long only
pub only-with_number : (b i v : ℕ) (old new : List ℕ) → i < 128 → 512 * b + 4 * i + 4 ≤ length old → new ≡ with_number old (512 * b + 4 * i) v → OnlyLong b i old new
unfolding byte_at
only-with_number b i v old new lt room is = record {
  same_length = ap length is ∙ length-with_number old (512 * b + 4 * i) v room;
  same_byte = λ c k in_block ne.
      ap (λ (xs : List ℕ). slice_index xs (512 * c + k)) is
      ∙ elim (cases_lt (512 * c + k) (512 * b + 4 * i)) [
        | inl before ↦ before-with_number old (512 * b + 4 * i) v (512 * c + k) room before
        | inr from ↦ elim (cases_lt (512 * c + k) (512 * b + 4 * i + 4)) [
          | inl within ↦ absurd (ne (omega arith, omega arith))
          | inr behind ↦ behind-with_number old (512 * b + 4 * i) v (512 * c + k) room behind
        ]
      ];
}
