-- Blocks that a change leaves untouched, or all but some longs of them, and blocks without contents.
use Rattle.ados_data.proofs.Common.{◌≡◌, ℕ, ◌%◌, ◌^◌, ◌<◌, List, ap, ◌∙◌, arith, ◌≢◌, ◌+◌, ◌*◌, inl, inr, sym, ◌⊎◌, SECONDARY_TYPE, PARENT, byte_at, long, block_sum, long-same, long-bytes, total-same, HasExtension, cases_eq, SameBut, same_long, same_sum, AtField, KeptOrSummed}

-- each byte of the block is unchanged
abbrev pub Untouched : List ℕ → List ℕ → ℕ → Type 0
Untouched old new c = (k : ℕ) → k < 512 → byte_at new c k ≡ byte_at old c k

pub untouched_long : (old new : List ℕ) (c : ℕ) → Untouched old new c → (j : ℕ) → j < 128 → long new c j ≡ long old c j
untouched_long old new c u j l = long-same old new c j (λ k e. u k (omega arith))

pub untouched_sum : (old new : List ℕ) (c : ℕ) → Untouched old new c → block_sum new c ≡ block_sum old c
unfolding block_sum
untouched_sum old new c u = ap (λ (n : ℕ). n % 2 ^ 32) (total-same (long old c) (long new c) 128 (λ j l. untouched_long old new c u j l))

-- a block that was changed twice
pub kept_both : (old mid new : List ℕ) (c : ℕ) → KeptOrSummed old mid c → KeptOrSummed mid new c → KeptOrSummed old new c
kept_both old mid new c a (inr sum) = inr sum
kept_both old mid new c (inl a) (inl b) = inl (λ k l. b k l ∙ a k l)
kept_both old mid new c (inr sum) (inl b) = inr (untouched_sum mid new c b ∙ sum)

-- a right checksum stays right
pub still_summed : (old new : List ℕ) (c : ℕ) → KeptOrSummed old new c → block_sum old c ≡ 0 → block_sum new c ≡ 0
still_summed old new c (inl same) sum = untouched_sum old new c same ∙ sum
still_summed old new c (inr now) sum = now

-- an extension block with unchanged fields
pub extension_kept : (old new : List ℕ) (file c : ℕ) → long new c 0 ≡ long old c 0 → long new c 1 ≡ long old c 1 → long new c PARENT ≡ long old c PARENT → long new c SECONDARY_TYPE ≡ long old c SECONDARY_TYPE → block_sum new c ≡ 0 → HasExtension old file c → HasExtension new file c
extension_kept old new file c a b d e s h = record {
  primary = a ∙ h.primary;
  key_field = b ∙ h.key_field;
  sum = s;
  parent = d ∙ h.parent;
  secondary = e ∙ h.secondary;
}

-- another long
pub beside_field : {old new : List ℕ} (b i : ℕ) → SameBut (AtField b i) old new → (c n : ℕ) → n < 128 → (c ≡ b → (n ≢ i) × (n ≢ 5)) → long new c n ≡ long old c n
beside_field {old} {new} b i h c n l apart =
    same_long (AtField b i) old new h c n l (λ k e at. let no = apart at.0 in elim at.1 [ inl x ↦ no.0 (sym e ∙ x) | inr x ↦ no.1 (sym e ∙ x) ])

-- the sum of each block, if that of the block is unchanged
pub sum_field : {old new : List ℕ} (b i : ℕ) → SameBut (AtField b i) old new → block_sum new b ≡ block_sum old b → (c : ℕ) → block_sum new c ≡ block_sum old c
sum_field {old} {new} b i h same c = elim (cases_eq c b) [
  | inl e ↦ ap (block_sum new) e ∙ same ∙ ap (block_sum old) (sym e)
  | inr ne ↦ same_sum (AtField b i) old new h c (λ k l at. ne at.0)
]

-- the sum of a block, if that of the block of the field is 0 now, and this one's was 0 before or it is the same block
pub sum_settled : {old new : List ℕ} (b i : ℕ) → SameBut (AtField b i) old new → block_sum new b ≡ 0 → (c : ℕ) → (c ≢ b → block_sum old c ≡ 0) → block_sum new c ≡ 0
sum_settled {old} {new} b i h now c was = elim (cases_eq c b) [
  | inl e ↦ ap (block_sum new) e ∙ now
  | inr ne ↦ same_sum (AtField b i) old new h c (λ k l at. ne at.0) ∙ was ne
]

-- one of two fields is one of three
pub wider_field : {A B C : Type 0} → A ⊎ B → A ⊎ (C ⊎ B)
wider_field (inl x) = inl x
wider_field (inr x) = inr (inr x)

-- a long of an empty block
pub empty_long : (image : List ℕ) (b : ℕ) → ((k : ℕ) → k < 512 → byte_at image b k ≡ 0) → (i : ℕ) → i < 128 → long image b i ≡ 0
empty_long image b h i l =
    long-bytes image b i
    ∙ omega (arith, h (4 * i + 0) (omega arith), h (4 * i + 1) (omega arith), h (4 * i + 2) (omega arith), h (4 * i + 3) (omega arith))
