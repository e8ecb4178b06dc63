-- The boot blocks after code was written into them.
use Rattle.adf_block.proofs.Common.{◌≡◌, ℕ, inl, inr, ◌+◌, ◌-◌, ◌*◌, ◌%◌, ◌==◌, if◌then◌else◌, ◌/◌, ◌<◌, ◌≤◌, List, length, take, drop, min, slice_index, Option, Some, Ok, refl, sym, ap, ◌∙◌, subst, arith, length-take, length-drop, cases_eq, cases_lt, get_or-drop, get_or-take, get_or_past, byte_at, long, boot_long, boot_sum, carried_sum, OnlyBlock, OnlyLong, SameBut, Within, Boots, HasBoot, HoldsCode}
use Rattle.adf_block.proofs.Frames.{same_long}
use Rattle.adf_block.proofs.Totals.{total-same}

-- a block that was cleared and then written from its start
pub put_byte : (mid new : List ℕ) (b : ℕ) (bytes : List ℕ) → ((k : ℕ) → k < 512 → byte_at mid b k ≡ 0) → ((k : ℕ) → k < length bytes → byte_at new b (0 + k) ≡ slice_index bytes k)
    → SameBut (Within b 0 (0 + length bytes)) mid new → (k : ℕ) → k < 512 → byte_at new b k ≡ slice_index bytes k
put_byte mid new b bytes empty put rest k lt = elim (cases_lt k (length bytes)) [
  | inl inside ↦ ap (byte_at new b) (omega arith) ∙ put k inside
  | inr behind ↦ rest.same_byte b k lt (λ w. absurd (omega (arith, w.2, behind))) ∙ empty k lt ∙ sym (get_or_past bytes k 0 behind)
]

pub put_rest : (old mid new : List ℕ) (b n : ℕ) → OnlyBlock b old mid → SameBut (Within b 0 n) mid new → OnlyBlock b old new
put_rest old mid new b n cleared put = record {
  same_length = put.same_length ∙ cleared.same_length;
  same_byte = λ c k lt other. put.same_byte c k lt (λ w. other w.0) ∙ cleared.same_byte c k lt other;
}

-- the first part of the code and the rest, in the two boot blocks
module _ (code old one two new : List ℕ) (n : ℕ) (front : n ≡ min (length code) 512)
    (first : (k : ℕ) → k < 512 → byte_at one 0 k ≡ slice_index (take n code) k) (only_first : OnlyBlock 0 old one)
    (second : (k : ℕ) → k < 512 → byte_at two 1 k ≡ slice_index (drop n code) k) (only_second : OnlyBlock 1 one two)
    (kind : OnlyLong 0 0 two new) (kept : long new 0 0 ≡ long old 0 0) where
  in_front : (i : ℕ) → i < 512 → slice_index (take n code) i ≡ slice_index code i
  in_front i lt = elim (cases_lt i n) [
    | inl inside ↦ get_or-take n code i 0 inside
    | inr behind ↦
        get_or_past (take n code) i 0 (omega (arith, length-take n code, behind))
        ∙ sym (get_or_past code i 0 (omega (arith, front, behind, lt)))
  ]

  behind_front : (i : ℕ) → i < 512 → slice_index (drop n code) i ≡ slice_index code (512 + i)
  behind_front i lt = elim (cases_lt (length code) 512) [
    | inl short ↦
        get_or_past (drop n code) i 0 (omega (arith, length-drop n code, front, short))
        ∙ sym (get_or_past code (512 + i) 0 (omega (arith, short)))
    | inr long ↦ get_or-drop n code i 0 ∙ ap (slice_index code) (omega (arith, front, long))
  ]

  held : (b i : ℕ) → b < 2 → i < 512 → 4 ≤ 512 * b + i → byte_at new b i ≡ slice_index code (512 * b + i)
  held b i in_boot lt from = elim (cases_eq b 0) [
    | inl zero ↦
        let is : byte_at new 0 i ≡ slice_index code i =
        kind.same_byte 0 i lt (λ at. absurd (omega (arith, at.1, from, zero))) ∙ only_second.same_byte 0 i lt (λ e. cc e) ∙ first i lt ∙ in_front i lt in
        ap (λ (c : ℕ). byte_at new c i) zero ∙ is ∙ ap (slice_index code) (omega (arith, zero))
    | inr other ↦
        let one_block : b ≡ 1 = omega (arith, other, in_boot) in
        let is : byte_at new 1 i ≡ slice_index code (512 + i) = kind.same_byte 1 i lt (λ at. cc at.0) ∙ second i lt ∙ behind_front i lt in
        ap (λ (c : ℕ). byte_at new c i) one_block ∙ is ∙ ap (slice_index code) (omega (arith, one_block))
  ]

  pub holds_code : HoldsCode 4 code old new
  holds_code = record {
    kind = kept;
    byte = held;
    rest = record {
      same_length = kind.same_length ∙ only_second.same_length ∙ only_first.same_length;
      same_byte = λ b i lt outside.
          kind.same_byte b i lt (λ at. outside (omega (arith, at.0)))
          ∙ only_second.same_byte b i lt (λ e. outside (omega (arith, e)))
          ∙ only_first.same_byte b i lt (λ e. outside (omega (arith, e)));
    };
  }

-- code with its checksum
pub settled : (code old mid new : List ℕ) → HoldsCode 4 code old mid → OnlyLong 0 1 mid new → HoldsCode 8 code old new
settled code old mid new h rest = record {
  kind = same_long (λ c k. (c ≡ 0) × (k / 4 ≡ 1)) mid new rest 0 0 (omega arith) (λ k e at. absurd (omega (arith, e, at.1))) ∙ h.kind;
  byte = λ b i in_boot lt from. rest.same_byte b i lt (λ at. absurd (omega (arith, at.0, at.1, from))) ∙ h.byte b i in_boot lt (omega (arith, from));
  rest = record {
    same_length = rest.same_length ∙ h.rest.same_length;
    same_byte = λ b i lt outside. rest.same_byte b i lt (λ at. outside (omega (arith, at.0))) ∙ h.rest.same_byte b i lt outside;
  };
}

-- the checksum does not depend on itself
boot_long_same : (old new : List ℕ) → OnlyLong 0 1 old new → (k : ℕ) → k < 256 → boot_long new k ≡ boot_long old k
unfolding boot_long
boot_long_same old new rest k lt = elim (cases_eq k 1) [
  | inl own ↦ rw own refl
  | inr other ↦
      let same : long new (k / 128) (k % 128) ≡ long old (k / 128) (k % 128) =
      same_long (λ c j. (c ≡ 0) × (j / 4 ≡ 1)) old new rest (k / 128) (k % 128) (omega arith) (λ j e at. absurd (other (omega (arith, e, at.0, at.1)))) in
      ap (λ (x : ℕ). if k == 1 then 0 else x) same
]

pub sum_is : (old new : List ℕ) → OnlyLong 0 1 old new → boot_sum new ≡ boot_sum old
unfolding boot_sum
sum_is old new rest = ap (λ (t : ℕ). 4294967295 - carried_sum t) (total-same (boot_long old) (boot_long new) 256 (boot_long_same old new rest))

-- code that fits is installed
pub booted : {A : Type 0} (o : Option (List ℕ)) (code old new : List ℕ) (a : A) → o ≡ Some code → length code ≤ 1024 → HasBoot code old new → Boots o old new (Ok a)
booted o code old new a is fits has = subst (λ (x : Option (List ℕ)). Boots x old new (Ok a)) (sym is) (fits, has)
