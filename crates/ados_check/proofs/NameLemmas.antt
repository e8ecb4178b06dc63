-- The text of a block's name, and why a text is not a name.
use Rattle.ados_check.proofs.Common.{◌≡◌, ℕ, ◌+◌, ◌-◌, ◌*◌, ◌<◌, ◌≤◌, ◌⊎◌, inl, inr, ◌==◌, ◌||◌, Bool, true, false, List, length, take, drop, slice_index, Contains, refl, sym, ap, ap₂, ◌∙◌, subst, arith, cases_Bool, eqb-true, Contains-get_or, drop-drop, drop-take, get_or_default, take-take, All-contains, byte_at, bytes_at, block_count, text_at, NAME_BYTE, IsFirstSeparator, IsName, IsNameByte, is_separator, HasName, HasBadName, HasValidName, length-take, length-drop, empty, long_name, slash, colon}

-- the bytes after the length byte, read from a whole block
pub text_is : (image : List ℕ) (block len : ℕ) (bytes : List ℕ) → bytes ≡ bytes_at image block 0 512 → len ≡ byte_at image block 432 → len ≤ 30 → take (433 + len - 433) (drop 433 bytes) ≡ text_at image block NAME_BYTE
unfolding bytes_at
text_is image block len bytes e counted short =
    let count : 433 + len - 433 ≡ len = omega arith in
    let offset : 512 * block + 0 + 433 ≡ 512 * block + (432 + 1) = omega arith in
    ap₂ (λ (n : ℕ) (ys : List ℕ). take n (drop 433 ys)) count e
    ∙ ap (take len) (drop-take 433 79 (drop (512 * block + 0) image) ∙ ap (take 79) (drop-drop 433 (512 * block + 0) image ∙ ap (λ (n : ℕ). drop n image) offset))
    ∙ take-take len 79 (drop (512 * block + (432 + 1)) image) (omega arith)
    ∙ ap (λ (n : ℕ). take n (drop (512 * block + (432 + 1)) image)) counted

pub length_text : (image : List ℕ) (block : ℕ) → block < block_count image → byte_at image block 432 ≤ 30 → length (text_at image block NAME_BYTE) ≡ byte_at image block 432
unfolding bytes_at
length_text image block inside short =
    omega (arith, length-take (byte_at image block 432) (drop (512 * block + (432 + 1)) image), length-drop (512 * block + (432 + 1)) image)

pub valid_name : (image : List ℕ) (block : ℕ) → block < block_count image → byte_at image block 432 ≤ 30 → IsName (text_at image block NAME_BYTE) → HasValidName image block
valid_name image block inside short name =
    let whole = length_text image block inside short in
    record {
      text = record { counted = sym whole; follows = ap (λ (n : ℕ). bytes_at image block (432 + 1) n) whole };
      valid = name;
    }

-- an element that equals one of two numbers
one_of : (x a b : ℕ) → ((x == a) || (x == b)) ≡ true → (x ≡ a) ⊎ (x ≡ b)
one_of x a b h = elim (cases_Bool (x == a)) [
  | inl h1 ↦ inl (eqb-true x a h1)
  | inr other ↦ inr (eqb-true x b (subst (λ (t : Bool). (t || (x == b)) ≡ true) other h))
]

-- the first slash or colon is one
pub separator_in : (text : List ℕ) (place : ℕ) → IsFirstSeparator text place → Contains text 47 ⊎ Contains text 58
separator_in text place f = elim (one_of (slice_index text place) 47 58 f.here) [
  | inl e ↦ inl (subst (Contains text) e (Contains-get_or text place 0 f.within))
  | inr e ↦ inr (subst (Contains text) e (Contains-get_or text place 0 f.within))
]

-- a text without separators has neither
pub none_in : (text : List ℕ) → ((k : ℕ) → k < length text → is_separator (slice_index text k) ≡ false) → ¬ (Contains text 47 ⊎ Contains text 58)
none_in text plain (inl m) = let h = subst (λ (c : ℕ). is_separator c ≡ false) (get_or_default text m.0 0 47 m.1 ∙ m.2) (plain m.0 m.1) in cc h
none_in text plain (inr m) = let h = subst (λ (c : ℕ). is_separator c ≡ false) (get_or_default text m.0 0 58 m.1 ∙ m.2) (plain m.0 m.1) in cc h

-- a name with nothing wrong
pub no_bad_name : (image : List ℕ) (block : ℕ) → (HasName image block → HasValidName image block) → HasBadName image block → ⊥
no_bad_name image block valid (empty h e) = let n = valid h in omega (arith, n.valid.not_empty, n.text.counted, e)
no_bad_name image block valid (long_name h l) = let n = valid h in omega (arith, n.valid.short, n.text.counted, l)
no_bad_name image block valid (slash h m) = (All-contains IsNameByte (text_at image block NAME_BYTE) 47 (valid h).valid.plain m).no_slash refl
no_bad_name image block valid (colon h m) = (All-contains IsNameByte (text_at image block NAME_BYTE) 58 (valid h).valid.plain m).no_colon refl
