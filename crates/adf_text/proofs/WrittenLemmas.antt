-- The date that a person wrote.
use Rattle.adf_text.proofs.Common.{ℕ, List, ◌++◌, Option, None, Some, inl, inr, codes, MatchOption, option_or, Date3, IsTextOf, IsTextOfNone, HasNoWritten, IsWritten}

-- what a text with a part after it is found to be
abbrev pub Found : Option Date3 → List ℕ → Type 0
Found found text = MatchOption found (IsTextOfNone text) (λ date. IsTextOf date text)

-- the first of the four readings that finds a date
pub first-written : (text : List ℕ) (a b c d : Option Date3) → Found a text → Found b (text ++ codes ".00") → Found c (text ++ codes ":00.00") → Found d (text ++ codes " 00:00:00.00")
    → MatchOption (option_or (option_or (option_or a b) c) d) (HasNoWritten text) (λ date. IsWritten date text)
first-written text (Some a) b c d is_a is_b is_c is_d = inl is_a
first-written text None (Some b) c d is_a is_b is_c is_d = inr (inl is_b)
first-written text None None (Some c) d is_a is_b is_c is_d = inr (inr (inl is_c))
first-written text None None None (Some d) is_a is_b is_c is_d = inr (inr (inr is_d))
first-written text None None None None is_a is_b is_c is_d = λ date stamp is. elim is [
  | inl h ↦ is_a date stamp h
  | inr h ↦ elim h [
    | inl h ↦ is_b date stamp h
    | inr h ↦ elim h [
      | inl h ↦ is_c date stamp h
      | inr h ↦ is_d date stamp h
    ]
  ]
]
