-- What is told of elements, one behind the other.
use Rattle.adf_where.proofs.Common.{◌≡◌, ℕ, zero, suc, ◌+◌, ◌<◌, ◌==◌, Bool, true, false, cond, List, [], ◌∷◌, ◌++◌, length, get_or, take, drop, refl, sym, ap, ap₂, ◌∙◌, arith, append-nil, append_assoc, array_of, flat_map, take_more, told_as}
use Rattle.std.proofs.Common.{take-append-drop}
use Rattle.std.proofs.lemmas.Bool.{ne_eqb}
use Rattle.std.specs.Prelude.{fold}
use Rattle.adf_io.specs.Prefix.{IsPrefixOf}
use Rattle.json.specs.Token.{Token, begin_object, end_array}
use Rattle.json.specs.Print.{ends, print, print_from}
use Rattle.json.proofs.Printed.Tokens.{print_from-append}
use Rattle.adf_where.specs.steps.Parts.{closing, comma, opening, part}

-- whether a value just ended behind these tokens
abbrev pub after_value : Bool → List Token → Bool
after_value b tokens = fold (λ _ t. ends t) b tokens

-- whether an element is behind another one
abbrev pub is_behind : Bool → Bool
is_behind first = cond first false true

-- a comma is printed before an object that is behind another one
pub behind_comma : (first : Bool) (rest : List Token) → comma true first ++ print (begin_object ∷ rest) ≡ print_from (is_behind first) (begin_object ∷ rest)
unfolding print_from
behind_comma true rest = refl
behind_comma false rest = refl

-- and none before a closing bracket
pub no_comma : (after : Bool) (rest : List Token) → print_from after (end_array ∷ rest) ≡ print (end_array ∷ rest)
unfolding print_from
no_comma true rest = refl
no_comma false rest = refl

-- the tokens of an element are an object
pub record AreObjects {A : Type 0} (tokens : A → List Token) : Type 0 where
  pub begins : (first : Bool) (one : A) → comma true first ++ print (tokens one) ≡ print_from (is_behind first) (tokens one)
  pub whole : (before : Bool) (one : A) → after_value before (tokens one) ≡ true

-- whether what is behind these elements is the first
abbrev pub still_first : {A : Type 0} → Bool → List A → Bool
still_first first [] = first
still_first first (one ∷ more) = false

later : {A : Type 0} (xs : List A) → still_first false xs ≡ false
later [] = refl
later (x ∷ xs) = refl

first_at : {A : Type 0} (xs : List A) (n : ℕ) → n < length xs → still_first true (take n xs) ≡ (n == 0)
first_at [] n l = absurd (omega (arith, l))
first_at (x ∷ xs) zero l = refl
first_at (x ∷ xs) (suc n) l = sym (ne_eqb (suc n) 0 (λ e. omega (arith, e)))

module _ {A : Type 0} (tokens : A → List Token) (lines : A → List ℕ) where
  abbrev pub parts : Bool → Bool → List A → List ℕ
  parts json first [] = []
  parts json first (one ∷ more) = part json first tokens lines one ++ parts json false more

  pub parts_append : (json first : Bool) (xs ys : List A) → parts json first (xs ++ ys) ≡ parts json first xs ++ parts json (still_first first xs) ys
  parts_append json first [] ys = refl
  parts_append json first (x ∷ xs) ys =
      ap (λ (l : List ℕ). part json first tokens lines x ++ l) (parts_append json false xs ys ∙ ap (λ (b : Bool). parts json false xs ++ parts json b ys) (later xs))
      ∙ sym (append_assoc (part json first tokens lines x) (parts json false xs) (parts json false ys))

  -- one more element
  pub parts_more : (json : Bool) (front : List ℕ) (xs : List A) (n : ℕ) (one : A) → n < length xs → get_or xs n one ≡ one
      → (front ++ parts json true (take n xs)) ++ part json (n == 0) tokens lines one ≡ front ++ parts json true (take (n + 1) xs)
  parts_more json front xs n one inside is =
      append_assoc front (parts json true (take n xs)) (part json (n == 0) tokens lines one)
      ∙ ap (λ (l : List ℕ). front ++ l)
      (sym (ap (parts json true) (take_more xs n one inside ∙ ap (λ (x : A). take n xs ++ x ∷ []) is)
      ∙ parts_append json true (take n xs) (one ∷ [])
      ∙ ap (λ (b : Bool). parts json true (take n xs) ++ (part json b tokens lines one ++ [])) (first_at xs n inside)
      ∙ ap (λ (l : List ℕ). parts json true (take n xs) ++ l) (append-nil (part json (n == 0) tokens lines one))))

  -- the text up to some element is a prefix of the whole
  pub parts_prefix : (json : Bool) (front behind : List ℕ) (xs : List A) (n : ℕ) (whole : List ℕ) → whole ≡ (front ++ parts json true xs) ++ behind
      → IsPrefixOf whole (front ++ parts json true (take n xs))
  parts_prefix json front behind xs n whole is =
      let rest = parts json (still_first true (take n xs)) (drop n xs) in (
        rest ++ behind,
        is
            ∙ ap (λ (l : List ℕ). (front ++ l) ++ behind) (ap (parts json true) (sym (take-append-drop n xs)) ∙ parts_append json true (take n xs) (drop n xs))
            ∙ ap (λ (l : List ℕ). l ++ behind) (sym (append_assoc front (parts json true (take n xs)) rest))
            ∙ append_assoc (front ++ parts json true (take n xs)) rest behind,
      )

  -- lines are the lines of each
  pub parts_lines : (first : Bool) (xs : List A) → parts false first xs ≡ flat_map lines xs
  parts_lines first [] = refl
  parts_lines first (x ∷ xs) = ap (λ (l : List ℕ). lines x ++ l) (parts_lines false xs)

  module _ (objects : AreObjects tokens) where
    -- objects are the tokens of each, printed
    pub parts_objects : (first : Bool) (xs : List A) → parts true first xs ≡ print_from (is_behind first) (flat_map tokens xs)
    unfolding print_from
    parts_objects first [] = refl
    parts_objects first (x ∷ xs) =
        ap₂ (λ (a b : List ℕ). a ++ b) (objects.begins first x)
        (parts_objects false xs ∙ ap (λ (b : Bool). print_from b (flat_map tokens xs)) (sym (objects.whole (is_behind first) x)))
        ∙ sym (print_from-append (is_behind first) (tokens x) (flat_map tokens xs))

    array_closed : (after : Bool) → print_from after (end_array ∷ []) ≡ 93 ∷ []
    unfolding print_from
    array_closed true = refl
    array_closed false = refl

    -- an array is what is before its elements, what is told of each, and what is behind them
    pub array_whole : (end : List ℕ) (xs : List A) → print (array_of tokens xs) ++ end ≡ (91 ∷ parts true true xs) ++ 93 ∷ end
    unfolding print_from
    array_whole end xs =
        let all = flat_map tokens xs in
        ap (λ (l : List ℕ). 91 ∷ (l ++ end))
        (print_from-append false all (end_array ∷ []) ∙ ap₂ (λ (a b : List ℕ). a ++ b) (sym (parts_objects true xs)) (array_closed (after_value false all)))
        ∙ ap (λ (l : List ℕ). 91 ∷ l) (append_assoc (parts true true xs) (93 ∷ []) end)

    pub told_whole : (json : Bool) (xs : List A) → told_as json tokens lines xs ≡ (opening json ++ parts json true xs) ++ closing json
    told_whole false xs = sym (parts_lines true xs) ∙ sym (append-nil (parts false true xs))
    told_whole true xs = array_whole (10 ∷ []) xs
