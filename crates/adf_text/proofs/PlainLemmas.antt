-- Texts with escapes for their control characters.
use Rattle.adf_text.proofs.Common.{◌≡◌, ℕ, ◌+◌, ◌-◌, ◌≤◌, Bool, false, List, [], ◌∷◌, ◌++◌, Option, length, take, drop, take_all, length-drop, length-append, append_assoc, append-nil, refl, sym, ap, ◌∙◌, subst, arith, drop-append_seam, take-append_seam, WritesInCalls, FoldsTo, concat, Appends, Appends-nil, Appends-trans, flat_map, encode_utf8, IsUtf8, chars-append, chars_past_char, IsUtf8-append, IsUtf8-past_char, nil_from_length}
use lib.Seq.{drop-drop, take-add}
use Rattle.std.specs.Str.{chars}
use Rattle.std.proofs.lemmas.List.Concat.{flat_map-append}
use Rattle.adf_text.specs.Plain.{plain, plain_letter}

-- an empty text
plain_nil : (has_lines : Bool) → plain has_lines [] ≡ []
unfolding chars
plain_nil has_lines = refl

-- a text in two parts
pub plain-append : (has_lines : Bool) (front back : List ℕ) → IsUtf8 front → plain has_lines (front ++ back) ≡ plain has_lines front ++ plain has_lines back
plain-append has_lines front back u = ap (flat_map (plain_letter has_lines)) (chars-append front back u) ∙ flat_map-append (plain_letter has_lines) (chars front) (chars back)

-- a text with a first letter
plain_past_char : (has_lines : Bool) (text rest : List ℕ) (c : ℕ) → IsUtf8 text → text ≡ encode_utf8 c ++ rest → plain has_lines text ≡ plain_letter has_lines c ++ plain has_lines rest
plain_past_char has_lines text rest c u e = ap (flat_map (plain_letter has_lines)) (chars_past_char text rest c u e)

-- of a text, what is written and the part from `front` to `at` stand for all before `at`, and the rest follows
pub record IsWritten (has_lines : Bool) (text rest written : List ℕ) (front at : ℕ) : Type 0 where
  pub utf8 : IsUtf8 rest
  pub is_rest : rest ≡ drop at text
  pub inside : at ≤ length text
  pub order : front ≤ at
  pub told : written ++ (take (at - front) (drop front text) ++ plain has_lines rest) ≡ plain has_lines text

-- nothing is written of a text
pub written_none : (has_lines : Bool) (text : List ℕ) → IsUtf8 text → IsWritten has_lines text text [] 0 0
written_none has_lines text u = record { utf8 = u; is_rest = refl; inside = omega arith; order = omega arith; told = refl }

module _ (has_lines : Bool) (text rest next written : List ℕ) (front at : ℕ) (w : IsWritten has_lines text rest written front at) (c : ℕ) (split : rest ≡ encode_utf8 c ++ next) where
  abbrev part : List ℕ
  part = take (at - front) (drop front text)

  abbrev behind : ℕ
  behind = at + length (encode_utf8 c)

  goes_on : {letter : List ℕ} → plain_letter has_lines c ≡ letter → letter ++ plain has_lines next ≡ plain has_lines rest
  goes_on e = ap (λ (l : List ℕ). l ++ plain has_lines next) (sym e) ∙ sym (plain_past_char has_lines rest next c w.utf8 split)

  next_utf8 : IsUtf8 next
  next_utf8 = IsUtf8-past_char rest next c w.utf8 split

  next_is : next ≡ drop behind text
  next_is = sym (drop-append_seam (encode_utf8 c) next) ∙ ap (drop (length (encode_utf8 c))) (sym split ∙ w.is_rest) ∙ drop-drop (length (encode_utf8 c)) at text

  behind_inside : behind ≤ length text
  behind_inside = omega (arith, w.inside, ap length split, ap length w.is_rest, length-drop at text, length-append (encode_utf8 c) next)

  longer : take (behind - front) (drop front text) ≡ part ++ encode_utf8 c
  longer =
      let count : behind - front ≡ (at - front) + length (encode_utf8 c) = omega (arith, w.order) in
      let place : front + (at - front) ≡ at = omega (arith, w.order) in
      let rest_there = drop-drop (at - front) front text ∙ ap (λ n. drop n text) place ∙ sym w.is_rest ∙ split in
      ap (λ n. take n (drop front text)) count ∙ take-add (at - front) (length (encode_utf8 c)) (drop front text)
      ∙ ap (λ (l : List ℕ). part ++ l) (ap (take (length (encode_utf8 c))) rest_there ∙ take-append_seam (encode_utf8 c) next)

  -- a letter that is written as it is
  pub written_as_it_is : plain_letter has_lines c ≡ encode_utf8 c → IsWritten has_lines text next written front behind
  written_as_it_is e = record {
    utf8 = next_utf8;
    is_rest = next_is;
    inside = behind_inside;
    order = omega (arith, w.order);
    told = ap (λ (l : List ℕ). written ++ (l ++ plain has_lines next)) longer
        ∙ ap (λ (l : List ℕ). written ++ l) (append_assoc part (encode_utf8 c) (plain has_lines next) ∙ ap (λ (l : List ℕ). part ++ l) (goes_on e)) ∙ w.told;
  }

  -- a letter that is escaped: the part before it is written, and then the escape
  pub written_escaped : (escape : List ℕ) → plain_letter has_lines c ≡ escape → IsWritten has_lines text next ((written ++ part) ++ escape) behind behind
  written_escaped escape e =
      let none : behind - behind ≡ 0 = omega arith in
      record {
        utf8 = next_utf8;
        is_rest = next_is;
        inside = behind_inside;
        order = omega arith;
        told = ap (λ n. ((written ++ part) ++ escape) ++ (take n (drop behind text) ++ plain has_lines next)) none
            ∙ append_assoc (written ++ part) escape (plain has_lines next) ∙ append_assoc written part (escape ++ plain has_lines next)
            ∙ ap (λ (l : List ℕ). written ++ (part ++ l)) (goes_on e) ∙ w.told;
      }

-- with the part that is left all is written
pub written_all : (has_lines : Bool) (text rest written : List ℕ) (front at : ℕ) → IsWritten has_lines text rest written front at → length rest ≡ 0 → written ++ drop front text ≡ plain has_lines text
written_all has_lines text rest written front at w none =
    let nothing : rest ≡ [] = nil_from_length rest (omega (arith, none)) in
    let left = take_all (at - front) (drop front text) (omega (arith, w.inside, w.order, none, ap length w.is_rest, length-drop at text, length-drop front text)) in
    let end = ap (plain has_lines) nothing ∙ plain_nil has_lines in
    ap (λ (l : List ℕ). written ++ l) (sym (append-nil (drop front text)) ∙ ap (λ (l : List ℕ). l ++ []) (sym left) ∙ ap (λ (l : List ℕ). take (at - front) (drop front text) ++ l) (sym end)) ∙ w.told

-- calls that each write a text with escapes do so together
module _ {S N : Type 0} (name : S → N) (contents : S → Option (List ℕ)) where
  abbrev pub Took : S → List ℕ → S → Type 0
  Took s bytes t = (name t ≡ name s) × IsUtf8 bytes × Appends (contents s) (contents t) (plain false bytes)

  took_all : (s : S) (parts : List (List ℕ)) (t : S) → FoldsTo Took s parts t → Took s (concat parts) t
  took_all s [] t same = subst (Took s []) same (refl, ([], (refl, refl)), subst (Appends (contents s) (contents s)) (sym (plain_nil false)) (Appends-nil (contents s)))
  took_all s (x ∷ parts) t (mid, first, later) =
      let rest = took_all mid parts t later in (
        rest.0 ∙ first.0,
        IsUtf8-append x (concat parts) first.1 rest.1,
        subst (Appends (contents s) (contents t)) (sym (plain-append false x (concat parts) first.1)) (Appends-trans (contents s) (contents mid) (contents t) _ _ first.2 rest.2),
      )

  pub took_in_calls : (s : S) (bytes : List ℕ) (t : S) → WritesInCalls Took s bytes t → (name t ≡ name s) × Appends (contents s) (contents t) (plain false bytes)
  took_in_calls s bytes t calls = let took = subst (λ (l : List ℕ). Took s l t) calls.whole (took_all s calls.parts t calls.calls) in (took.0, took.2)
