-- The hash of a name, names in upper case, and which texts are names.
use Rattle.ados_name.proofs.Common.{◌≡◌, ◌≢◌, ◌↔◌, ℕ, ◌+◌, ◌*◌, ◌%◌, ◌<◌, ◌≤◌, ◌==◌, true, false, ◌||◌, List, [], ◌∷◌, map, length, fold, All, None, Some, refl, sym, ap, subst, ◌∙◌, arith, list_any, length-map, list_any_none, list_any_at, All-from_get_or, All-get_or, eq-eqb, eqb-true, le-ltb, false_from_ne_true, or_from, true≢false, Separator, upper, hash, is_separator, IsName, IsNameByte, Same}
use Rattle.std.specs.Char.{to_ascii_lowercase}
use Rattle.ados_name.specs.declared.NameFault.{NameFault}
use Rattle.ados_name.specs.Fault.{first_fault}
use Rattle.ados_name.specs.Path.{SameNameSameSlot}

-- one step of the hash, with a byte that is in upper case
step : ℕ → ℕ → ℕ
step h c = (13 * h + c) % 2048

fold-upper : (h : ℕ) (name : List ℕ) → fold (λ h c. (13 * h + upper c) % 2048) h name ≡ fold step h (map upper name)
unfolding step
fold-upper h [] = refl
fold-upper h (c ∷ cs) = fold-upper ((13 * h + upper c) % 2048) cs

hash-upper : (name : List ℕ) → hash name ≡ fold step (length (map upper name)) (map upper name)
unfolding hash
hash-upper name = fold-upper (length name) name ∙ ap (λ (n : ℕ). fold step n (map upper name)) (sym (length-map name upper))

pub same_name_same_slot : SameNameSameSlot
same_name_same_slot name other same =
    ap (λ (h : ℕ). h % 72) (hash-upper name ∙ ap (λ (bytes : List ℕ). fold step (length bytes) bytes) same ∙ sym (hash-upper other))

upper-lower : (c : ℕ) → upper (to_ascii_lowercase c) ≡ upper c
upper-lower c = grind arith

lower-upper : (c : ℕ) → to_ascii_lowercase (upper c) ≡ to_ascii_lowercase c
lower-upper c = grind arith

-- a map f absorbs an earlier map g if f (g c) is always f c
map-after : (f g : ℕ → ℕ) → ((c : ℕ) → f (g c) ≡ f c) → (xs : List ℕ) → map f (map g xs) ≡ map f xs
map-after f g law [] = refl
map-after f g law (x ∷ xs) = λ i. law x i ∷ map-after f g law xs i

pub same_case : (a b : List ℕ) → (map to_ascii_lowercase a ≡ map to_ascii_lowercase b) ↔ (map upper a ≡ map upper b)
same_case a b = (
  λ e. sym (map-after upper to_ascii_lowercase upper-lower a) ∙ ap (map upper) e ∙ map-after upper to_ascii_lowercase upper-lower b,
  λ e. sym (map-after to_ascii_lowercase upper lower-upper a) ∙ ap (map to_ascii_lowercase) e ∙ map-after to_ascii_lowercase upper lower-upper b,
)

pub name_byte : (c : ℕ) → c < 256 → is_separator c ≡ false → IsNameByte c
name_byte c byte plain = record {
  byte = byte;
  no_slash = λ e. true≢false (subst (λ x. is_separator x ≡ false) e plain);
  no_colon = λ e. true≢false (subst (λ x. is_separator x ≡ false) e plain);
}

pub no_separator : (c : ℕ) → IsNameByte c → is_separator c ≡ false
no_separator c b = or_from (c == 47) (c == 58) (false_from_ne_true _ (λ e. b.no_slash (eqb-true c 47 e))) (false_from_ne_true _ (λ e. b.no_colon (eqb-true c 58 e)))

-- a text of 1 to 30 bytes without a separator is a name
module _ (text : List ℕ) (some : (length text == 0) ≡ false) (short : length text ≤ 30) where
  pub IsName-from_plain : All (λ c. c < 256) text → list_any is_separator text ≡ false → IsName text
  IsName-from_plain bytes plain = record {
    not_empty = let nonzero : length text ≢ 0 = λ e. true≢false (sym (eq-eqb (length text) 0 e) ∙ some) in omega (arith, nonzero);
    short = short;
    plain = All-from_get_or IsNameByte text 0 (λ k inside. name_byte _ (All-get_or (λ c. c < 256) text k 0 inside bytes)
        (false_from_ne_true _ (λ e. true≢false (sym (list_any_at is_separator text k 0 inside e) ∙ plain))));
  }

  pub first_fault-separator : list_any is_separator text ≡ true → first_fault text ≡ Some Separator
  first_fault-separator found = rw (some, le-ltb 30 (length text) short, found) refl

pub plain-from_IsName : (text : List ℕ) → IsName text → list_any is_separator text ≡ false
plain-from_IsName text name = list_any_none is_separator text
    (All-from_get_or (λ c. is_separator c ≡ false) text 0 (λ k inside. no_separator _ (All-get_or IsNameByte text k 0 inside name.plain)))

-- upper case keeps separators, and makes none
is_separator-upper : (c : ℕ) → is_separator (upper c) ≡ is_separator c
is_separator-upper c = grind arith

list_any-upper : (text : List ℕ) → list_any is_separator (map upper text) ≡ list_any is_separator text
list_any-upper [] = refl
list_any-upper (c ∷ cs) = λ i. is_separator-upper c i || list_any-upper cs i

first_fault-same : (name text : List ℕ) → Same name text → first_fault text ≡ first_fault name
first_fault-same name text same =
    let same_length : length text ≡ length name = sym (length-map text upper) ∙ ap length (sym same) ∙ length-map name upper in
    let same_separators : list_any is_separator text ≡ list_any is_separator name =
    sym (list_any-upper text) ∙ ap (list_any is_separator) (sym same) ∙ list_any-upper name in
    rw (same_length, same_separators) refl

first_fault-name : (name : List ℕ) → IsName name → first_fault name ≡ None
first_fault-name name is =
    let some : (length name == 0) ≡ false = false_from_ne_true _ (λ e. let none = eqb-true _ 0 e in let long = is.not_empty in absurd (omega arith)) in
    rw (some, le-ltb 30 (length name) is.short, plain-from_IsName name is) refl

-- a text with a fault equals no name
pub no_name_is_same : (text : List ℕ) (fault : NameFault) → first_fault text ≡ Some fault → (name : List ℕ) → IsName name → ¬ (Same name text)
no_name_is_same text fault has name is same =
    let conflict : None ≡ Some fault = sym (first_fault-name name is) ∙ sym (first_fault-same name text same) ∙ has in cc
