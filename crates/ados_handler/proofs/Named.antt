-- The texts of packets that are names or comments.
use Rattle.std.proofs.Common.{◌≡◌, ◌≢◌, ℕ, zero, suc, ◌+◌, ◌-◌, ◌<◌, ◌≤◌, ◌==◌, Bool, true, false, nat_lt, not, List, length, drop, get_or, All, refl, sym, ap, subst, ◌∙◌, arith, get_or-drop, length-drop, ltb-false}
use Rattle.std.specs.Prelude.{◌||◌}
use Rattle.std.proofs.lemmas.List.Folds.{list_any_none, list_any_at}
use Rattle.std.proofs.lemmas.List.Elements.{All-drop, All-from_get_or, All-get_or}
use Rattle.std.proofs.lemmas.List.Sums.{suffix_len_is}
use Rattle.std.proofs.Common.{◌⊎◌, inl, inr}
use Rattle.ados_handler.proofs.Common.{list_any, suffix_len, cases_eq, eq-eqb, false_from_ne_true, true≢false, leb-true, not-true, is_separator, IsComment, IsName, IsNameByte, last_name, IsPathText, is_name, is_comment}
use Rattle.ados_name.proofs.NameLemmas.{name_byte}

-- 1 to 30 bytes without a separator are a name
pub plain_name : (text : List ℕ) → (length text == 0) ≡ false → nat_lt 30 (length text) ≡ false → All (λ c. c < 256) text → list_any is_separator text ≡ false → IsName text
plain_name text some short bytes plain = record {
  not_empty = let nonzero : length text ≢ 0 = λ e. true≢false (sym (eq-eqb (length text) 0 e) ∙ some) in omega (arith, nonzero);
  short = ltb-false 30 (length text) short;
  plain = All-from_get_or IsNameByte text 0 (λ k inside. name_byte _ (All-get_or (λ c. c < 256) text k 0 inside bytes)
      (false_from_ne_true _ (λ e. true≢false (sym (list_any_at is_separator text k 0 inside e) ∙ plain))));
}

no_fault : (a b c : Bool) → not (a || b || c) ≡ true → (a ≡ false) × (b ≡ false) × (c ≡ false)
no_fault false false false h = (refl, refl, refl)
no_fault a b c h = absurd (true≢false (sym h))

-- a text that is not refused as a name is a name
pub text_is_name : (text : List ℕ) → IsPathText text → is_name text ≡ true → IsName text
text_is_name text valid h =
    let no = no_fault (length text == 0) (nat_lt 30 (length text)) (list_any is_separator text) h in
    plain_name text no.0 no.1 valid.bytes no.2

pub text_is_comment : (text : List ℕ) → IsPathText text → is_comment text ≡ true → IsComment text
text_is_comment text valid h = record { short = leb-true (length text) 79 h; bytes = valid.bytes }

-- ---- the last name of a path

-- all elements from a position pass, and the one before it does not
record LastPlace (p : ℕ → Bool) (xs : List ℕ) : Type 0 where
  place : ℕ
  within : place ≤ length xs
  passes : (k : ℕ) → place ≤ k → k < length xs → p (get_or xs k 0) ≡ true
  stops : 0 < place → p (get_or xs (place - 1) 0) ≡ false

last_place : (p : ℕ → Bool) (xs : List ℕ) (n : ℕ) → n ≤ length xs → ((k : ℕ) → n ≤ k → k < length xs → p (get_or xs k 0) ≡ true) → LastPlace p xs
last_place p xs zero l passes = record { place = 0; within = l; passes = passes; stops = λ h. absurd (omega (arith, h)) }
last_place p xs (suc n) l passes = go (p (get_or xs n 0)) refl (λ h. last_place p xs n (omega (arith, l)) h)
  where
    go : (b : Bool) → p (get_or xs n 0) ≡ b → (((k : ℕ) → n ≤ k → k < length xs → p (get_or xs k 0) ≡ true) → LastPlace p xs) → LastPlace p xs
    go false e rest = record { place = suc n; within = l; passes = passes; stops = λ h. let back : suc n - 1 ≡ n = omega arith in ap (λ (i : ℕ). p (get_or xs i 0)) back ∙ e }
    go true e rest = rest (λ k m inside. at k m inside (cases_eq k n))
      where
        at : (k : ℕ) → n ≤ k → k < length xs → (k ≡ n) ⊎ (k ≢ n) → p (get_or xs k 0) ≡ true
        at k m inside (inl same) = ap (λ (i : ℕ). p (get_or xs i 0)) same ∙ e
        at k m inside (inr other) = passes k (omega (arith, m, other)) inside

pub last_name_plain : (path : List ℕ) → list_any is_separator (last_name path) ≡ false
unfolding last_name
last_name_plain path =
    let test : ℕ → Bool = λ c. not (is_separator c) in
    let l = last_place test path (length path) (omega arith) (λ k m inside. absurd (omega (arith, m, inside))) in
    let count = suffix_len_is test path l.place 0 l.within l.passes l.stops in
    let here : length path - suffix_len test path ≡ l.place = omega (arith, count, l.within) in
    subst (λ (n : ℕ). list_any is_separator (drop n path) ≡ false) (sym here)
    (list_any_none is_separator (drop l.place path) (All-from_get_or (λ c. is_separator c ≡ false) (drop l.place path) 0
    (λ k inside. rw get_or-drop (not-true _ (l.passes (l.place + k) (omega arith) (let total = length-drop l.place path in omega (arith, inside, total, l.within)))))))

pub last_name_bytes : (path : List ℕ) → IsPathText path → All (λ c. c < 256) (last_name path)
unfolding last_name
last_name_bytes path valid = All-drop (λ c. c < 256) (length path - suffix_len (λ c. not (is_separator c)) path) path valid.bytes

-- a last name of 1 to 30 bytes is a name
pub last_is_name : (path : List ℕ) → IsPathText path → (length (last_name path) == 0) ≡ false → nat_lt 30 (length (last_name path)) ≡ false → IsName (last_name path)
last_is_name path valid some short = plain_name (last_name path) some short (last_name_bytes path valid) (last_name_plain path)
