-- The names in a list, part by part.
use Rattle.std.proofs.Common.{◌≡◌, ℕ, ◌+◌, ◌-◌, ◌<◌, ◌≤◌, Bool, true, false, cond, not, nat_lt, List, [], ◌∷◌, ◌++◌, length, take, drop, Some, None, refl, sym, ap, subst, ◌∙◌, append_assoc, ltb-false, ltb-true, arith}
use Rattle.std.specs.Prelude.{filter}
use Rattle.std.specs.List.{onto_first, position, position_or_len, slice_split}
use Rattle.std.proofs.lemmas.List.Splits.{slice_split_first}
use Rattle.adf_archive.specs.NameLists.{ends_name, is_name, names_in}
use Rattle.adf_archive.specs.steps.Adding.{name_or_none}
use Rattle.adf_archive.proofs.Common.{append-nil, length-drop, take_all}

-- a name in front of others
front : (b : Bool) (name : List ℕ) (names : List (List ℕ)) → cond b (name ∷ names) names ≡ cond b (name ∷ []) [] ++ names
front true name names = refl
front false name names = refl

-- no byte passes: the list is one part
split_whole : (p : ℕ → Bool) (xs : List ℕ) → length xs ≤ position_or_len p xs → slice_split p xs ≡ xs ∷ []
split_whole p [] over = refl
split_whole p (x ∷ xs) over = go (p x) over (split_whole p xs)
  where
    go : (b : Bool) → length (x ∷ xs) ≤ cond (not b) (1 + position_or_len p xs) 0 → (length xs ≤ position_or_len p xs → slice_split p xs ≡ xs ∷ [])
        → cond b ([] ∷ slice_split p xs) (onto_first x (slice_split p xs)) ≡ (x ∷ xs) ∷ []
    go true over rest = absurd (omega (arith, over))
    go false over rest = ap (onto_first x) (rest (omega (arith, over)))

-- the position of a byte that passes, and that of none
found_at : (b : Bool) (i k n : ℕ) → nat_lt k n ≡ b → Some i ≡ cond b (Some k) None → (i ≡ k) × (k < n)
found_at true i k n is e = (cc e, ltb-true k n is)
found_at false i k n is e = absurd (cc e)

found_none : (b : Bool) (k n : ℕ) → nat_lt k n ≡ b → None ≡ cond b (Some k) None → n ≤ k
found_none true k n is e = absurd (cc e)
found_none false k n is e = ltb-false k n is

-- a list without a byte that ends a name
pub last_part : (null : Bool) (list : List ℕ) → None ≡ position (ends_name null) list → names_in null list ≡ name_or_none list ++ names_in null []
last_part null list none =
    let k = position_or_len (ends_name null) list in
    ap (filter is_name) (split_whole (ends_name null) list (found_none (nat_lt k (length list)) k (length list) refl none)) ∙ front (is_name list) list []

-- a part, what ends it, and the rest
pub next_part : (null : Bool) (list : List ℕ) (place : ℕ) → Some place ≡ position (ends_name null) list
    → names_in null list ≡ name_or_none (take place list) ++ names_in null (take (length list - (place + 1)) (drop (place + 1) list))
next_part null list place found =
    let p : ℕ → Bool = ends_name null in
    let k = position_or_len p list in
    let at = found_at (nat_lt k (length list)) place k (length list) refl found in
    let split : slice_split p list ≡ take place list ∷ slice_split p (drop (place + 1) list) =
    subst (λ (i : ℕ). slice_split p list ≡ take i list ∷ slice_split p (drop (i + 1) list)) (sym at.0) (slice_split_first p list 0 at.1) in
    let rest : take (length list - (place + 1)) (drop (place + 1) list) ≡ drop (place + 1) list = take_all (length list - (place + 1)) (drop (place + 1) list) (omega (arith, length-drop (place + 1) list)) in
    ap (filter is_name) split ∙ front (is_name (take place list)) (take place list) (names_in null (drop (place + 1) list))
    ∙ ap (λ (bytes : List ℕ). name_or_none (take place list) ++ names_in null bytes) (sym rest)

-- one part more
pub parts_more : (all old new part rest : List (List ℕ)) → all ≡ old ++ (part ++ rest) → new ≡ old ++ part → all ≡ new ++ rest
parts_more all old new part rest so_far more = so_far ∙ sym (append_assoc old part rest) ∙ ap (λ (names : List (List ℕ)). names ++ rest) (sym more)

-- all parts
pub parts_all : (null : Bool) (list rest : List ℕ) (names : List (List ℕ)) → names_in null list ≡ names ++ names_in null rest → length rest ≡ 0 → names ≡ names_in null list
parts_all null list [] names so_far none = sym (so_far ∙ append-nil names)
parts_all null list (byte ∷ bytes) names so_far none = absurd (omega (arith, none))
