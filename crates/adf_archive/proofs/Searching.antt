-- A search for images, word by word.
use Rattle.std.proofs.Common.{◌≡◌, ℕ, ◌+◌, ◌<◌, ◌≤◌, Bor, List, [], ◌∷◌, ◌++◌, length, get_or, map, take, sym, ap, subst, ◌∙◌, append_assoc, arith}
use Rattle.std.proofs.lemmas.List.Elements.{AllZip-push}
use Rattle.std.specs.List.{AllZip}
use Rattle.adf_archive.specs.NameLists.{IsCalled}
use Rattle.adf_archive.specs.declared.finding.FoundImages.{FoundImages}
use Rattle.adf_archive.specs.steps.Adding.{AddsOwn}
use Rattle.adf_archive.proofs.Common.{append-nil, get_or-map, length-map, string_bytes, take_all, take_more}

-- words as texts
abbrev pub texts : List (Bor (List ℕ)) → List (List ℕ)
texts words = map (λ (word : Bor (List ℕ)). word.now) words

-- one word more
pub one_more : (words : List (Bor (List ℕ))) (i : ℕ) (d : Bor (List ℕ)) → i < length words → take (i + 1) (texts words) ≡ take i (texts words) ++ (get_or words i d).now ∷ []
one_more words i d inside =
    take_more (texts words) i d.now (omega (arith, inside, length-map words (λ (word : Bor (List ℕ)). word.now)))
    ∙ ap (λ (word : List ℕ). take i (texts words) ++ word ∷ []) (get_or-map (λ (word : Bor (List ℕ)). word.now) words i d d.now inside)

-- all words
pub all_of : (words : List (Bor (List ℕ))) (i : ℕ) → length words ≤ i → take i (texts words) ≡ texts words
all_of words i over = take_all i (texts words) (omega (arith, over, length-map words (λ (word : Bor (List ℕ)). word.now)))

-- nothing was added
pub adds_none : (found : FoundImages) → AddsOwn found found []
adds_none found = λ none. (none, sym (append-nil (map string_bytes found.paths.items)))

-- one path after others
pub adds_more : (old middle new : FoundImages) (paths : List (List ℕ)) (path : List ℕ) → AddsOwn old middle paths → AddsOwn middle new (path ∷ []) → AddsOwn old new (paths ++ path ∷ [])
adds_more old middle new paths path first next = λ none.
    let late = next none in
    let early = first late.0 in
    (early.0, late.1 ∙ ap (λ (all : List (List ℕ)). all ++ path ∷ []) early.1 ∙ append_assoc (map string_bytes old.paths.items) paths (path ∷ []))

module _ (names : List (Bor (List ℕ))) (old : FoundImages) where
  -- the paths that were added are those of these names
  abbrev pub AddsNames : ℕ → FoundImages → Type 0
  AddsNames i new = (called : List (List ℕ)) × AllZip IsCalled (take i (texts names)) called × AddsOwn old new called

  pub adds_name : (i : ℕ) (d : Bor (List ℕ)) → i < length names → (middle new : FoundImages) (path : List ℕ) → AddsNames i middle → IsCalled (get_or names i d).now path → AddsOwn middle new (path ∷ []) → AddsNames (i + 1) new
  adds_name i d inside middle new path so_far called added = (
    so_far.0 ++ path ∷ [],
    subst (λ (l : List (List ℕ)). AllZip IsCalled l (so_far.0 ++ path ∷ [])) (sym (one_more names i d inside)) (AllZip-push IsCalled (take i (texts names)) so_far.0 (get_or names i d).now path so_far.1 called),
    adds_more old middle new so_far.0 path so_far.2 added,
  )

  pub adds_all : (i : ℕ) → length names ≤ i → (new : FoundImages) → AddsNames i new → (called : List (List ℕ)) × AllZip IsCalled (texts names) called × AddsOwn old new called
  adds_all i over new so_far = (so_far.0, subst (λ (l : List (List ℕ)). AllZip IsCalled l so_far.0) (all_of names i over) so_far.1, so_far.2)
