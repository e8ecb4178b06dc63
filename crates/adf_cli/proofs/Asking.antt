-- Arguments that are files: the only one, and those of which at most one is `-`.
use Rattle.std.proofs.Common.{◌≡◌, ◌≢◌, Bor, ℕ, ◌+◌, ◌<◌, ◌≤◌, List, [], ◌∷◌, All, codes, length, get_or, map, take, refl, sym, subst, arith}
use Rattle.std.proofs.lemmas.List.{take_all, take_more}
use Rattle.std.proofs.lemmas.List.Quantifiers.{all_pairs_push}
use Rattle.adf_cli.specs.Asked.{AreReadOnce}

-- the only argument
pub only_word : (words : List (Bor (List ℕ))) (d : Bor (List ℕ)) → 1 ≤ length words → length words < 2 → map (λ word. word.now) words ≡ (get_or words 0 d).now ∷ []
only_word [] d least below = absurd (omega (arith, least))
only_word (word ∷ []) d least below = refl
only_word (word ∷ next ∷ rest) d least below = absurd (omega (arith, below))

-- one more that is a file, or that is the first `-`
module _ (words : List (Bor (List ℕ))) (i : ℕ) (d : Bor (List ℕ)) (inside : i < length words) where
  once_more : AreReadOnce (take i words) → ((k : ℕ) (e : Bor (List ℕ)) → k < length (take i words) → (get_or (take i words) k e).now ≡ codes "-" → (get_or words i d).now ≢ codes "-") → AreReadOnce (take (i + 1) words)
  once_more once apart =
      subst AreReadOnce (sym (take_more words i d inside))
      (all_pairs_push (λ (one other : Bor (List ℕ)). one.now ≡ codes "-" → other.now ≢ codes "-") (take i words) (get_or words i d) once apart)

  pub once_file : AreReadOnce (take i words) → (get_or words i d).now ≢ codes "-" → AreReadOnce (take (i + 1) words)
  once_file once file = once_more once (λ k e l is. file)

  pub once_input : AreReadOnce (take i words) → All (λ (word : Bor (List ℕ)). word.now ≢ codes "-") (take i words) → AreReadOnce (take (i + 1) words)
  once_input once files = once_more once (λ k e l is. absurd (files k e l is))

-- all of them
pub once_all : (words : List (Bor (List ℕ))) (i : ℕ) → length words ≤ i → AreReadOnce (take i words) → AreReadOnce words
once_all words i over once = subst AreReadOnce (take_all i words over) once

pub files_all : (words : List (Bor (List ℕ))) (i : ℕ) → length words ≤ i → All (λ (word : Bor (List ℕ)). word.now ≢ codes "-") (take i words) → All (λ (word : Bor (List ℕ)). word.now ≢ codes "-") words
files_all words i over files = subst (All (λ (word : Bor (List ℕ)). word.now ≢ codes "-")) (take_all i words over) files
