-- The output for images, one after the other.
use Rattle.std.proofs.Common.{◌≡◌, ℕ, suc, ◌+◌, List, [], ◌∷◌, ◌++◌, length, get_or, take, ◌<◌, ap, sym, ◌∙◌, append_assoc, refl, arith}
use Rattle.adf_archive.proofs.Common.{append-nil, take_more, length-take-le, ImageReport, Form, told_from, told_of}

-- the number of elements before a position
taken : (i : ℕ) (reports : List ImageReport) → i < length reports → length (take i reports) ≡ i
taken i reports l = length-take-le i reports (omega (arith, l))

module _ (form : Form) (paths : List (List ℕ)) where
  -- the output for some images, then for others
  pub told_append : (start : ℕ) (a b : List ImageReport) → told_from form paths start (a ++ b) ≡ told_from form paths start a ++ told_from form paths (start + length a) b
  unfolding told_from
  told_append start [] b = ap (λ (n : ℕ). told_from form paths n b) (omega arith)
  told_append start (report ∷ a) b =
      ap (λ (text : List ℕ). told_of form (get_or paths start []) report ++ text)
      (told_append (suc start) a b ∙ ap (λ (n : ℕ). told_from form paths (suc start) a ++ told_from form paths n b) (omega arith))
      ∙ sym (append_assoc (told_of form (get_or paths start []) report) (told_from form paths (suc start) a) (told_from form paths (start + length (report ∷ a)) b))

  -- the output for one image
  pub told_one : (start : ℕ) (report : ImageReport) → told_from form paths start (report ∷ []) ≡ told_of form (get_or paths start []) report ++ []
  unfolding told_from
  told_one start report = refl

  pub told_none : (start : ℕ) → told_from form paths start [] ≡ []
  unfolding told_from
  told_none start = refl

  -- the output for the images before a position, and for the one there
  pub told_more : (start : ℕ) (reports : List ImageReport) (i : ℕ) (d : ImageReport) → i < length reports
      → told_from form paths start (take (i + 1) reports) ≡ told_from form paths start (take i reports) ++ told_of form (get_or paths (start + i) []) (get_or reports i d)
  told_more start reports i d l =
      ap (told_from form paths start) (take_more reports i d l)
      ∙ told_append start (take i reports) (get_or reports i d ∷ [])
      ∙ ap (λ (text : List ℕ). told_from form paths start (take i reports) ++ text)
      (told_one (start + length (take i reports)) (get_or reports i d)
      ∙ append-nil (told_of form (get_or paths (start + length (take i reports)) []) (get_or reports i d))
      ∙ ap (λ (n : ℕ). told_of form (get_or paths (start + n) []) (get_or reports i d)) (taken i reports l))
