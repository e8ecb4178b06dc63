-- The marks of the blocks that a list names.
use Rattle.std.proofs.Common.{◌≡◌, ℕ, Bor, Bool, List, [], Option, Some, None, refl, sym, subst}
use Rattle.adf_cli.specs.BadBlocks.{AreMarked}
use Rattle.adf_serve.specs.Unread.{AreListed, AreMarksOf}

-- there is no list
pub marks_of_none : (list : Option (Bor (List ℕ))) (blocks : ℕ) (marks : List Bool) → list ≡ None → AreMarksOf list blocks marks marks
marks_of_none list blocks marks is = subst (λ (l : Option (Bor (List ℕ))). AreMarksOf l blocks marks marks) (sym is) refl

-- a list was read
pub marks_of_list : (list : Option (Bor (List ℕ))) (file : Bor (List ℕ)) (blocks : ℕ) (bad them : List ℕ) (before marks : List Bool) → list ≡ Some file → AreListed blocks bad → them ≡ bad
    → AreMarked blocks before them marks → AreMarksOf list blocks before marks
marks_of_list list file blocks bad them before marks is listed same marked =
    subst (λ (l : Option (Bor (List ℕ))). AreMarksOf l blocks before marks) (sym is) (bad, listed, subst (λ (b : List ℕ). AreMarked blocks before b marks) same marked)

-- nothing was marked before
pub marks_of_empty : (list : Option (Bor (List ℕ))) (blocks : ℕ) (before marks : List Bool) → before ≡ [] → AreMarksOf list blocks before marks → AreMarksOf list blocks [] marks
marks_of_empty list blocks before marks empty is = subst (λ (b : List Bool). AreMarksOf list blocks b marks) empty is

-- the marks are those of the blocks of an image
pub marks_of : (list : Option (Bor (List ℕ))) (blocks n : ℕ) (items marks : List Bool) → blocks ≡ n → marks ≡ items → AreMarksOf list blocks [] items → AreMarksOf list n [] marks
marks_of list blocks n items marks count same is = subst (λ (k : ℕ). AreMarksOf list k [] marks) count (subst (AreMarksOf list blocks []) (sym same) is)
