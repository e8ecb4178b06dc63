-- The marks of the blocks that a list names.
use Rattle.std.proofs.Common.{◌≡◌, ℕ, ◌≤◌, Bor, Bool, true, false, List, [], length, Option, Some, None, sym, ap, subst, arith}
use Rattle.adf_archive.proofs.Common.{block_count}
use Rattle.adf_block.proofs.Frames.{same_count}
use Rattle.adf_script.specs.Lines.{lines_of}
use Rattle.adf_cli.specs.BadBlocks.{AreBad, AreMarked, IsBadFault}
use Rattle.adf_cli.specs.declared.bad_list.BadFault.{BadFault}
use Rattle.ados_model.specs.Accepted.{Accepts}
use Rattle.ados_model.specs.Rebuilt.{IsOfBitmap}
use Rattle.adf_archive.specs.Suspects.{AreListMarks, IsListFault}

-- an accepted image has as many blocks as before
pub accepted_count : (old checked : List ℕ) (was_validated : Bool) → Accepts old was_validated checked → block_count checked ≡ block_count old
accepted_count old checked false accepts = ap block_count accepts.2
accepted_count old checked true accepts = same_count (IsOfBitmap old) old checked accepts.1.rest

-- there is no list
pub marks_of_none : (list : Option (Bor (List ℕ))) (blocks : ℕ) (marks : List Bool) → list ≡ None → marks ≡ [] → AreListMarks list blocks marks
marks_of_none list blocks marks none is = subst (λ (l : Option (Bor (List ℕ))). AreListMarks l blocks marks) (sym none) is

-- a list was read
pub marks_of_list : (list : Option (Bor (List ℕ))) (bytes : Bor (List ℕ)) (blocks : ℕ) (bad them : List ℕ) (before marks : List Bool) → list ≡ Some bytes → AreBad blocks (lines_of bytes.now) bad
    → before ≡ [] → them ≡ bad → AreMarked blocks before them marks → AreListMarks list blocks marks
marks_of_list list bytes blocks bad them before marks is names empty same marked =
    subst (λ (l : Option (Bor (List ℕ))). AreListMarks l blocks marks) (sym is)
    (bad, names, subst (λ (b : List Bool). AreMarked blocks b bad marks) empty (subst (λ (b : List ℕ). AreMarked blocks before b marks) same marked))

-- it was not taken
pub fault_of_list : (list : Option (Bor (List ℕ))) (bytes : Bor (List ℕ)) (blocks : ℕ) (fault : BadFault) → list ≡ Some bytes → IsBadFault blocks (lines_of bytes.now) fault → IsListFault list blocks fault
fault_of_list list bytes blocks fault is wrong = subst (λ (l : Option (Bor (List ℕ))). IsListFault l blocks fault) (sym is) wrong

-- the marks of a list are not more than the blocks
pub few_marks : (list : Option (Bor (List ℕ))) (blocks : ℕ) (marks : List Bool) → AreListMarks list blocks marks → length marks ≤ blocks
few_marks None blocks marks is = omega (arith, ap (λ (ms : List Bool). length ms) is)
few_marks (Some list) blocks marks (bad, names, marked) = omega (arith, marked.count)
