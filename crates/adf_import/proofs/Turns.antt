-- What is untouched by a read before a change, and by sequences of changes.
use Rattle.std.proofs.Common.{◌≡◌, ◌/◌, ℕ, List, [], ◌∷◌, ◌++◌, append_assoc, sym, ap, ◌∙◌, subst}
use Rattle.std.proofs.lemmas.List.{append-nil}
use Rattle.adf_import.proofs.Common.{Shown, Tree, GoesThrough, none, one_more}
use Rattle.ados_change.specs.NewBlocks.{KeepsRest}
use Rattle.ados_change.proofs.FilesStay.{past_end_trans}
use Rattle.ados_change.proofs.Keeping.{same_keeps}
use Rattle.adf_import.specs.InTurn.{KeepsOutside}

-- a change of an unchanged volume
pub kept_looked : (old looked new : Shown) → looked ≡ old → KeepsRest looked.image new.image → KeepsRest old.image new.image
kept_looked old looked new same keeps = subst (λ (v : Shown). KeepsRest v.image new.image) same keeps

-- no change
pub kept_same : (old new : Shown) → new ≡ old → KeepsRest old.image new.image
kept_same old new same = subst (λ (v : Shown). KeepsRest old.image v.image) (sym same) (same_keeps old.image)

-- one sequence of changes after another
pub goes_both : (old between new : List ℕ) (first then : List (Tree → Tree)) → GoesThrough first old between → GoesThrough then between new → GoesThrough (first ++ then) old new
goes_both old between new first then done none = subst (λ (steps : List (Tree → Tree)). GoesThrough steps old new) (sym (append-nil first)) done
goes_both old between new first then done (one_more steps step {between = next} more stands keeps has) =
    subst (λ (all : List (Tree → Tree)). GoesThrough all old new) (append_assoc first steps (step ∷ []))
    (one_more (first ++ steps) step (goes_both old between next first steps done more) stands keeps has)

-- the parts outside the tree
outside_same : (image : List ℕ) → KeepsOutside image image
outside_same image = let k = same_keeps image in record { size = k.kept.size; boot = k.kept.boot; past_end = k.untold.past_end }

outside_more : (old between new : List ℕ) → KeepsOutside old between → KeepsRest between new → KeepsOutside old new
outside_more old between new first keeps = record {
  size = keeps.kept.size ∙ first.size;
  boot = keeps.kept.boot ∙ first.boot;
  past_end = past_end_trans old between new (ap (λ (n : ℕ). n / 512) first.size) first.past_end keeps.untold.past_end;
}

pub outside_stays : (steps : List (Tree → Tree)) (old new : List ℕ) → GoesThrough steps old new → KeepsOutside old new
outside_stays steps old new none = outside_same old
outside_stays steps old new (one_more before step {between = next} goes stands keeps has) = outside_more old next new (outside_stays before old next goes) keeps
