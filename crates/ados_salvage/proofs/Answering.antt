-- The result of the check, in terms of the entries.
use Rattle.ados_salvage.proofs.Common.{◌≡◌, ◌⊎◌, ℕ, inr, Bool, true, false, List, Result, Ok, Err, IfOk, sym, ap, ◌∙◌, subst, long, BITMAP_FLAG, Accepts, Stands, Tree, Saved, SavesBeside, SavesRest, SavesTree}
use Rattle.ados_salvage.specs.Holes.{IsEmptied, LeadsToNone, SalvagesBeside}
use Rattle.ados_model.proofs.Standing.{root_is}

-- an image that represents a tree is accepted with the same tree
pub same_tree : (image accepted : List ℕ) (validated : Bool) → Accepts image validated accepted → (t : Tree) → Stands image t → Stands accepted t
same_tree image accepted false a t s = subst (λ (xs : List ℕ). Stands xs t) (sym a.2) s
same_tree image accepted true a t s =
    absurd (a.1.was_not_valid (ap (λ (b : ℕ). long image b BITMAP_FLAG) (root_is image t s) ∙ s.root_fields.valid))

-- a salvage of one of both kinds, with its holes
pub saves_beside : {E : Type 0} (r : Result Saved E) (holes : List Bool) (listed : Bool) (image : List ℕ) (P : Saved → Type 0) → ((saved : Saved) → P saved → SavesTree listed image saved ⊎ SavesRest image saved) → IfOk r P → IfOk r (λ saved. saved.holes ≡ holes)
    → IfOk r (SavesBeside holes listed image)
saves_beside (Ok saved) holes listed image P one all same = (same, one saved all)
saves_beside (Err fault) holes listed image P one all same = tt

-- an image whose root leads to a hole is never accepted
pub refused_beside : {E : Type 0} (r : Result Saved E) (holes : List Bool) (listed : Bool) (image read : List ℕ) → IsEmptied holes image read → IfOk r (SavesRest read) → IfOk r (λ saved. saved.holes ≡ holes) → IfOk r (SalvagesBeside holes listed image)
refused_beside (Ok saved) holes listed image read emptied rest same = record {
  read = read;
  emptied = emptied;
  saves = (same, inr rest);
  unreached = λ accepted. absurd (cc (rest.refused, accepted));
}
refused_beside (Err fault) holes listed image read emptied rest same = tt

-- and one whose root leads to none is salvaged as any other
pub reached_none : {E : Type 0} (r : Result Saved E) (holes : List Bool) (listed : Bool) (image read : List ℕ) → IsEmptied holes image read → LeadsToNone holes listed read → IfOk r (SavesBeside holes listed read)
    → IfOk r (SalvagesBeside holes listed image)
reached_none (Ok saved) holes listed image read emptied none saves = record { read = read; emptied = emptied; saves = saves; unreached = λ accepted. none }
reached_none (Err fault) holes listed image read emptied none saves = tt
