use Rattle.ados_salvage.proofs.Common.{ℕ, Bool, List, length, ap, subst, IfOk-weaker, Gathered, AreGathered}
use Rattle.ados_salvage.proofs.Growing.{no_tree}
use Rattle.ados_salvage.proofs.gathered.Gathered.new.Goals as goal

pub behind-requires : goal.behind-requires
behind-requires c = no_tree c.args.image.now c.in_ok-entries.entries.items c.in_ok-entries.ensures.items

pub returns : goal.returns
returns c =
    IfOk-weaker c.behind.result (λ (gathered : Gathered). (out : List ℕ) (fillers : Bool) → AreGathered (length c.in_ok-entries.entries.items) out c.args.holes.now fillers c.args.image.now gathered)
    (λ (gathered : Gathered). (out : List ℕ) (fillers : Bool) → AreGathered 0 out c.args.holes.now fillers c.args.image.now gathered)
    (λ gathered by out fillers. subst (λ (n : ℕ). AreGathered n out c.args.holes.now fillers c.args.image.now gathered) (ap length c.in_ok-entries.ensures.items) (by out fillers)) c.behind.ensures.gathered
