use Rattle.ados_salvage.proofs.Common.{sym, subst, Gathered, AreGatheredBy}
use Rattle.ados_salvage.proofs.chains.add_reached.Goals as goal
use Rattle.ados_salvage.proofs.chains.add_reached.Goals.{then-matches+then-entry-blocks+in_ok-add_chains-2, else-matches, else-matches-via-then-matches+else-entry-blocks, else-matches-via-else-matches}

pub loop-place-preserved : goal.loop-place-preserved
loop-place-preserved c = elim c.if-matches.branch [
  | then-matches+then-entry-blocks+in_ok-add_chains-2 w ↦
      subst (λ (g : Gathered). AreGatheredBy c.args.known.now g) (sym w.gathered-is) w.in_ok-add_chains-2.ensures
  | else-matches w ↦
      subst (λ (g : Gathered). AreGatheredBy c.args.known.now g) (sym w.gathered-is) (elim w.else-matches.branch [
        | else-matches-via-then-matches+else-entry-blocks v ↦
            subst (λ (g : Gathered). AreGatheredBy c.args.known.now g) (sym v.gathered-is) c.loop-place.invariant
        | else-matches-via-else-matches v ↦
            subst (λ (g : Gathered). AreGatheredBy c.args.known.now g) (sym v.gathered-is) c.loop-place.invariant
      ])
]
