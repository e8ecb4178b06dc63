use Rattle.adf_export.proofs.Common.{flat_map, ℕ, List, [], None, sym, subst, arith, take_all, AreBelow, tops}
use Rattle.adf_export.proofs.Under.{below_none, object_more}
use Rattle.adf_export.proofs.items.entries_of.Goals as goal

pub loop-key-init : goal.loop-key-init
loop-key-init c = λ t s. subst (AreBelow t None 0 []) (sym c.new-found.ensures.items) (below_none t None 0)

pub loop-key-preserved : goal.loop-key-preserved
loop-key-preserved c = λ t s.
    let own = c.in_ok-push_object.ensures t s in
    object_more t c.args.keys.now c.loop-key.key-index (omega arith) c.loop-key.found.items c.push_object.new.found.items (c.loop-key.invariant t s) own.0 own.1 own.2

pub returns : goal.returns
returns c = λ t s.
    subst (λ (keys : List ℕ). AreBelow t None 0 (flat_map (tops t) keys) c.loop-key.found.items) (take_all c.loop-key.key-index c.args.keys.now (omega arith)) (c.loop-key.invariant t s)
