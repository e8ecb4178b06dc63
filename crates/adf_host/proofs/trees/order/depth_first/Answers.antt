use Rattle.std.proofs.Common.{length, sym, subst}
use Rattle.std.specs.List.Sorted.{IsPermutation}
use Rattle.adf_host.specs.Order.{IsEachOnce}
use Rattle.adf_host.proofs.Ordering.{each_count, each_once}
use Rattle.adf_host.proofs.trees.order.depth_first.Goals as goal

pub returns-clause-each : goal.returns-clause-each
returns-clause-each c =
    each_once c.in_ok-pairs.pairs.items c.deref.result.now c.in_ok-order.order.items (length c.args.items.now) c.in_ok-pairs.ensures
    (subst (IsPermutation c.in_ok-pairs.pairs.items) (sym c.deref.ensures.value) c.sort_unstable.ensures.permutation) c.in_ok-order.ensures

pub returns-clause-count : goal.returns-clause-count
returns-clause-count c =
    let each : IsEachOnce c.args.items.now c.in_ok-order.order.items =
    each_once c.in_ok-pairs.pairs.items c.deref.result.now c.in_ok-order.order.items (length c.args.items.now) c.in_ok-pairs.ensures
    (subst (IsPermutation c.in_ok-pairs.pairs.items) (sym c.deref.ensures.value) c.sort_unstable.ensures.permutation) c.in_ok-order.ensures in
    each_count c.in_ok-order.order.items (length c.args.items.now) each
