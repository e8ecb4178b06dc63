use Rattle.std.proofs.Common.{Contains, get_or}
use Rattle.std.proofs.lemmas.List.Elements.{All-contains_itself, Contains-get_or}
use Rattle.std.proofs.lemmas.List.Filters.{All-dedup, dedup_is}
use Rattle.std.proofs.lemmas.List.Kept.{Contains-dedup_nat}
use Rattle.std.proofs.lemmas.List.Sorted.{All-permutation, Contains-permutation}
use Rattle.std.proofs.lemmas.Map.Keys.{IsStrictlyIncreasing-dedup}
use Rattle.adf_rescue.proofs.missing.in_order.Goals as goal

pub returns-clause-increasing : goal.returns-clause-increasing
returns-clause-increasing c =
    let is = dedup_is _ _ _ c.dedup.ensures.filtered in
    rw is (IsStrictlyIncreasing-dedup _ c.sort_unstable.ensures.sorted)

pub returns-clause-all : goal.returns-clause-all
returns-clause-all c = λ k d l.
    let is = dedup_is _ _ _ c.dedup.ensures.filtered in
    rw is (Contains-dedup_nat _ (get_or c.args.numbers.now k d) (Contains-permutation _ _ (get_or c.args.numbers.now k d) c.sort_unstable.ensures.permutation
    (rw c.in_ok-ordered.ensures.items (Contains-get_or c.args.numbers.now k d l))))

pub returns-clause-only : goal.returns-clause-only
returns-clause-only c =
    let is = dedup_is _ _ _ c.dedup.ensures.filtered in
    rw is (All-dedup _ (Contains c.args.numbers.now) _ (All-permutation (Contains c.args.numbers.now) _ _ c.sort_unstable.ensures.permutation (rw c.in_ok-ordered.ensures.items (All-contains_itself c.args.numbers.now))))
