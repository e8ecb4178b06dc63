use Rattle.adf_where.proofs.Common.{◌<◌, ℕ, get_or, Contains-get_or}
use Rattle.std.proofs.lemmas.List.Filters.{All-dedup, dedup_is}
use Rattle.std.proofs.lemmas.List.Kept.{Contains-dedup_nat}
use Rattle.std.proofs.lemmas.List.Sorted.{All-permutation, Contains-permutation}
use Rattle.std.proofs.lemmas.Map.Keys.{IsStrictlyIncreasing-dedup}
use Rattle.adf_where.proofs.faulty.in_order.Goals as goal

pub returns-clause-increasing : goal.returns-clause-increasing
returns-clause-increasing c =
    let is = dedup_is _ _ _ c.dedup.ensures.filtered in
    rw is (IsStrictlyIncreasing-dedup _ c.sort_unstable.ensures.sorted)

pub returns-clause-all : goal.returns-clause-all
returns-clause-all c = λ k d l.
    let is = dedup_is _ _ _ c.dedup.ensures.filtered in
    rw is (Contains-dedup_nat _ (get_or c.args.blocks.now k d) (Contains-permutation _ _ (get_or c.args.blocks.now k d) c.sort_unstable.ensures.permutation
    (rw c.in_ok-asked.ensures.items (Contains-get_or c.args.blocks.now k d l))))

pub returns-clause-inside : goal.returns-clause-inside
returns-clause-inside c = λ n all.
    let is = dedup_is _ _ _ c.dedup.ensures.filtered in
    rw is (All-dedup _ (λ (block : ℕ). block < n) _ (All-permutation (λ (block : ℕ). block < n) _ _ c.sort_unstable.ensures.permutation (rw c.in_ok-asked.ensures.items all)))
