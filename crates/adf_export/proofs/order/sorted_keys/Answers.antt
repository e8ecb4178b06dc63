use Rattle.adf_export.proofs.Common.{◌≡◌, ℕ, ◌+◌, List, take, arith, sym, ap, ◌∙◌, subst, take_all, comes_before, sorted, AreRanked, Rank}
use Rattle.adf_export.proofs.Ranking.{ranked_keys, ranked_none, ranked_on}
use Rattle.adf_export.proofs.order.sorted_keys.Goals as goal

pub loop-key-init : goal.loop-key-init
loop-key-init c = λ t s. ranked_none t c.args.order c.new-ranked.result.entries c.new-ranked.ensures.empty

pub loop-key-preserved : goal.loop-key-preserved
loop-key-preserved c = λ t s.
    let order = c.args.order in
    let keys = c.args.keys.now in
    let i = c.loop-key.key-index in
    subst (λ (es : List (Rank × ℕ)). AreRanked t order (sorted (comes_before t order) (take (i + 1) keys)) es) (sym c.in_ok-insert.ensures.entries)
    (ranked_on t order keys i 0 c.in_ok-rank.rank c.loop-key.ranked.entries c.loop-key-test.true c.requires.once (c.in_ok-rank.ensures t s) (c.loop-key.invariant t s))

pub returns : goal.returns
returns c = λ t s.
    let keys = c.args.keys.now in
    let i = c.loop-key.key-index in
    let all : take i keys ≡ keys = take_all i keys (omega arith) in
    c.in_ok-found.ensures
    ∙ ranked_keys t c.args.order (sorted (comes_before t c.args.order) (take i keys)) c.loop-key.ranked.entries (c.loop-key.invariant t s)
    ∙ ap (sorted (comes_before t c.args.order)) all
