use Rattle.std.proofs.lemmas.Grind.{common_steps}
use Rattle.ados_volume.proofs.Common.{Below, List, Some, [], ap, arith, count_same, length, subst, sym, ℕ, ◌++◌, ◌∙◌, ◌≡◌}
use Rattle.ados_volume.specs.steps.Stack.{stacked}
use Rattle.ados_volume.proofs.GoingBelow.{GrowsOn, grown_all, grows_few, grows_first, grows_on, grows_there}
use Rattle.ados_volume.proofs.below.push_below.Goals as goal

pub loop-entry-init : goal.loop-entry-init
loop-entry-init c = λ t s.
    grows_first t s.proper c.args.top c.args.above c.args.found.now.items c.push_entries.new.waiting.items
    (c.in_ok-push_entries.ensures t s ∙ ap (λ (xs : List Below). xs ++ stacked t c.args.above c.args.top) c.new-waiting.ensures.items)

pub push_entries-requires-in-Some : goal.push_entries-requires-in-Some
push_entries-requires-in-Some c = λ t s.
    grows_there t s.proper c.args.top c.args.above c.args.found.now.items c.loop-entry.found.items c.pop.new.self.items c.in-Some.entry
    (subst (GrowsOn t c.args.top c.args.above c.args.found.now.items c.loop-entry.found.items) c.in-Some.ensures.items (c.loop-entry.invariant t s))

pub loop-entry-smaller : goal.loop-entry-smaller
loop-entry-smaller c =
    let t = c.image.ensures.stands.0 in
    let s = c.image.ensures.stands.1 in
    let few = grows_few t s.proper c.args.top c.args.above c.args.found.now.items c.loop-entry.found.items c.pop.new.self.items c.in-Some.entry
    (subst (GrowsOn t c.args.top c.args.above c.args.found.now.items c.loop-entry.found.items) c.in-Some.ensures.items (c.loop-entry.invariant t s)) in
    let blocks = count_same c.args.volume.now.image t s in
    omega (arith, few, blocks, c.in_ok-push.ensures.len)

pub loop-entry-preserved : goal.loop-entry-preserved
loop-entry-preserved c = λ t s.
    let place : c.len.result ≡ length c.loop-entry.found.items = omega (arith, c.len.ensures, c.loop-entry.found.ok) in
    subst (λ (found : List Below). GrowsOn t c.args.top c.args.above c.args.found.now.items found c.push_entries-in-Some.new.waiting.items) (sym c.in_ok-push.ensures.items)
    (grows_on t s.proper c.args.top c.args.above c.args.found.now.items c.loop-entry.found.items c.pop.new.self.items c.in-Some.entry
    (subst (GrowsOn t c.args.top c.args.above c.args.found.now.items c.loop-entry.found.items) c.in-Some.ensures.items (c.loop-entry.invariant t s))
    c.push_entries-in-Some.new.waiting.items
    (c.in_ok-push_entries-2.ensures t s ∙ ap (λ (k : ℕ). c.pop.new.self.items ++ stacked t (Some k) c.in-Some.entry.key) place))

pub returns : goal.returns
returns c = λ t s.
    let none : c.loop-entry.waiting.items ≡ [] = grind (arith, common_steps) in
    grown_all t s.proper c.args.top c.args.above c.args.found.now.items c.loop-entry.found.items c.loop-entry.waiting.items none (c.loop-entry.invariant t s)
