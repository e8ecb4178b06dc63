use Rattle.std.proofs.Common.{◌≡◌, ℕ, List, [], ◌++◌, sym, ap, ◌∙◌, subst, arith}
use Rattle.adf_import.proofs.Common.{common_steps, entries}
use Rattle.ados_model.proofs.Standing.{count_same}
use Rattle.adf_import.proofs.Gathering.{IsGathering, gathered, gathering_few, gathering_goes_on, gathering_starts, gathering_there}
use Rattle.adf_import.proofs.prune.keys_below.Goals as goal

pub loop-key-init : goal.loop-key-init
loop-key-init c = λ t s.
    subst (λ (ks : List ℕ). IsGathering t c.args.top ks c.push_entries.new.keys.items) (sym c.new-keys.ensures.items)
    (gathering_starts t s.proper c.args.top c.push_entries.new.keys.items
    (c.in_ok-push_entries.ensures t s ∙ ap (λ (ks : List ℕ). ks ++ entries t c.args.top) c.new-waiting.ensures.items))

pub push_entries-requires-in-Some : goal.push_entries-requires-in-Some
push_entries-requires-in-Some c = λ t s.
    gathering_there t s.proper c.args.top c.loop-key.keys.items c.pop.new.self.items c.in-Some.key
    (subst (IsGathering t c.args.top c.loop-key.keys.items) c.in-Some.ensures.items (c.loop-key.invariant t s))

pub loop-key-smaller : goal.loop-key-smaller
loop-key-smaller c =
    let t = c.image.ensures.stands.0 in
    let s = c.image.ensures.stands.1 in
    let few = gathering_few t s.proper c.args.top c.loop-key.keys.items c.pop.new.self.items c.in-Some.key
    (subst (IsGathering t c.args.top c.loop-key.keys.items) c.in-Some.ensures.items (c.loop-key.invariant t s)) in
    let blocks = count_same c.args.volume.now.image t s in
    omega (arith, few, blocks, c.in_ok-push.ensures.len, c.loop-key.keys.ok)

pub loop-key-preserved : goal.loop-key-preserved
loop-key-preserved c = λ t s.
    subst (λ (ks : List ℕ). IsGathering t c.args.top ks c.push_entries-in-Some.new.keys.items) (sym c.in_ok-push.ensures.items)
    (gathering_goes_on t s.proper c.args.top c.loop-key.keys.items c.pop.new.self.items c.in-Some.key
    (subst (IsGathering t c.args.top c.loop-key.keys.items) c.in-Some.ensures.items (c.loop-key.invariant t s))
    c.push_entries-in-Some.new.keys.items (c.in_ok-push_entries-2.ensures t s))

pub returns : goal.returns
returns c = λ t s.
    let none : c.loop-key.waiting.items ≡ [] = grind (arith, common_steps) in
    gathered t s.proper c.args.top c.loop-key.keys.items c.loop-key.waiting.items none (c.loop-key.invariant t s)
