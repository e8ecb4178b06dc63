use Rattle.adf_record.proofs.Common.{◌≡◌, ℕ, ◌<◌, None, [], List, length, get_or, sym, subst, arith, get_or_default, take_all, Below, AreEntriesOf}
use Rattle.adf_record.proofs.Entries.{told_more}
use Rattle.adf_record.proofs.bundling.entries_of.Goals as goal

-- the object of a turn
abbrev no_object : Below
no_object = record { key = 0; above = None }

abbrev object_at : List Below → ℕ → Below
object_at found i = get_or found i no_object

is_there : (found : List Below) (i : ℕ) → i < length found → object_at found i ≡ get_or found i (object_at found i)
is_there found i inside = get_or_default found i no_object (object_at found i) inside

pub loop-entry-init : goal.loop-entry-init
loop-entry-init c = λ t s. subst (AreEntriesOf t []) (sym c.new-entries.ensures.items) tt

pub loop-entry-preserved : goal.loop-entry-preserved
loop-entry-preserved c = λ t s.
    let found = c.args.found.now in
    let i = c.loop-entry.entry-index in
    told_more t found i (object_at found i) (omega arith) (is_there found i c.loop-entry-test.true)
    c.loop-entry.entries.items c.push.new.self.items c.entry_of.result (c.loop-entry.invariant t s) c.in_ok-push.ensures.items (c.entry_of.ensures t s)

pub returns : goal.returns
returns c = λ t s.
    subst (λ (es : List Below). AreEntriesOf t es c.loop-entry.entries.items) (take_all c.loop-entry.entry-index c.args.found.now (omega arith)) (c.loop-entry.invariant t s)
