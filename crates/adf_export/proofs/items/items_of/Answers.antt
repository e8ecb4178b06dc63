use Rattle.adf_export.proofs.Common.{flat_map, ◌≡◌, ℕ, ◌<◌, None, [], List, length, get_or, sym, subst, arith, ap, ◌∙◌, get_or_default, take_all, Below, EachGoesOut, sources_of}
use Rattle.adf_export.proofs.Going.{each_more, each_none, sources_more}
use Rattle.adf_export.proofs.items.items_of.Goals as goal

-- the entry of a turn
abbrev no_entry : Below
no_entry = record { key = 0; above = None }

abbrev entry_at : List Below → ℕ → Below
entry_at found i = get_or found i no_entry

is_there : (found : List Below) (i : ℕ) → i < length found → entry_at found i ≡ get_or found i (entry_at found i)
is_there found i inside = get_or_default found i no_entry (entry_at found i) inside

pub loop-entry-init : goal.loop-entry-init
loop-entry-init c = record {
  items = λ t s. subst (EachGoesOut t c.args.meta []) (sym c.new.ensures.items) (each_none t c.args.meta);
  sources = c.new-2.ensures.items;
}

pub loop-entry-preserved : goal.loop-entry-preserved
loop-entry-preserved c = record {
  items = λ t s.
      let own = c.in_ok-push_entry.ensures.items t s in
      each_more c.args.meta c.args.found.now c.loop-entry.entry-index (entry_at c.args.found.now c.loop-entry.entry-index) (omega arith) (is_there c.args.found.now c.loop-entry.entry-index c.loop-entry-test.true) t
      c.loop-entry.out.items.items c.push_entry.new.self.items.items own.0 (c.loop-entry.invariant.items t s) own.1 own.2;
  sources =
      sources_more c.args.meta c.args.found.now c.loop-entry.entry-index (entry_at c.args.found.now c.loop-entry.entry-index) (omega arith) (is_there c.args.found.now c.loop-entry.entry-index c.loop-entry-test.true)
      c.loop-entry.out.sources.items c.push_entry.new.self.sources.items c.loop-entry.invariant.sources c.in_ok-push_entry.ensures.sources;
}

pub returns-clause-items : goal.returns-clause-items
returns-clause-items c = λ t s.
    subst (λ (es : List Below). EachGoesOut t c.args.meta es c.loop-entry.out.items.items) (take_all c.loop-entry.entry-index c.args.found.now (omega arith)) (c.loop-entry.invariant.items t s)

pub returns-clause-sources : goal.returns-clause-sources
returns-clause-sources c =
    c.loop-entry.invariant.sources ∙ ap (flat_map (sources_of c.args.meta)) (take_all c.loop-entry.entry-index c.args.found.now (omega arith))
