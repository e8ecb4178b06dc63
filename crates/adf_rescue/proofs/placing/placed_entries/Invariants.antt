use Rattle.std.proofs.Common.{◌≡◌, ℕ, List, drop, length, map}
use Rattle.adf_rescue.specs.Undelete.{places_from, places_of, seen_place}
use Rattle.adf_rescue.specs.steps.Asking.{AreAsked}
use Rattle.adf_rescue.proofs.placing.placed_entries.Given as goal

-- what is known of the entries before this one, and the others behind them
abbrev pub invariant-loop-entry : goal.invariant-loop-entry
invariant-loop-entry l = record {
  count : length l.places.items ≡ l.entry-index;
  places : (keys : List (List ℕ)) → AreAsked keys l.asked → places_from keys (map seen_place l.places.items) (drop l.entry-index l.entries) ≡ places_of keys l.entries;
}
