-- Lemmas about counts of a port's events.
use Rattle.std.proofs.Common.{◌≡◌, ℕ, ◌≤◌, List, ◌++◌, length, take, drop, sym, ap, ◌∙◌, arith, length-append}
use Rattle.std.specs.Prelude.{Option}
use Rattle.std.specs.List.{filter_map}
use Rattle.std.proofs.lemmas.List.{take-append-drop, take-take}
use Rattle.std.proofs.lemmas.List.Elements.{filter_map-append}
use Rattle.ados_port.specs.History.{Event, served_count, moment_served}

-- the first events give at most as much as all events
pub filter_map-take : {A B : Type 0} (h : A → Option B) (xs : List A) (i : ℕ) → length (filter_map h (take i xs)) ≤ length (filter_map h xs)
filter_map-take h xs i =
    let e : filter_map h (take i xs) ++ filter_map h (drop i xs) ≡ filter_map h xs = sym (filter_map-append h (take i xs) (drop i xs)) ∙ ap (filter_map h) (take-append-drop i xs)
    in omega (arith, ap length e, length-append (filter_map h (take i xs)) (filter_map h (drop i xs)))

-- later events served at least as many packets
pub served_count-take : {Q M A : Type 0} (events : List (Event Q M A)) (i j : ℕ) → i ≤ j → served_count (take i events) ≤ served_count (take j events)
served_count-take events i j before =
    let h = filter_map-take (λ e. moment_served e.step e.outcome) (take j events) i
    in omega (arith, h, ap served_count (take-take i j events before))
