-- The handles of a slab are moved one after the other.
use Rattle.std.proofs.Common.{◌≡◌, ℕ, ◌+◌, ◌-◌, ◌≤◌, Bool, true, false, cond, List, [], ◌∷◌, map, get_or, length, nat_lt, Option, Some, None, is_some, option_map, inl, inr, refl, sym, ap, ◌∙◌, subst, arith, ltb-true, ltb-false}
use Rattle.std.specs.Prelude.{◌&&◌, nat_le}
use Rattle.std.specs.FinMap as numbered
use Rattle.std.proofs.lemmas.List.{get_or_past}
use Rattle.std.proofs.lemmas.List.Sums.{sum_by-set}
use Rattle.ados_handler.proofs.Common.{IsSome, cases_eq, eqb_tells, eq_by_cmp, find, get-entries, get-from_entries, nat_cmp, nat_cmp_total, nat_cmp-IsAntisymmetric, option_map_or, same_map, HandleHold, Slab, slab_len, with_value, NumbersFit, numbered_from_one, table_view}
use Rattle.slab.specs.Slab.{get}
use Rattle.slab.proofs.SlabLemmas.{ContainsKey-within, Updates-with_value}
use Rattle.ados_handler.specs.steps.Positions.{IsMovedAt, MovesBelow, MovesEach, SameRoom}
use Rattle.ados_handler.proofs.Tables.{get_suc, get_zero}

-- a write through a key with a value keeps the number of values
written_len : (s : Slab HandleHold) (key : ℕ) (hold new : HandleHold) → get s key ≡ Some hold → slab_len (with_value s key new) ≡ slab_len s
written_len s key hold new at =
    let counted = sum_by-set (λ (o : Option HandleHold). cond (is_some o) 1 0) s.slots key (Some new) None (ContainsKey-within s key (ap is_some at)) in
    let one : ◌≡◌ {A = ℕ} (cond (is_some (get_or s.slots key None)) 1 0) 1 = ap (λ (o : Option HandleHold). cond (is_some o) 1 0) at in
    omega (arith, counted, one)

module _ (move : HandleHold → HandleHold) where
  -- the next one
  pub moves_next : (place : ℕ) (old s new : Slab HandleHold) → MovesBelow move place old s → IsMovedAt move place s new → MovesBelow move (place + 1) old new
  moves_next place old s new so_far moved = go (get s place) refl moved
    where
      was : get s place ≡ get old place
      was = so_far.above place (omega arith)

      go : (o : Option HandleHold) → get s place ≡ o → new ≡ option_map_or (λ hold. with_value s place (move hold)) o s → MovesBelow move (place + 1) old new
      go None none is = record {
        below = λ key low. elim (cases_eq key place) [
          | inl same ↦ ap (λ (z : Slab HandleHold). get z key) is ∙ ap (get s) same ∙ none ∙ sym (ap (option_map move) (ap (get old) same ∙ sym was ∙ none))
          | inr other ↦ ap (λ (z : Slab HandleHold). get z key) is ∙ so_far.below key (omega (arith, low, other))
        ];
        above = λ key high. ap (λ (z : Slab HandleHold). get z key) is ∙ so_far.above key (omega (arith, high));
        room = subst (SameRoom old) (sym is) so_far.room;
      }
      go (Some hold) at is =
          let updates = Updates-with_value s place (move hold) (ap is_some at) in
          record {
            below = λ key low. elim (cases_eq key place) [
              | inl same ↦ ap (λ (z : Slab HandleHold). get z key) is ∙ ap (get (with_value s place (move hold))) same ∙ updates.changed ∙ sym (ap (option_map move) (ap (get old) same ∙ sym was ∙ at))
              | inr other ↦ ap (λ (z : Slab HandleHold). get z key) is ∙ updates.others key other ∙ so_far.below key (omega (arith, low, other))
            ];
            above = λ key high. ap (λ (z : Slab HandleHold). get z key) is ∙ updates.others key (λ e. omega (arith, high, e)) ∙ so_far.above key (omega (arith, high));
            room = record {
              len = ap slab_len is ∙ written_len s place hold (move hold) at ∙ so_far.room.len;
              vacant_key = ap (λ (z : Slab HandleHold). z.vacant_key) is ∙ so_far.room.vacant_key;
              capacity = ap (λ (z : Slab HandleHold). z.capacity) is ∙ so_far.room.capacity;
            };
          }

  -- none is left
  pub moves_all : (place : ℕ) (old new : Slab HandleHold) → MovesBelow move place old new → length old.slots ≤ place → MovesEach move old new
  moves_all place old new so_far end = record { each = λ key. go key (nat_lt key place) refl; room = so_far.room }
    where
      go : (key : ℕ) (b : Bool) → nat_lt key place ≡ b → get new key ≡ option_map move (get old key)
      go key true is = so_far.below key (ltb-true key place is)
      go key false is =
          let past : place ≤ key = ltb-false key place is in
          let none : get old key ≡ None = get_or_past old.slots key None (omega (arith, past, end)) in
          so_far.above key past ∙ none ∙ sym (ap (option_map move) none)

  pick : (b : Bool) (x : HandleHold) (r s : Option HandleHold) → r ≡ option_map move s → cond b (Some (move x)) r ≡ option_map move (cond b (Some x) s)
  pick true x r s e = refl
  pick false x r s e = e

  found_moved : (es : List (ℕ × HandleHold)) (q : ℕ) → find nat_cmp q (map (λ e. (e.0, move e.1)) es) ≡ option_map move (find nat_cmp q es)
  found_moved [] q = refl
  found_moved (e ∷ es) q = pick (eq_by_cmp nat_cmp q e.0) e.1 _ _ (found_moved es q)

  some_moved : (o : Option HandleHold) → IsSome (option_map move o) → IsSome o
  some_moved None there = there
  some_moved (Some hold) there = there

  module _ (old new : Slab HandleHold) (moved : MovesEach move old new) where
    abbrev moved_map : numbered.FinMap nat_cmp HandleHold
    moved_map = numbered.from_entries (map (λ e. (e.0, move e.1)) (numbered.entries (numbered_from_one old)))

    mapped : (q : ℕ) → numbered.get moved_map q ≡ option_map move (numbered.get (numbered_from_one old) q)
    mapped q =
        get-from_entries nat_cmp_total (map (λ e. (e.0, move e.1)) (numbered.entries (numbered_from_one old))) q
        ∙ found_moved (numbered.entries (numbered_from_one old)) q ∙ sym (ap (option_map move) (get-entries (numbered_from_one old) q))

    -- the moved handles have the same numbers
    pub numbers_moved : numbered_from_one new ≡ moved_map
    numbers_moved = same_map nat_cmp_total nat_cmp-IsAntisymmetric _ _ (λ q. elim (eqb_tells q 0) [
      | inl z ↦ ap (numbered.get (numbered_from_one new)) z.1 ∙ get_zero new ∙ sym (ap (option_map move) (ap (numbered.get (numbered_from_one old)) z.1 ∙ get_zero old)) ∙ sym (mapped q)
      | inr z ↦ get_suc new q z.1 ∙ moved.each (q - 1) ∙ sym (ap (option_map move) (get_suc old q z.1)) ∙ sym (mapped q)
    ])

    -- they still fit
    pub fits_moved : NumbersFit old → NumbersFit new
    fits_moved fits = record { fits = λ key there. fits.fits key (some_moved (get old key) (subst IsSome (moved.each key) there)) }

    -- and a place stays
    pub ready_moved : (table_view new).ready ≡ (table_view old).ready
    ready_moved = λ i. nat_lt (moved.room.vacant_key i) 2147483647 && nat_le (moved.room.len i + 1) (moved.room.capacity i)
