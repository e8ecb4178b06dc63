-- RENAME_OBJECT: the refusals in the order of the code, and its meaning if none holds.
use Rattle.std.proofs.Common.{◌≡◌, ℕ, Bool, true, false, cond, not, List, [], ◌∷◌, Some, None, Result, Ok, Err, option_map, sym, ap, ◌∙◌}
use Rattle.std.specs.Prelude.{◌&&◌}
use Rattle.ados_handler.proofs.Common.{result_err, result_unwrap_or, Date3, Tree, renamed, WalkFault, PlaceFault, DosError, DeviceNotMounted, InvalidLock, dos_true, Packet, RenameObject, Empty, Session, is_lock, found, object, place_error, placed, walk_error, spot, place_result, walk_result, first_refusal, refusal, refusals, refuse, both, move_refusal, move_refusals, source_and_place, after}
use Rattle.ados_handler.proofs.Meant.{IsEdit}

module _ (t : Tree) (s : Session) (from_lock : ℕ) (from : List ℕ) (to_lock : ℕ) (to : List ℕ) (alive : s.died ≡ false) where
  abbrev packet : Packet
  packet = RenameObject from_lock from to_lock to

  living : refusal t s packet ≡ first_refusal (refusals t s packet)
  living = ap (λ (d : Bool). first_refusal (refuse DeviceNotMounted d ∷ refusals t s packet)) alive

  -- the refusals by the locks and paths
  pub source_refused : (error : DosError) → source_and_place t s from_lock from to_lock to ≡ Err error → refusal t s packet ≡ Some error
  source_refused error e = living ∙ go (is_lock s from_lock) (is_lock s to_lock) (found t s from_lock from) (placed t s to_lock to) e
    where
      go : (b c : Bool) (r : Result ℕ WalkFault) (p : Result (ℕ × List ℕ) PlaceFault) → cond (b && c) (both (walk_result r) (place_result p)) (Err InvalidLock) ≡ Err error
          → first_refusal (refuse InvalidLock (not b) ∷ refuse InvalidLock (not c) ∷ option_map walk_error (result_err r) ∷ option_map place_error (result_err p) ∷ move_refusals t s (result_unwrap_or r 0) (result_unwrap_or p (0, [])).0 (result_unwrap_or p (0, [])).1) ≡ Some error
      go true true (Err fault) p e = let is : walk_error fault ≡ error = cc e in ap Some is
      go true true (Ok key) (Err fault) e = let is : place_error fault ≡ error = cc e in ap Some is
      go true true (Ok key) (Ok there) e = absurd (cc e)
      go b c r p e = let is : InvalidLock ≡ error = cc e in ap Some is

  module _ (key : ℕ) (there : ℕ × List ℕ) (found_both : source_and_place t s from_lock from to_lock to ≡ Ok (key, there)) where
    found_refusal : (refusal t s packet ≡ move_refusal t s key there.0 there.1) × (object t s from_lock from ≡ key) × (spot t s to_lock to ≡ there)
    found_refusal =
        let g = go (is_lock s from_lock) (is_lock s to_lock) (found t s from_lock from) (placed t s to_lock to) found_both in (living ∙ g.0, g.1, g.2)
      where
        go : (b c : Bool) (r : Result ℕ WalkFault) (p : Result (ℕ × List ℕ) PlaceFault) → cond (b && c) (both (walk_result r) (place_result p)) (Err InvalidLock) ≡ Ok (key, there)
            → (first_refusal (refuse InvalidLock (not b) ∷ refuse InvalidLock (not c) ∷ option_map walk_error (result_err r) ∷ option_map place_error (result_err p) ∷ move_refusals t s (result_unwrap_or r 0) (result_unwrap_or p (0, [])).0 (result_unwrap_or p (0, [])).1) ≡ move_refusal t s key there.0 there.1)
            × (result_unwrap_or r 0 ≡ key) × (result_unwrap_or p (0, []) ≡ there)
        go true true (Ok k) (Ok q) e =
            let pair : ◌≡◌ {A = ℕ × (ℕ × List ℕ)} (k, q) (key, there) = cc e in (λ i. move_refusal t s (pair i).0 (pair i).1.0 (pair i).1.1, λ i. (pair i).0, λ i. (pair i).1)
        go b c r p e = absurd (cc e)

    -- the refusals by the object and the place
    pub move_refused : (error : DosError) → move_refusal t s key there.0 there.1 ≡ Some error → refusal t s packet ≡ Some error
    move_refused error e = found_refusal.0 ∙ e

    -- the move is made if no refusal holds
    pub rename_object_edits : (now : Date3) → move_refusal t s key there.0 there.1 ≡ None → IsEdit t (renamed now key there.0 there.1 t) s packet now
    rename_object_edits now none =
        let f = found_refusal in
        record { none = f.0 ∙ none; success = λ i. after (renamed now (sym f.1 i) (sym f.2 i).0 (sym f.2 i).1 t) s dos_true Empty }
