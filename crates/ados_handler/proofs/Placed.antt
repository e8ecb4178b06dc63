-- The places of packets.
use Rattle.std.proofs.Common.{◌≡◌, ℕ, Bool, true, false, cond, not, List, [], ◌∷◌, Option, Some, Result, Ok, Err, option_map, refl, ap, ◌∙◌}
use Rattle.ados_handler.proofs.Common.{result_err, result_unwrap_or, Tree, PlaceFault, DosError, DeviceNotMounted, InvalidLock, Packet, Session, is_lock, place_error, placed, spot, place_result, placed_at, first_refusal, refusal, refusals, refuse}

-- a path with a place is not refused
pub placed_on : (t : Tree) (s : Session) (lock : ℕ) (path : List ℕ) (there : ℕ × List ℕ) (more : List (Option DosError)) → placed_at t s lock path ≡ Ok there
    → (first_refusal (refuse InvalidLock (not (is_lock s lock)) ∷ option_map place_error (result_err (placed t s lock path)) ∷ more) ≡ first_refusal more) × (spot t s lock path ≡ there)
placed_on t s lock path there more = go (is_lock s lock) (placed t s lock path)
  where
    go : (b : Bool) (r : Result (ℕ × List ℕ) PlaceFault) → cond b (place_result r) (Err InvalidLock) ≡ Ok there
        → (first_refusal (refuse InvalidLock (not b) ∷ option_map place_error (result_err r) ∷ more) ≡ first_refusal more) × (result_unwrap_or r (0, []) ≡ there)
    go true (Ok p) e = (refl, cc e)
    go true (Err fault) e = absurd (cc e)
    go false r e = absurd (cc e)

-- a path without one is refused
pub place_refused : (t : Tree) (s : Session) (packet : Packet) (lock : ℕ) (path : List ℕ) (error : DosError) (rest : List (Option DosError))
    → refusals t s packet ≡ refuse InvalidLock (not (is_lock s lock)) ∷ option_map place_error (result_err (placed t s lock path)) ∷ rest
    → s.died ≡ false → placed_at t s lock path ≡ Err error → refusal t s packet ≡ Some error
place_refused t s packet lock path error rest row alive e =
    ap (λ (d : Bool). first_refusal (refuse DeviceNotMounted d ∷ refusals t s packet)) alive ∙ ap first_refusal row ∙ go (is_lock s lock) (placed t s lock path) e
  where
    go : (b : Bool) (r : Result (ℕ × List ℕ) PlaceFault) → cond b (place_result r) (Err InvalidLock) ≡ Err error
        → first_refusal (refuse InvalidLock (not b) ∷ option_map place_error (result_err r) ∷ rest) ≡ Some error
    go true (Ok p) e = absurd (cc e)
    go true (Err fault) e = let is : place_error fault ≡ error = cc e in ap Some is
    go false r e = let is : InvalidLock ≡ error = cc e in ap Some is
