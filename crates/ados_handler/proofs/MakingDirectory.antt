-- CREATE_DIR.
use Rattle.std.proofs.Common.{◌≡◌, ℕ, pos, true, false, List, [], ◌∷◌, Option, None, Ok, refl, sym, ap, ◌∙◌}
use Rattle.ados_handler.proofs.Common.{is_some, Date3, Tree, Proper, Directory, Stands, child_of, made, CanMake, DosError, DeviceNotMounted, DiskFull, ObjectExists, CreateDir, Empty, Session, IsFreeNumber, with_lock, passed, IsProperSession, spot, lacks, placed_at, first_refusal, refusal, refusals, refuse, GivesLock, IsNewKey, after, IsSoundHandler, MethodMeans, Places}
use Rattle.ados_handler.proofs.Making.{made_lock}
use Rattle.ados_handler.proofs.Meant.{counted, served_means}
use Rattle.ados_handler.proofs.Placed.{placed_on}

-- the refusals that depend on the place
abbrev place_row : Tree → ℕ × List ℕ → List (Option DosError)
place_row t there = refuse ObjectExists (is_some (child_of t there.0 there.1)) ∷ refuse DiskFull (lacks t 1) ∷ []

-- no refusal of a new directory there holds
pub create_dir_passes : (t : Tree) (s : Session) (there : ℕ × List ℕ) (lock : ℕ) (path : List ℕ) → s.died ≡ false → placed_at t s lock path ≡ Ok there → is_some (child_of t there.0 there.1) ≡ false → lacks t 1 ≡ false
    → refusal t s (CreateDir lock path) ≡ None
create_dir_passes t s there lock path alive place none room =
    let p = placed_on t s lock path there [] place in
    passed DeviceNotMounted s.died (refusals t s (CreateDir lock path)) alive
    ∙ (placed_on t s lock path there (place_row t (spot t s lock path)) place).0
    ∙ ap (λ (p : ℕ × List ℕ). first_refusal (place_row t p)) p.1
    ∙ passed ObjectExists (is_some (child_of t there.0 there.1)) _ none
    ∙ passed DiskFull (lacks t 1) [] room

-- a directory is made at the place, and the new session has a lock on it
module _ (t : Tree) (s new : Session) (now : Date3) (there : ℕ × List ℕ) (key number : ℕ) (fresh : IsNewKey t key) (free : IsFreeNumber s.locks number) (same : new ≡ with_lock number key true s) where
  pub create_dir_means : (places : Places) (lock : ℕ) (path : List ℕ) → s.died ≡ false → placed_at t s lock path ≡ Ok there → is_some (child_of t there.0 there.1) ≡ false → lacks t 1 ≡ false
      → MethodMeans places t s (CreateDir lock path) now (made now there.0 key there.1 (Directory []) t) new (counted number Empty)
  create_dir_means places lock path alive place none room =
      let p = placed_on t s lock path there [] place in
      let not_refused = create_dir_passes t s there lock path alive place none room in
      served_means places t (made now there.0 key there.1 (Directory []) t) s new (CreateDir lock path) now (counted number Empty) not_refused
      (record {
        success = (key, fresh, (number, free, λ i. after (made now (sym p.1 i).0 key (sym p.1 i).1 (Directory []) t) (same i) (pos number) Empty));
        action = refl;
        res2 = refl;
      })

  pub create_dir_sound : (image : List ℕ) → Proper t → IsProperSession t s → CanMake t there.0 there.1 → Stands image (made now there.0 key there.1 (Directory []) t) → IsSoundHandler image new
  create_dir_sound image proper session can stands =
      let u = made now there.0 key there.1 (Directory []) t in
      let given : GivesLock u s key true (after u new (pos number) Empty) = (number, free, λ i. after u (same i) (pos number) Empty) in
      record { tree = u; stands = stands; holds = (made_lock t s proper session now there.0 key there.1 (Directory []) can fresh refl true (after u new (pos number) Empty) given).1 }
