-- The positions of handles, in a map and in its slab.
use Rattle.std.specs.Prelude.{◌≡◌, ℕ, ◌<◌, ◌≤◌}
use Rattle.std.specs.Option.{option_map, option_map_or}
use Rattle.std.specs.Ordering.{nat_cmp}
use Rattle.std.specs.FinMap as numbered
use Rattle.ados_model.specs.declared.holds.HandleHold.{HandleHold}
use Rattle.slab.specs.Slab.{Slab, get, slab_len, with_value}

-- the handle under this number has this position; if there is none, nothing changes
abbrev pub positioned : numbered.FinMap nat_cmp HandleHold → ℕ → ℕ → numbered.FinMap nat_cmp HandleHold
positioned handles number position =
    option_map_or (λ hold. numbered.insert handles number (record hold { position = position })) (numbered.get handles number) handles

-- there are as many values, and the next key and the room are the same
pub record SameRoom (old new : Slab HandleHold) : Type 0 where
  pub len : slab_len new ≡ slab_len old
  pub vacant_key : new.vacant_key ≡ old.vacant_key
  pub capacity : new.capacity ≡ old.capacity

module _ (move : HandleHold → HandleHold) where
  -- the handle under this key of the slab is moved; if there is none, nothing changes
  abbrev pub IsMovedAt : ℕ → Slab HandleHold → Slab HandleHold → Type 0
  IsMovedAt place old new = new ≡ option_map_or (λ hold. with_value old place (move hold)) (get old place) old

  -- the handles below this key are moved, the others are not
  pub record MovesBelow (place : ℕ) (old new : Slab HandleHold) : Type 0 where
    pub below : (key : ℕ) → key < place → get new key ≡ option_map move (get old key)
    pub above : (key : ℕ) → place ≤ key → get new key ≡ get old key
    pub room : SameRoom old new

  -- each handle is moved
  pub record MovesEach (old new : Slab HandleHold) : Type 0 where
    pub each : (key : ℕ) → get new key ≡ option_map move (get old key)
    pub room : SameRoom old new
