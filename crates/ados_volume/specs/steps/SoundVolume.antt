-- What holds of a volume's image, its caches, and the block from which it searches for free ones.
use Rattle.std.specs.Prelude.{ℕ, List}
use Rattle.std.specs.BTreeMap.{BTreeMap}
use Rattle.std.specs.BTreeSet.{BTreeSet}
use Rattle.ados_map.specs.Pages.{NoneFreeBelow}
use Rattle.ados_data.specs.declared.place.Place.{Place}
use Rattle.ados_model.specs.Keys.{HasTree}
use Rattle.ados_volume.specs.declared.cache.Sought.{Sought}
use Rattle.ados_volume.specs.steps.Cache.{AreChildren, AreWhole}
use Rattle.ados_volume.specs.steps.Listed.{AreListed}
use Rattle.ados_volume.specs.steps.Places.{AreKnown}

-- the image represents a tree, what the caches have is true of it, the cache of names has all entries of the hash slots
-- that it marks, and no block below that one is free
pub record IsSoundVolume (image : List ℕ) (names : BTreeMap Sought ℕ) (whole : BTreeSet ℕ) (told : List (ℕ × ℕ)) (places : List (ℕ × Place)) (free_from : ℕ) : Type 0 where
  pub tree : HasTree image
  pub children : AreChildren image names
  pub slots : AreWhole image names whole
  pub listed : AreListed image told
  pub known : AreKnown image places
  pub bound : NoneFreeBelow image free_from
