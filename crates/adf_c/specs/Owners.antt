-- The owners of blocks, for C.
use Rattle.std.specs.Prelude.{◌≡◌, ℕ, ◌+◌, List, [], ◌∷◌}
use Rattle.ados_model.specs.Tree.{Tree}
use Rattle.ados_model.specs.Stands.{Stands}
use Rattle.ados_volume.specs.Owners.{AreOwners}
use Rattle.ados_volume.specs.declared.owner.Owner.{Owner}
use Rattle.ados_volume.specs.declared.owner.Owner.TheVariants.{Boot, Root, Page, Directory, File, Data, Extension, Lost, Free}
use Rattle.adf_c.specs.declared.values.owners.JipOwner.{JipOwner}

-- the owner of a block for C: the number of its role, the header that it belongs to, and which block it is
abbrev pub told_owner : ℕ → Owner → JipOwner
told_owner block Free = record { role = 0; header = 0; index = 0 }
told_owner block Boot = record { role = 1; header = 0; index = 0 }
told_owner block Root = record { role = 2; header = block; index = 0 }
told_owner block (Page i) = record { role = 3; header = 0; index = i }
told_owner block Directory = record { role = 4; header = block; index = 0 }
told_owner block File = record { role = 5; header = block; index = 0 }
told_owner block (Extension file k) = record { role = 6; header = file; index = k }
told_owner block (Data file k) = record { role = 7; header = file; index = k }
told_owner block Lost = record { role = 8; header = 0; index = 0 }

-- the owners of the blocks from the first one on
unfoldable pub told_owners : ℕ → List Owner → List JipOwner
told_owners first [] = []
told_owners first (owner ∷ rest) = told_owner first owner ∷ told_owners (first + 1) rest

-- these are the owners of all blocks, in every tree that the image represents
pub record MapsOwners (image : List ℕ) (told : List JipOwner) : Type 0 where
  pub owners : List Owner
  pub are : (t : Tree) → Stands image t → AreOwners image t owners
  pub told_are : told ≡ told_owners 0 owners
