-- What an item may be written over on the host.
use Rattle.std.specs.Prelude.{Bool, IsTrue, ⊤}
use Rattle.adf_host.specs.declared.trees.items.ItemKind.{ItemKind}
use Rattle.adf_host.specs.declared.trees.items.ItemKind.TheVariants as wanted
use Rattle.adf_host.specs.declared.trees.standing.Standing.{Standing}
use Rattle.adf_host.specs.declared.trees.standing.Standing.TheVariants.{Nothing, Directory, File}

-- nothing; a directory, for a directory; a regular file, for a file with `force`
abbrev pub MayStand : Standing → ItemKind → Bool → Type 0
MayStand Nothing kind force = ⊤
MayStand Directory wanted.Directory force = ⊤
MayStand File wanted.File force = IsTrue force
MayStand standing kind force = ⊥
