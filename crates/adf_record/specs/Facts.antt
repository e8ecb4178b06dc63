-- What a person wants to know of a volume.
use Rattle.std.specs.Prelude.{◌≡◌, ℕ, ◌-◌, Bool, List}
use Rattle.adf_block.specs.declared.layout.TheConstants.{BOOT_BLOCKS}
use Rattle.ados_model.specs.Tree.{Tree, free, name_of, root}
use Rattle.adf_block.specs.BootCode.{IsBootCode}
use Rattle.adf_record.specs.declared.facts.Facts.{Facts}
use Rattle.adf_record.specs.Counts.{AreCounts}
use Rattle.adf_record.specs.Lost.{AreLost}

-- these are the facts of the volume with this image and this tree, whose bitmap was rebuilt or not
pub record AreFacts (image : List ℕ) (rebuilt : Bool) (t : Tree) (facts : Facts) : Type 0 where
  pub label : facts.label ≡ name_of t (root t)
  pub format : facts.format ≡ t.format
  pub blocks : facts.blocks ≡ t.blocks
  pub bitmap : facts.rebuilt ≡ rebuilt
  pub counts : AreCounts t facts.counts
  pub used : facts.used ≡ t.blocks - BOOT_BLOCKS - free t
  pub unused : facts.free ≡ free t
  pub created : facts.created ≡ t.creation_date
  pub changed : facts.changed ≡ t.disk_date
  pub boot : IsBootCode image facts.boot
  pub lost : AreLost image t facts.lost
