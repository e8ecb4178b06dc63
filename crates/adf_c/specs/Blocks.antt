-- What the blocks of an image are, for C.
use Rattle.std.specs.Prelude.{◌≡◌, ℕ, List, map}
use Rattle.ados_salvage.specs.Salvaged.{Saved}
use Rattle.ados_salvage.specs.Parts.{TellsBlocks}
use Rattle.ados_salvage.specs.declared.account.part.Part.{Part}
use Rattle.ados_salvage.specs.declared.account.part.Part.TheVariants.{Boot, Data, Deleted, Extension, Page, Root, Unaccounted}
use Rattle.ados_salvage.specs.declared.account.part.Told.{Told}
use Rattle.adf_c.specs.declared.values.blocks.JipTold.{JipTold}

-- a block for C: the number of what it is, the header that it belongs to, which block it is, and the block with the pointer to it
abbrev pub told_part : ℕ → Part → JipTold
told_part block Boot = record { block = block; role = 1; header = 0; index = 0; holder = 0 }
told_part block Root = record { block = block; role = 2; header = block; index = 0; holder = 0 }
told_part block (Page i) = record { block = block; role = 3; header = 0; index = i; holder = 0 }
told_part block (Extension file) = record { block = block; role = 6; header = file; index = 0; holder = 0 }
told_part block (Data file i holder) = record { block = block; role = 7; header = file; index = i; holder = holder }
told_part block Unaccounted = record { block = block; role = 8; header = 0; index = 0; holder = 0 }
told_part block Deleted = record { block = block; role = 9; header = block; index = 0; holder = 0 }

abbrev pub told_block : Told → JipTold
told_block told = told_part told.block told.part

-- these are all blocks of which the salvage tells what they are
pub record TellsAll (saved : Saved) (told : List JipTold) : Type 0 where
  pub blocks : List Told
  pub tells : TellsBlocks saved blocks
  pub told_are : told ≡ map told_block blocks
