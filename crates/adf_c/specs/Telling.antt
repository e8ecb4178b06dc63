-- What the blocks of any image are, its label and its boot block, for C.
use Rattle.std.specs.Prelude.{◌≡◌, ⊤, ℕ, ℤ, List, length, Option, Some, None}
use Rattle.adf_block.specs.HasBoot.{HasBoot}
use Rattle.adf_block.specs.declared.standard.TheConstants.{STANDARD_BOOT}
use Rattle.ados_salvage.specs.Salvaged.{Saved}
use Rattle.adf_c.specs.Boots.{TellsBoot}
use Rattle.adf_c.specs.Buffers.{Puts}
use Rattle.adf_c.specs.Ends.{ComesTo}
use Rattle.adf_c.specs.Images.{IsLabel, RefusesImage, RefusesLabel}
use Rattle.adf_c.specs.Lists.{copied}
use Rattle.adf_c.specs.Blocks.{TellsAll}
use Rattle.adf_c.specs.declared.values.boots.JipBoot.{JipBoot}
use Rattle.adf_c.specs.declared.values.refusal.Refusal.{Refusal}
use Rattle.adf_c.specs.declared.values.refusal.Refusal.TheVariants.{NotAnImage, NoMemory, WrongArgument}
use Rattle.adf_c.specs.declared.values.blocks.JipTold.{JipTold}

-- these are the blocks of which the salvage that C holds tells what they are
abbrev pub TellsHeld : Option Saved → List JipTold → Type 0
TellsHeld held told = (saved : Saved) × (held ≡ Some saved) × TellsAll saved told

-- why nothing is told: out of memory, or a closed salvage
abbrev pub RefusesBlocks : Option Saved → Refusal → Type 0
RefusesBlocks held NotAnImage = ⊥
RefusesBlocks held NoMemory = ⊤
RefusesBlocks held WrongArgument = held ≡ None

-- the blocks are copied to the array; the count is how many there are, with or without room for them
abbrev pub CopiesBlocks : Option Saved → List JipTold → List JipTold → ℕ → Type 0
CopiesBlocks held before after count =
    (told : List JipTold) × TellsHeld held told × (after ≡ copied told before) × (count ≡ length told)

-- the result of telling the blocks, by the status; if it is refused, nothing is written
abbrev pub BlocksEnd : Option Saved → List JipTold → List JipTold → ℕ → ℕ → ℤ → Type 0
BlocksEnd held before after count_before count =
    ComesTo (CopiesBlocks held before after count)
    (λ refusal. RefusesBlocks held refusal × (after ≡ before) × (count ≡ count_before))

-- the result of telling the label, by the status; if there is none, nothing is written
abbrev pub LabelEnds : List ℕ → List ℕ → List ℕ → ℕ → ℕ → ℤ → Type 0
LabelEnds bytes before after needed_before needed =
    ComesTo ((label : List ℕ) × IsLabel bytes label × Puts label before after needed)
    (λ refusal. RefusesLabel bytes refusal × (after ≡ before) × (needed ≡ needed_before))

-- the result of telling what the boot block is, by the status; if the bytes are no image, the struct of C is unchanged
abbrev pub BootEnds : List ℕ → JipBoot → JipBoot → ℤ → Type 0
BootEnds bytes before after = ComesTo (TellsBoot bytes after) (λ refusal. RefusesImage bytes refusal × (after ≡ before))

-- the result of installing the standard boot block, by the status; if the bytes are no image, they are unchanged
abbrev pub InstallEnds : List ℕ → List ℕ → ℤ → Type 0
InstallEnds before after = ComesTo (HasBoot STANDARD_BOOT before after) (λ refusal. RefusesImage before refusal × (after ≡ before))
