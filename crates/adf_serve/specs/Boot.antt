-- The boot block that `boot` installs.
use Rattle.std.specs.Prelude.{◌≡◌, ℕ, ◌≤◌, Bool, List, [], length, Result, Ok, MatchResult}
use Rattle.adf_cli.specs.declared.boot.BootBlock.{BootBlock}
use Rattle.adf_cli.specs.declared.boot.BootBlock.TheVariants.{Empty, Standard, File}
use Rattle.adf_block.specs.declared.standard.TheConstants.{STANDARD_BOOT}
use Rattle.adf_block.specs.HasBoot.{HasBoot, HoldsCode}
use Rattle.ados_model.specs.Accepted.{Accepts}
use Rattle.adf_serve.specs.declared.fault.CommandFault.{CommandFault}

-- the bytes of some file are installed; after a fault the image is as it was
abbrev pub PutsFile : List ℕ → List ℕ → Result (Unit {0}) CommandFault → Type 0
PutsFile old new result = MatchResult result (λ _. (code : List ℕ) × (length code ≤ 1024) × HasBoot code old new) (λ _. new ≡ old)

-- no boot block, the standard one, or that of a file
abbrev pub PutsBoot : BootBlock → List ℕ → List ℕ → Result (Unit {0}) CommandFault → Type 0
PutsBoot Empty old new result = (result ≡ Ok tt) × HoldsCode 4 [] old new
PutsBoot Standard old new result = (result ≡ Ok tt) × HasBoot STANDARD_BOOT old new
PutsBoot (File file) old new result = PutsFile old new result

-- the image is accepted
abbrev pub IsAccepted : List ℕ → Type 0
IsAccepted image = (was_validated : Bool) × (checked : List ℕ) × Accepts image was_validated checked

-- an accepted image with that boot block
abbrev pub IsBooted : BootBlock → List ℕ → Type 0
IsBooted block image = (read : List ℕ) × IsAccepted read × PutsBoot block read image (Ok tt)
