-- What a command makes, an image or a boot block, and where it goes: to a file, or to standard output.
use Rattle.std.specs.Prelude.{◌≡◌, ◌≢◌, ◌⊎◌, ⊤, ℕ, false, List, ◌++◌, length, Option, Some, Ok, Err, Result, MatchOption, IfErr, codes, option_map}
use Rattle.std.specs.Io.KnownBytes.{Keeps}
use Rattle.adf_block.specs.Whole.{IsImage}
use Rattle.adf_io.specs.Prefix.{Writes, WritesFrontOf}
use Rattle.adf_cli.specs.declared.boot.BootBlock.{BootBlock}
use Rattle.adf_cli.specs.declared.change.ChangeJob.{ChangeJob}
use Rattle.adf_cli.specs.declared.change.Rewrite.{Rewrite}
use Rattle.adf_serve.specs.declared.blank.NewVolume.{NewVolume}
use Rattle.adf_serve.specs.declared.fault.CommandFault.{CommandFault}
use Rattle.adf_serve.specs.declared.fault.CommandFault.TheVariants.{Dos, Refused}
use Rattle.adf_serve.specs.declared.refusal.DosRefusal.{DosRefusal}
use Rattle.adf_serve.specs.Boot.{IsBooted}
use Rattle.adf_serve.specs.Changed.{IsBlankOf, IsChanged, IsUnchanged}
use Rattle.adf_serve.specs.Refusals.{IsSomeRefusal, told_line}

-- what a command makes: a blank volume, the volume of a job after its change or of a directory of the host, an image with a boot block,
-- or a boot block alone
pub data Made : Type 0 where
  ABlank : NewVolume → Made
  AChanged : ChangeJob → Made
  ABundled : Made
  ABooted : BootBlock → Made
  ABootBlock : Made

-- the image that is made, if one is; of a directory of the host nothing is known
abbrev pub IsNew : Made → List ℕ → Type 0
IsNew (ABlank new) image = IsBlankOf new image
IsNew (AChanged job) image = IsChanged job image
IsNew (ABooted block) image = IsBooted block image
IsNew ABundled image = ⊤
IsNew ABootBlock image = ⊥

-- such an image, and what is after it in its file
abbrev pub BeginsWithNew : Made → List ℕ → Type 0
BeginsWithNew made text = (image : List ℕ) × (rest : List ℕ) × IsImage image × IsNew made image × (text ≡ image ++ rest)

-- the bytes of two blocks
abbrev pub IsBootBlock : List ℕ → Type 0
IsBootBlock text = length text ≡ 1024

-- the bytes of what is made
abbrev pub IsMade : Made → List ℕ → Type 0
IsMade ABootBlock = IsBootBlock
IsMade made = BeginsWithNew made

-- a refusal by AmigaDOS, for which nothing is made: that of the change, or of an entry in a directory of the host
abbrev pub IsDenied : Made → DosRefusal → Type 0
IsDenied (AChanged job) refusal = IsUnchanged job refusal
IsDenied ABundled refusal = ⊤
IsDenied made refusal = ⊥

-- why nothing is made, as far as standard output has it: the image is refused, or AmigaDOS refuses
abbrev pub IsUnmade : Made → CommandFault → Type 0
IsUnmade made (Refused refusal) = IsSomeRefusal refusal
IsUnmade made (Dos refusal) = IsDenied made refusal
IsUnmade made fault = ⊤

-- it is written; at a fault without a text nothing or a prefix of it, at a refusal nothing
abbrev pub WritesMade : Made → Option (List ℕ) → Option (List ℕ) → Result (Unit {0}) CommandFault → Type 0
WritesMade made old new (Ok done) = Writes old new (IsMade made)
WritesMade made old new (Err fault) = MatchOption (told_line false fault) (Keeps old new ⊎ WritesFrontOf old new (IsMade made)) (λ line. Keeps old new)

-- it goes to this file, and only if that is `-` to standard output
pub record PutsMade (made : Made) (file old new : Option (List ℕ)) (result : Result (Unit {0}) CommandFault) : Type 0 where
  pub output : file ≡ Some (codes "-") → WritesMade made old new result
  pub other : file ≢ Some (codes "-") → Keeps old new
  pub why : IfErr result (IsUnmade made)

-- the file for the changed image, if it is not the image's own
abbrev pub out_of : Rewrite → Option (List ℕ)
out_of target = option_map (λ word. word.now) target.out
