-- The messages of commands' faults, and their exit statuses.
use Rattle.std.specs.Prelude.{◌≡◌, ◌≢◌, ◌⊎◌, ⊤, ℕ, Bool, true, false, List, None}
use Rattle.adf_block.specs.Whole.{IsSize}
use Rattle.ados_name.specs.Name.{IsName}
use Rattle.ados_model.specs.declared.fault.FaultKind.TheVariants.{NoMemory}
use Rattle.ados_model.specs.declared.fault.VolumeFault.{VolumeFault}
use Rattle.adf_text.specs.Letters.{letters as letter_text}
use Rattle.adf_export.specs.declared.fault.OutFault.{OutFault}
use Rattle.adf_export.specs.declared.fault.OutFault.TheVariants as out
use Rattle.adf_serve.specs.declared.fault.CommandFault.{CommandFault}
use Rattle.adf_serve.specs.declared.fault.CommandFault.TheVariants.{Bitmap, Blocks, Dos, Endless, Extracted, Letter, LongBoot, LongList, Memory, Name, NoBlock, ImagesRefused, LeftOut, NotWhole, OneImage, OtherVolume, Output, Read, Refused, Script, Thread, Tries, Undelete}
use Rattle.adf_archive.specs.Words.{kind_word}
use Rattle.adf_serve.specs.Refusals.{IsImageRefusal, IsSizeRefusal, IsSomeRefusal, told_line}

-- an image is refused, as this fault says, or memory ran out
abbrev pub IsRefusedFor : List ℕ → CommandFault → Type 0
IsRefusedFor image (Refused refusal) = IsImageRefusal image refusal
IsRefusedFor image fault = fault ≡ Memory

-- a refusal of an image names a fault that it shows
abbrev pub IsRefusedAs : List ℕ → CommandFault → Type 0
IsRefusedAs image (Refused refusal) = IsImageRefusal image refusal
IsRefusedAs image (Dos refusal) = ⊥
IsRefusedAs image fault = ⊤

-- a fault of a volume as that of a command: with its word and its block, or as out of memory
abbrev pub IsToldAs : VolumeFault → CommandFault → Type 0
IsToldAs fault (Refused refusal) = (fault.kind ≢ NoMemory) × (refusal.kind.now ≡ kind_word fault.kind) × (refusal.block ≡ fault.block)
IsToldAs fault told = (told ≡ Memory) × (fault.kind ≡ NoMemory)

-- a fault other than the refusal of an image
abbrev pub IsNoImageRefusal : CommandFault → Type 0
IsNoImageRefusal (Refused refusal) = ⊥
IsNoImageRefusal fault = ⊤

-- a fault without a text on standard output
abbrev pub IsNoRefusal : CommandFault → Type 0
IsNoRefusal fault = told_line false fault ≡ None

-- a fault of output from a volume, as the fault of a command
abbrev pub IsToldOut : OutFault → CommandFault → Type 0
IsToldOut out.Output told = told ≡ Output
IsToldOut fault told = IsNoImageRefusal told

-- the clients did not run, for want of memory or of a thread
abbrev pub IsNotServed : CommandFault → Type 0
IsNotServed fault = (fault ≡ Memory) ⊎ (fault ≡ Thread)

-- bytes are refused for their number, or no image was read
abbrev pub IsNoImage : CommandFault → Type 0
IsNoImage Tries = ⊥
IsNoImage Script = ⊥
IsNoImage NotWhole = ⊥
IsNoImage LeftOut = ⊥
IsNoImage (Extracted fault) = ⊥
IsNoImage (Undelete why) = ⊥
IsNoImage (Dos refusal) = ⊥
IsNoImage (Refused refusal) = (bytes : List ℕ) × IsSizeRefusal bytes refusal
IsNoImage fault = ⊤

-- no image that is accepted was read
abbrev pub IsUnread : CommandFault → Type 0
IsUnread (Refused refusal) = IsSomeRefusal refusal
IsUnread fault = IsNoImage fault

-- this file was not read to its end, or memory ran out
abbrev pub IsUnreadFile : List ℕ → CommandFault → Type 0
IsUnreadFile path (Read file why) = file.now ≡ path
IsUnreadFile path (Endless file) = file.now ≡ path
IsUnreadFile path (LongList file) = file.now ≡ path
IsUnreadFile path fault = fault ≡ Memory

-- the name for an argument, by its bytes or by its letters
abbrev pub IsNamed : Bool → List ℕ → List ℕ → Type 0
IsNamed true word name = letter_text name ≡ word
IsNamed false word name = name ≡ word

-- why an argument is no volume name: it is not a name, it has a letter past U+00FF, or memory ran out
abbrev pub IsNameFault : Bool → List ℕ → CommandFault → Type 0
IsNameFault as_letters word (Name given) = (given.now ≡ word) × ((name : List ℕ) × IsNamed as_letters word name × ¬ IsName name)
IsNameFault as_letters word (Letter given) = as_letters ≡ true
IsNameFault as_letters word fault = fault ≡ Memory

-- why no blank image is made: the argument is no volume name, no volume has this size, or memory ran out
abbrev pub IsBlankFault : Bool → ℕ → List ℕ → CommandFault → Type 0
IsBlankFault as_letters blocks word (Blocks given) = ¬ IsSize blocks × (given ≡ blocks)
IsBlankFault as_letters blocks word fault = IsNameFault as_letters word fault

-- the exit status of a command that failed
abbrev pub status_of : CommandFault → ℕ
status_of (Blocks blocks) = 1
status_of (Letter word) = 1
status_of OneImage = 1
status_of (Name name) = 3
status_of (LongBoot file) = 3
status_of (NoBlock file block blocks) = 3
status_of (Refused refusal) = 3
status_of (Dos refusal) = 3
status_of (Bitmap why) = 3
status_of (Undelete why) = 3
status_of (OtherVolume image fault) = 3
status_of Script = 3
status_of ImagesRefused = 3
status_of NotWhole = 3
status_of LeftOut = 3
status_of fault = 2
