-- How the check of images ends.
use Rattle.std.specs.Prelude.{◌≡◌, ◌<◌, ◌⊎◌, ⊤, ℕ, List, [], length, Option, Some, None, is_some, MatchOption, Result, Ok, Err}
use Rattle.std.specs.Io.KnownBytes.{Keeps}
use Rattle.adf_archive.specs.Archive.{TellsArchive}
use Rattle.adf_archive.specs.NameLists.{names_in}
use Rattle.adf_archive.specs.declared.fault.ArchiveFault.{ArchiveFault}
use Rattle.adf_archive.specs.declared.fault.ArchiveFault.TheVariants as archive
use Rattle.adf_cli.specs.declared.name_list.NameList.{NameList}
use Rattle.adf_cli.specs.declared.query.CheckJob.{CheckJob}
use Rattle.adf_serve.specs.declared.fault.CommandFault.{CommandFault}
use Rattle.adf_serve.specs.declared.fault.CommandFault.TheVariants.{Dos, Endless, ImagesRefused, LongNames, Memory, NoNames, NotChecked, OneImage, Output, Read, Refused, ZeroByte}
use Rattle.adf_serve.specs.Faults.{IsUnreadFile}

-- the fault of an archive, as the fault of a command
abbrev pub IsToldArchive : ArchiveFault → CommandFault → Type 0
IsToldArchive archive.Refused told = told ≡ ImagesRefused
IsToldArchive archive.NotChecked told = told ≡ NotChecked
IsToldArchive archive.OneImage told = told ≡ OneImage
IsToldArchive archive.Output told = told ≡ Output
IsToldArchive archive.Memory told = told ≡ Memory

-- the names in the list of a job, at least one; none without a list
abbrev pub AreNamesOf : Option NameList → List (List ℕ) → Type 0
AreNamesOf None names = names ≡ []
AreNamesOf (Some list) names = (bytes : List ℕ) × (names ≡ names_in list.null bytes) × (0 < length names)

-- why a list has no names: it cannot be read, is too long, has a zero byte, or names nothing; or memory ran out
abbrev pub HasNoNames : List ℕ → CommandFault → Type 0
HasNoNames file (Read named why) = named.now ≡ file
HasNoNames file (Endless named) = named.now ≡ file
HasNoNames file (LongNames named) = named.now ≡ file
HasNoNames file (ZeroByte named) = named.now ≡ file
HasNoNames file (NoNames named) = named.now ≡ file
HasNoNames file Memory = ⊤
HasNoNames file fault = ⊥

-- so it is of the list of a job
abbrev pub IsListFault : Option NameList → CommandFault → Type 0
IsListFault from fault = (list : NameList) × (from ≡ Some list) × HasNoNames list.file.now fault

-- there are bytes of a list of blocks exactly if the job has one
abbrev pub HasList : CheckJob → Option (List ℕ) → Type 0
HasList job list = is_some list ≡ is_some job.bad

-- the list of blocks of the job was not read, as this fault says
abbrev pub IsUnlisted : CheckJob → CommandFault → Type 0
IsUnlisted job fault = MatchOption job.bad ⊥ (λ list. IsUnreadFile list.now fault)

-- the output for the images that the arguments name, and then for those of the names in the list, beside the bytes of the list of blocks
abbrev pub TellsListed : CheckJob → Option (List ℕ) → Option (List ℕ) → Result (Unit {0}) ArchiveFault → Type 0
TellsListed job old new result =
    (names : List (List ℕ)) × AreNamesOf job.from names × ((list : Option (List ℕ)) × HasList job list × TellsArchive job names list old new result)

-- the check of the images of a job ends like this; if its list has no names, or that of blocks is not read, nothing is checked
abbrev pub EndsArchive : CheckJob → Option (List ℕ) → Option (List ℕ) → Result (Unit {0}) CommandFault → Type 0
EndsArchive job old new (Ok done) = TellsListed job old new (Ok done)
EndsArchive job old new (Err ImagesRefused) = TellsListed job old new (Err archive.Refused)
EndsArchive job old new (Err NotChecked) = TellsListed job old new (Err archive.NotChecked)
EndsArchive job old new (Err OneImage) = TellsListed job old new (Err archive.OneImage)
EndsArchive job old new (Err Output) = TellsListed job old new (Err archive.Output)
EndsArchive job old new (Err Memory) = Keeps old new ⊎ TellsListed job old new (Err archive.Memory)
EndsArchive job old new (Err (Refused refusal)) = ⊥
EndsArchive job old new (Err (Dos refusal)) = ⊥
EndsArchive job old new (Err fault) = (IsListFault job.from fault ⊎ IsUnlisted job fault) × Keeps old new
