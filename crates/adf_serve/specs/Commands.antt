-- How a command ends, by the bytes of the image that it reads and by its output.
use Rattle.std.specs.Prelude.{◌≡◌, ◌≢◌, ◌⊎◌, codes, ℕ, Bool, true, false, List, Option, Some, Result, Ok, Err, MatchOption, MatchResult, IfErr}
use Rattle.std.specs.Io.KnownBytes.{Keeps}
use Rattle.adf_io.specs.Prefix.{Writes, WritesFrontOf}
use Rattle.adf_cli.specs.declared.job.ImageJob.{ImageJob}
use Rattle.adf_cli.specs.declared.job.ImageJob.TheVariants.{AddBundle, Blank, Check, Extract, ExtractBundle, Change, Boot, Info, List as ListOf, Map, SaveBoot, Salvage, Serve, Show, ShowBoot, Undelete, Validate, Where, WherePath}
use Rattle.adf_cli.specs.declared.map_form.MapForm.{MapForm}
use Rattle.adf_cli.specs.declared.map_form.MapForm.TheVariants as maps
use Rattle.adf_cli.specs.declared.query.ListForm.{ListForm}
use Rattle.adf_cli.specs.declared.query.ListForm.TheVariants.{Json}
use Rattle.adf_cli.specs.declared.query.CheckJob.{CheckJob}
use Rattle.adf_cli.specs.declared.query.MapJob.{MapJob}
use Rattle.adf_cli.specs.declared.query.SalvageJob.{SalvageJob}
use Rattle.adf_cli.specs.declared.query.UndeleteJob.{UndeleteJob}
use Rattle.adf_cli.specs.declared.job.ServeJob.{ServeJob}
use Rattle.adf_cli.specs.declared.query.WhereJob.{WhereJob}
use Rattle.adf_serve.specs.declared.fault.CommandFault.{CommandFault}
use Rattle.adf_serve.specs.declared.fault.CommandFault.TheVariants.{Dos, Refused}
use Rattle.adf_serve.specs.Archives.{EndsArchive}
use Rattle.adf_serve.specs.Deleted.{DoesUndelete, TellsUndelete}
use Rattle.adf_serve.specs.Mapped.{DoesMap, TellsMap}
use Rattle.adf_serve.specs.NewImages.{IsMade, IsUnmade, Made, PutsMade, out_of}
use Rattle.adf_serve.specs.NewImages.Made.{ABlank, ABooted, ABootBlock, ABundled, AChanged}
use Rattle.adf_serve.specs.Placed.{DoesWhere, TellsWhere}
use Rattle.adf_serve.specs.Rescues.{DoesRescue, TellsRescue}
use Rattle.adf_serve.specs.Served.{DoesServe, TellsServe}
use Rattle.adf_serve.specs.Texts.{BeginsJobText, IsJobText}
use Rattle.adf_serve.specs.Faults.{status_of}
use Rattle.adf_serve.specs.Refusals.{IsDosText, IsRefusalOf, IsRefusalText, dos_text, refusal_text, told_line}

-- the end of a command: success, or a fault
abbrev pub Ending : Type 0
Ending = Result (Unit {0}) CommandFault

-- after a refusal nothing is written yet; after any other fault nothing, or a prefix of a text of this kind
abbrev pub LeavesOff : (List ℕ → Type 0) → List ℕ → Option (List ℕ) → Option (List ℕ) → CommandFault → Type 0
LeavesOff IsText bytes old new (Refused refusal) = IsRefusalOf bytes refusal × Keeps old new
LeavesOff IsText bytes old new (Dos refusal) = Keeps old new
LeavesOff IsText bytes old new fault = Keeps old new ⊎ WritesFrontOf old new IsText

-- the output for these bytes: a text of this kind, or after a fault a prefix of one that starts this way
abbrev pub TellsOf : (IsText BeginsText : List ℕ → List ℕ → Type 0) → List ℕ → Option (List ℕ) → Option (List ℕ) → Ending → Type 0
TellsOf IsText BeginsText bytes old new result =
    MatchResult result (λ _. Writes old new (IsText bytes)) (LeavesOff (BeginsText bytes) bytes old new)

-- the output for some bytes
abbrev pub TellsSome : (IsText BeginsText : List ℕ → List ℕ → Type 0) → Option (List ℕ) → Option (List ℕ) → Ending → Type 0
TellsSome IsText BeginsText old new result = (bytes : List ℕ) × TellsOf IsText BeginsText bytes old new result

-- the form of the output of a job: JSON, or text
abbrev pub is_json_list : ListForm → Bool
is_json_list Json = true
is_json_list form = false

abbrev pub is_json_map : MapForm → Bool
is_json_map maps.Json = true
is_json_map form = false

abbrev pub prints_json : ImageJob → Bool
prints_json (Info file json) = json
prints_json (Show image json) = json
prints_json (Map job) = is_json_map job.form
prints_json (Where job) = job.json
prints_json (WherePath image path json) = json
prints_json (ShowBoot image json) = json
prints_json (Validate target force json) = json
prints_json (Undelete job) = job.json
prints_json (ListOf job) = is_json_list job.form
prints_json (Check job) = job.json
prints_json (Salvage job) = job.json
prints_json job = false

-- the kind of a job's output: only the text of its fault; what it makes, if its file is `-`; a text for the bytes of its file; the
-- reports on checked images; the report on a rescue; what is printed of deleted entries, or of blocks; a map; or the texts of clients
pub data Prints : Type 0 where
  OnlyFaults : Prints
  OfMade : Made → Option (List ℕ) → Prints
  OfBytes : Prints
  OfImages : CheckJob → Prints
  OfRescue : SalvageJob → Prints
  OfDeleted : UndeleteJob → Prints
  OfBlocks : WhereJob → Prints
  OfMap : MapJob → Prints
  OfClients : ServeJob → Prints

abbrev pub prints : ImageJob → Prints
prints (Check job) = OfImages job
prints (Salvage job) = OfRescue job
prints (Undelete job) = OfDeleted job
prints (Where job) = OfBlocks job
prints (Map job) = OfMap job
prints (Extract job) = OnlyFaults
prints (ExtractBundle image to) = OnlyFaults
prints (Blank format blocks moment name letters file) =
    OfMade (ABlank (record { format = format; blocks = blocks; moment = moment; name = name; letters = letters })) (Some file.now)
prints (AddBundle target from) = OfMade ABundled (out_of target)
prints (Change job) = OfMade (AChanged job) (out_of job.target)
prints (Boot target block) = OfMade (ABooted block) (out_of target)
prints (SaveBoot image file) = OfMade ABootBlock (Some file.now)
prints (Serve job) = OfClients job
prints job = OfBytes

-- the result of such a job before a refusal is printed
abbrev pub Does : Prints → (IsText BeginsText : List ℕ → List ℕ → Type 0) → Option (List ℕ) → Option (List ℕ) → Ending → Type 0
Does OnlyFaults IsText BeginsText old new result = Keeps old new
Does (OfMade made file) IsText BeginsText old new result = PutsMade made file old new result
Does OfBytes IsText BeginsText old new result = TellsSome IsText BeginsText old new result
Does (OfImages job) IsText BeginsText old new result = EndsArchive job old new result
Does (OfRescue job) IsText BeginsText old new result = DoesRescue job old new result
Does (OfDeleted job) IsText BeginsText old new result = DoesUndelete job old new result
Does (OfBlocks job) IsText BeginsText old new result = DoesWhere job old new result
Does (OfMap job) IsText BeginsText old new result = DoesMap job old new result
Does (OfClients job) IsText BeginsText old new result = DoesServe job old new result

abbrev pub DoesJob : (styled : Bool) → ImageJob → Option (List ℕ) → Option (List ℕ) → Ending → Type 0
DoesJob styled job = Does (prints job) (IsJobText styled job) (BeginsJobText styled job)

-- a fault ends a command: a refusal of the bytes is printed, in the form of its output; otherwise nothing is written, or a prefix
-- of its text or of that of a refusal
abbrev pub EndsOff : (json : Bool) → (List ℕ → Type 0) → List ℕ → Option (List ℕ) → Option (List ℕ) → CommandFault → Type 0
EndsOff json BeginsText bytes old new (Refused refusal) = IsRefusalOf bytes refusal × Writes old new (λ text. text ≡ refusal_text json refusal)
EndsOff json BeginsText bytes old new (Dos refusal) = Writes old new (λ text. text ≡ dos_text json refusal)
EndsOff json BeginsText bytes old new fault = Keeps old new ⊎ WritesFrontOf old new (λ text. BeginsText text ⊎ (IsRefusalText json bytes text ⊎ IsDosText json text))

-- the text of some fault
abbrev pub IsToldLine : Bool → List ℕ → Type 0
IsToldLine json text = (fault : CommandFault) × (told_line json fault ≡ Some text)

-- a job whose only output is the text of its fault, or a prefix of such a text
abbrev pub TellsFault : (json : Bool) → Option (List ℕ) → Option (List ℕ) → Ending → Type 0
TellsFault json old new (Ok done) = Keeps old new
TellsFault json old new (Err fault) =
    MatchOption (told_line json fault) (Keeps old new ⊎ WritesFrontOf old new (IsToldLine json)) (λ line. Writes old new (λ text. text ≡ line))

-- a job whose only output is what it makes or the text of its fault, or a prefix of these
abbrev pub TellsMade : (json : Bool) → Made → Option (List ℕ) → Option (List ℕ) → Ending → Type 0
TellsMade json made old new (Ok done) = Writes old new (IsMade made)
TellsMade json made old new (Err fault) =
    MatchOption (told_line json fault) (Keeps old new ⊎ WritesFrontOf old new (λ text. IsMade made text ⊎ IsToldLine json text)) (λ line. Writes old new (λ text. text ≡ line))

-- a text for the bytes, their refusal, or the output before a fault
abbrev pub EndsSome : (json : Bool) → (IsText BeginsText : List ℕ → List ℕ → Type 0) → Option (List ℕ) → Option (List ℕ) → Ending → Type 0
EndsSome json IsText BeginsText old new result =
    (bytes : List ℕ) × MatchResult result (λ _. Writes old new (IsText bytes)) (EndsOff json (BeginsText bytes) bytes old new)

-- the result of a job with this form and this kind of output
abbrev pub Tells : (json : Bool) → Prints → (IsText BeginsText : List ℕ → List ℕ → Type 0) → Option (List ℕ) → Option (List ℕ) → Ending → Type 0
Tells json OnlyFaults IsText BeginsText old new result = TellsFault json old new result
Tells json (OfMade made file) IsText BeginsText old new result =
    (file ≡ Some (codes "-") → TellsMade json made old new result) × (file ≢ Some (codes "-") → TellsFault json old new result) × IfErr result (IsUnmade made)
Tells json OfBytes IsText BeginsText old new result = EndsSome json IsText BeginsText old new result
Tells json (OfImages job) IsText BeginsText old new result = EndsArchive job old new result
Tells json (OfRescue job) IsText BeginsText old new result = TellsRescue json job old new result
Tells json (OfDeleted job) IsText BeginsText old new result = TellsUndelete json job old new result
Tells json (OfBlocks job) IsText BeginsText old new result = TellsWhere json job old new result
Tells json (OfMap job) IsText BeginsText old new result = TellsMap json job old new result
Tells json (OfClients job) IsText BeginsText old new result = TellsServe json job old new result

-- the result of a job, with bold letters for people if `styled`
abbrev pub TellsJob : (styled : Bool) → ImageJob → Option (List ℕ) → Option (List ℕ) → Ending → Type 0
TellsJob styled job = Tells (prints_json job) (prints job) (IsJobText styled job) (BeginsJobText styled job)

abbrev pub exit_status : Ending → ℕ
exit_status (Ok done) = 0
exit_status (Err fault) = status_of fault

-- a job ends with this output and this exit status
abbrev pub EndsJob : (styled : Bool) → ImageJob → Option (List ℕ) → Option (List ℕ) → ℕ → Type 0
EndsJob styled job old new status = (done : Ending) × TellsJob styled job old new done × (status ≡ exit_status done)

-- a command line ends with this status: some job ended like this, with bold letters only on a terminal; or there was no job, and
-- nothing is printed
abbrev pub RunsCommand : (terminal : Bool) → ℕ → Option (List ℕ) → Option (List ℕ) → Type 0
RunsCommand terminal status old new =
    ((job : ImageJob) × (styled : Bool) × (styled ≡ true → terminal ≡ true) × EndsJob styled job old new status)
    ⊎ (Keeps old new × ((status ≡ 1) ⊎ (status ≡ 2)))
