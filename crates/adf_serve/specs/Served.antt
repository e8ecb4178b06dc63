-- The output of `serve`: the texts of its clients, in order, and how it ends.
use Rattle.std.specs.Prelude.{◌≡◌, ◌≢◌, ◌⊎◌, ℕ, Bool, List, Vec, length, map, flat_map, All, Any, Option, Some, Result, Ok, Err}
use Rattle.std.specs.declared.alloc.Global.{Global}
use Rattle.std.specs.Io.KnownBytes.{Appends, Keeps}
use Rattle.ados_name.specs.declared.stamp.Date3.{Date3}
use Rattle.ados_model.specs.Accepted.{Accepts}
use Rattle.ados_handler.specs.HandlerState.{HandlerState}
use Rattle.ados_run.specs.ServesVolume.{ServesVolume}
use Rattle.adf_io.specs.Prefix.{Writes, WritesFront}
use Rattle.adf_cli.specs.declared.job.ServeJob.{ServeJob}
use Rattle.adf_script.specs.declared.ending.ClientEnding.{ClientEnding}
use Rattle.adf_script.specs.declared.ending.ClientEnding.TheVariants as ending
use Rattle.adf_serve.specs.declared.fault.CommandFault.{CommandFault}
use Rattle.adf_serve.specs.declared.fault.CommandFault.TheVariants.{Dos, Refused, Script, Tries}
use Rattle.adf_serve.specs.Changed.{IsStamp}
use Rattle.adf_serve.specs.Refusals.{IsSomeRefusal, refusal_text, told_line}

-- the text of each client, and how it ended
abbrev pub ClientTexts : Type 0
ClientTexts = List (List ℕ × ClientEnding)

-- the text of a client at a port, and how it ended
abbrev pub text_of : Vec ℕ Global × ClientEnding → List ℕ
text_of client = client.0.items

abbrev pub ending_of : Vec ℕ Global × ClientEnding → ClientEnding
ending_of client = client.1

-- as many scripts as the job names ran as clients of the volume of an accepted image, at the time stamp of the job, and these are
-- their texts
pub record IsServed (job : ServeJob) (texts : ClientTexts) : Type 0 where
  pub read : List ℕ
  pub was_validated : Bool
  pub checked : List ℕ
  pub accepted : Accepts read was_validated checked
  pub scripts : List (List ℕ)
  pub each : length scripts ≡ length job.scripts.items
  pub stamp : Date3
  pub stamped : IsStamp job.moment stamp
  pub closing : HandlerState
  pub serves : ServesVolume checked was_validated scripts stamp texts closing

-- the texts, one after the other
abbrev pub joined : ClientTexts → List ℕ
joined texts = flat_map (λ text. text.0) texts

-- how the clients ended
abbrev pub endings : ClientTexts → List ClientEnding
endings texts = map (λ text. text.1) texts

-- how the command ends by how its clients did: first by whether one ran out of tries, then by whether a script was faulty
abbrev pub EndsBy : List ClientEnding → Result (Unit {0}) CommandFault → Type 0
EndsBy ends (Ok done) = All (λ end. end ≡ ending.Done) ends
EndsBy ends (Err Tries) = Any (λ end. end ≡ ending.Tries) ends
EndsBy ends (Err Script) = Any (λ end. end ≡ ending.Script) ends × All (λ end. end ≢ ending.Tries) ends
EndsBy ends (Err fault) = ⊥

-- all texts are written, and the command ends as its clients did
abbrev pub TellsClients : ServeJob → Option (List ℕ) → Option (List ℕ) → Result (Unit {0}) CommandFault → Type 0
TellsClients job old new result = (texts : ClientTexts) × IsServed job texts × Appends old new (joined texts) × EndsBy (endings texts) result

-- nothing is written, or a prefix of the texts
abbrev pub TellsSomeClients : ServeJob → Option (List ℕ) → Option (List ℕ) → Type 0
TellsSomeClients job old new = Keeps old new ⊎ ((texts : ClientTexts) × IsServed job texts × WritesFront old new (joined texts))

-- the result of the command before a refusal is printed
abbrev pub DoesServe : ServeJob → Option (List ℕ) → Option (List ℕ) → Result (Unit {0}) CommandFault → Type 0
DoesServe job old new (Ok done) = TellsClients job old new (Ok done)
DoesServe job old new (Err Tries) = TellsClients job old new (Err Tries)
DoesServe job old new (Err Script) = TellsClients job old new (Err Script)
DoesServe job old new (Err (Refused refusal)) = IsSomeRefusal refusal × Keeps old new
DoesServe job old new (Err (Dos refusal)) = ⊥
DoesServe job old new (Err fault) = TellsSomeClients job old new

-- the result of the command after that
abbrev pub TellsServe : (json : Bool) → ServeJob → Option (List ℕ) → Option (List ℕ) → Result (Unit {0}) CommandFault → Type 0
TellsServe json job old new (Ok done) = TellsClients job old new (Ok done)
TellsServe json job old new (Err Tries) = TellsClients job old new (Err Tries)
TellsServe json job old new (Err Script) = TellsClients job old new (Err Script)
TellsServe json job old new (Err (Refused refusal)) = IsSomeRefusal refusal × Writes old new (λ text. text ≡ refusal_text json refusal)
TellsServe json job old new (Err (Dos refusal)) = ⊥
TellsServe json job old new (Err fault) =
    TellsSomeClients job old new ⊎ ((told : CommandFault) × (line : List ℕ) × (told_line json told ≡ Some line) × WritesFront old new line)
