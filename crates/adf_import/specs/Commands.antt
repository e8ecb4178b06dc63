-- The effect of each command that changes a volume.
use Rattle.std.specs.Prelude.{◌≡◌, ◌∷◌, ◌⊎◌, ℕ, Bool, false, true, List, [], Result, Ok, Err, MatchOption, MatchResult, OnOk, map, unwrap_or, ⊤}
use Rattle.std.specs.Str.{chars}
use Rattle.std.specs.String.{string_bytes}
use Rattle.ados_name.specs.declared.stamp.Date3.{Date3}
use Rattle.ados_model.specs.declared.dos_error.DosError.{DosError}
use Rattle.ados_model.specs.Change.{made, removed, renamed}
use Rattle.ados_model.specs.Edits.{disk_renamed, with_comment, with_date}
use Rattle.ados_model.specs.Stands.{Stands}
use Rattle.ados_model.specs.Tree.{Tree}
use Rattle.ados_model.specs.Tree.Content.{Directory}
use Rattle.ados_model.specs.Parts.{IsUnused}
use Rattle.ados_volume.specs.Shown.{Shown}
use Rattle.adf_cli.specs.declared.change.Change.{Change}
use Rattle.adf_cli.specs.declared.change.Change.TheVariants.{Add, AddAs, Comment, Date, Delete, MakeDirectories, Protect, Relabel, Rename}
use Rattle.adf_text.specs.declared.protect_words.Form.{Form}
use Rattle.adf_text.specs.ProtectWords.{protect_word}
use Rattle.adf_import.specs.Changes.{Changes, reprotected}
use Rattle.adf_import.specs.Pruned.{Prunes}
use Rattle.adf_import.specs.Refusals.{delete_refusal, make_refusal, root_refusal}
use Rattle.adf_import.specs.Paths.{ChangesAt, comment_refusal, directory_at, entry_move_refusal, move_ends, object_at, place_at, relabel_refusal}
use Rattle.adf_import.specs.Put.{KeepsKeys, PutsFile, PutsInTurn}
use Rattle.adf_import.specs.Turns.{AreDone, EndsAt, EndsInTurn, ReadsFirst, StopsAtPath}
use Rattle.adf_import.specs.Ways.{fronts}
use Rattle.adf_import.specs.Words.{IsRefusal}
use Rattle.adf_import.specs.declared.new_file.NewFile.{NewFile}
use Rattle.adf_import.specs.declared.each.Each.{Each}
use Rattle.adf_import.specs.declared.each.Each.TheVariants as each
use Rattle.adf_import.specs.declared.fault.InFault.{InFault}
use Rattle.adf_import.specs.declared.fault.InFault.TheVariants.{Bits, Memory, Refused}
use Rattle.adf_import.specs.declared.paths.EntryChange.{EntryChange}
use Rattle.adf_import.specs.declared.paths.EntryChange.TheVariants as entry
use Rattle.adf_import.specs.declared.paths.MoveFault.{MoveFault}
use Rattle.adf_import.specs.declared.paths.MoveFault.TheVariants.{New, Old}

-- a directory is made at a path, under a new key
abbrev pub MakesAt : Date3 → List ℕ → Shown → Shown → Result ℕ DosError → Type 0
MakesAt moment path old new result =
    ChangesAt (place_at path) (λ to. Changes (make_refusal to.0 to.1) (λ key t. made moment to.0 key to.1 (Directory []) t)) old new result

abbrev pub Makes : Date3 → List ℕ → Shown → Shown → Result Unit DosError → Type 0
Makes moment path old new (Ok _) = (key : ℕ) × MakesAt moment path old new (Ok key) × ((t : Tree) → Stands old.image t → IsUnused t key)
Makes moment path old new (Err error) = MakesAt moment path old new (Err error)

-- an object at a path stays; if there is none, a directory is made there
abbrev pub MakesMissing : Date3 → List ℕ → Shown → Shown → Result Unit DosError → Type 0
MakesMissing moment path old new result =
    (t : Tree) → Stands old.image t → MatchResult (object_at path t) (λ _. (new ≡ old) × (result ≡ Ok tt)) (λ _. Makes moment path old new result)

-- a directory at a path stays; if there is none, one is made there
abbrev pub MakesLast : Date3 → List ℕ → Shown → Shown → Result Unit DosError → Type 0
MakesLast moment path old new result =
    (t : Tree) → Stands old.image t → MatchResult (directory_at path t) (λ _. (new ≡ old) × (result ≡ Ok tt)) (λ _. Makes moment path old new result)

-- what is missing on the way to a path is made in turn, and then the directory at the path; or the first that is
-- refused is reported
abbrev pub MakesWay : Date3 → List ℕ → Shown → Shown → Result Unit DosError → Type 0
MakesWay moment path old new (Ok _) = (between : Shown) × AreDone (MakesMissing moment) (fronts path) old between × MakesLast moment path between new (Ok tt)
MakesWay moment path old new (Err error) =
    StopsAtPath (MakesMissing moment) (fronts path) old new error ⊎ ((between : Shown) × AreDone (MakesMissing moment) (fronts path) old between × MakesLast moment path between new (Err error))

-- a directory is made at a path; with `parents`, each missing one on the way too
abbrev pub MakesWith : Date3 → Bool → List ℕ → Shown → Shown → Result Unit DosError → Type 0
MakesWith moment true = MakesWay moment
MakesWith moment false = Makes moment

-- the entry at a path is deleted: with everything below it, or only if nothing is
abbrev pub Deletes : Date3 → Bool → Bool → List ℕ → Shown → Shown → Result Unit DosError → Type 0
Deletes moment true force path old new result = ChangesAt (object_at path) (λ key. Prunes moment key force) old new result
Deletes moment false force path old new result =
    ChangesAt (object_at path) (λ key. Changes (delete_refusal key force) (λ _ t. removed moment key t)) old new result

-- the entry at one path moves to another
abbrev pub Moves : Date3 → List ℕ → List ℕ → Shown → Shown → Result Unit MoveFault → Type 0
Moves moment from to old new result =
    ChangesAt (move_ends from to) (λ m. Changes (entry_move_refusal m) (λ _ t. renamed moment m.0 m.1.0 m.1.1 t)) old new result

-- the fault of a move has the argument of its path
abbrev pub IsMoveRefusal : List ℕ → List ℕ → MoveFault → InFault → Type 0
IsMoveRefusal from to (Old error) fault = IsRefusal error from fault
IsMoveRefusal from to (New error) fault = IsRefusal error to fault

-- the move by two arguments is made, or refused
abbrev pub EndsMove : Date3 → List ℕ → List ℕ → Shown → Shown → Result Unit InFault → Type 0
EndsMove moment from to old new (Ok _) = Moves moment (chars from) (chars to) old new (Ok tt)
EndsMove moment from to old new (Err (Refused told)) = (fault : MoveFault) × Moves moment (chars from) (chars to) old new (Err fault) × IsMoveRefusal from to fault (Refused told)
EndsMove moment from to old new (Err Memory) = ⊤
EndsMove moment from to old new (Err _) = ⊥

-- the low eight protection bits of the entry at a path become those after a word
abbrev pub Protects : Date3 → List ℕ → Form × List ℕ → Shown → Shown → Result Unit DosError → Type 0
Protects moment path word old new result = ChangesAt (object_at path) (λ key. Changes (root_refusal key) (λ _ t. reprotected moment key word t)) old new result

-- an argument without protection bits is reported, and nothing changes; or memory ran out
abbrev pub EndsWithoutBits : List ℕ → Shown → Shown → Result Unit InFault → Type 0
EndsWithoutBits bits old new (Err (Bits text)) = (new ≡ old) × (string_bytes text ≡ bits)
EndsWithoutBits bits old new (Err Memory) = ⊤
EndsWithoutBits bits old new _ = ⊥

-- the protection bits of an argument are set, or this is refused; or the argument has none
abbrev pub EndsProtect : Date3 → List ℕ → List ℕ → Shown → Shown → Result Unit InFault → Type 0
EndsProtect moment path bits old new result =
    MatchOption (protect_word (chars bits)) (EndsWithoutBits bits old new result) (λ word. EndsAt (Protects moment (chars path) word) path old new result)

-- the entry at a path gets a date
abbrev pub Dates : Date3 → List ℕ → Date3 → Shown → Shown → Result Unit DosError → Type 0
Dates moment path date old new result = ChangesAt (object_at path) (λ key. Changes (root_refusal key) (λ _ t. with_date moment key date t)) old new result

-- the entry at a path gets a comment
abbrev pub Comments : Date3 → List ℕ → List ℕ → Shown → Shown → Result Unit DosError → Type 0
Comments moment path text old new result = ChangesAt (object_at path) (λ key. Changes (comment_refusal key text) (λ _ t. with_comment moment key text t)) old new result

-- the volume is renamed
abbrev pub Relabels : Date3 → List ℕ → Shown → Shown → Result Unit DosError → Type 0
Relabels moment name old new result = Changes (relabel_refusal name) (λ _ t. disk_renamed moment name t) old new result

-- the change of the entry at a path
abbrev pub ChangesEntry : Date3 → EntryChange → List ℕ → Shown → Shown → Result Unit DosError → Type 0
ChangesEntry moment (entry.Delete all force) path = Deletes moment all force path
ChangesEntry moment (entry.Protect word) path = Protects moment path (word.form, word.letters.now)
ChangesEntry moment (entry.Date date) path = Dates moment path date
ChangesEntry moment (entry.Comment text) path = Comments moment path text.now

-- the effect of a command at each of its paths
abbrev pub Does : Date3 → Each → List ℕ → Shown → Shown → Result Unit DosError → Type 0
Does moment (each.Make parents) = MakesWith moment parents
Does moment (each.Entry change) = ChangesEntry moment change
Does moment each.Relabel = Relabels moment

-- some file is put under this name into the directory at a path
abbrev pub PutsAs : Date3 → List ℕ → List ℕ → Bool → Shown → Shown → Type 0
PutsAs moment to name force old new =
    (file : NewFile) × (key : ℕ) × ((t : Tree) → Stands old.image t
    → MatchResult (directory_at to t) (λ dir. PutsFile moment dir name force file key t old.image new.image) (λ _. ⊥))

-- a result without its value
abbrev pub without_answer : {A E : Type 0} → Result A E → Result Unit E
without_answer (Ok _) = Ok tt
without_answer (Err error) = Err error

-- a change that reads nothing from the host
abbrev pub IsInside : Change → Type 0
IsInside (Add files to force) = ⊥
IsInside (AddAs source name to force) = ⊥
IsInside _ = ⊤

-- the effect of a command on a volume, or its fault; `add` puts files and directories in turn, and removes none
abbrev pub ChangesVolume : Change → Date3 → Shown → Shown → Result Unit InFault → Type 0
ChangesVolume (Add files to force) moment old new result = OnOk result (KeepsKeys old.image new.image × PutsInTurn moment force old new)
ChangesVolume (AddAs source name to force) moment old new result = OnOk result (PutsAs moment (chars to.now) (chars name.now) force old new)
ChangesVolume (MakeDirectories paths parents) moment old new result =
    let words = map (λ word. word.now) paths.items in ReadsFirst words (EndsInTurn (MakesWith moment parents) words) old new result
ChangesVolume (Delete paths all force) moment old new result =
    let words = map (λ word. word.now) paths.items in ReadsFirst words (EndsInTurn (Deletes moment all force) words) old new result
ChangesVolume (Rename from to) moment old new result = ReadsFirst (from.now ∷ to.now ∷ []) (EndsMove moment from.now to.now) old new result
ChangesVolume (Protect path letters) moment old new result = ReadsFirst (path.now ∷ letters.now ∷ []) (EndsProtect moment path.now letters.now) old new result
ChangesVolume (Date path date) moment old new result =
    ReadsFirst (path.now ∷ []) (EndsAt (Dates moment (chars path.now) (unwrap_or date moment)) path.now) old new result
ChangesVolume (Comment path text) moment old new result =
    ReadsFirst (path.now ∷ text.now ∷ []) (EndsAt (Comments moment (chars path.now) (chars text.now)) path.now) old new result
ChangesVolume (Relabel name) moment old new result = ReadsFirst (name.now ∷ []) (EndsAt (Relabels moment (chars name.now)) name.now) old new result
