-- The result of one step of a listing.
use Rattle.std.specs.Prelude.{◌≡◌, ℕ, ◌*◌, ◌<◌, Bool, true, false, List, [], ◌++◌, Option}
use Rattle.ados_name.specs.declared.stamp.Date3.{Date3}
use Rattle.ados_name.specs.Date.{IsTextOf}
use Rattle.ados_model.specs.declared.answer.FileInfo.{FileInfo}
use Rattle.ados_model.specs.Tree.{Tree}
use Rattle.adf_io.specs.Prefix.{Writes}
use Rattle.adf_script.specs.Text.{spaced}
use Rattle.adf_export.specs.declared.listing.Listing.{Listing}
use Rattle.ados_volume.specs.Located.{Located}
use Rattle.adf_cli.specs.declared.query.ListForm.{ListForm}
use Rattle.adf_cli.specs.declared.query.ListOrder.{ListOrder}
use Rattle.adf_record.specs.Second.{to_second}
use Rattle.adf_export.specs.Listing.{listed, AreEntries, IsEntry, IsLine, IsLongLine, head, shown}
use Rattle.adf_export.specs.steps.Levels.{IsSoFar, work}

-- the text of the entry with this path is appended
abbrev pub PushesEntry : ListForm → List ℕ → List ℕ → FileInfo → List ℕ → Type 0
PushesEntry form old new info path = (told : List ℕ) × IsEntry form info path told × (new ≡ old ++ told)

-- a space and a date without hundredths are appended
abbrev pub PushesDate : List ℕ → List ℕ → Date3 → Type 0
PushesDate old new date = (text : List ℕ) × IsTextOf date text × (new ≡ old ++ spaced (to_second text))

-- one line is appended: that of the entry with this path
abbrev pub PushesLine : Bool → List ℕ → List ℕ → FileInfo → List ℕ → Type 0
PushesLine as_letters old new info path = (line : List ℕ) × IsLine info (shown as_letters path) line × (new ≡ old ++ line)

-- one long line is appended: that of the entry with this path
abbrev pub PushesLong : Bool → List ℕ → List ℕ → FileInfo → List ℕ → Type 0
PushesLong styled old new info path = (line : List ℕ) × IsLongLine styled info path line × (new ≡ old ++ line)

-- the text has what stands before the entries, and no entry is listed yet
abbrev pub Starts : Tree → ListOrder → ℕ → ListForm → Listing → Type 0
Starts t order key form new =
    (new.text.items ≡ head t form)
    × IsSoFar t order key new.levels.items new.path.items [] (listed t order key) × (work new.levels.items (listed t order key) < 2 * t.blocks)

-- one step goes on: some entries were listed, and less is left; or nothing was left, and nothing changes
abbrev pub GoesOn : Tree → ListOrder → ℕ → ListForm → Listing → Listing → List Located → List Located → Bool → Type 0
GoesOn t order dir form old new first left true =
    (came : List Located) × (rest : List Located) × (told : List ℕ)
    × (left ≡ came ++ rest) × AreEntries t form came told × (new.text.items ≡ old.text.items ++ told)
    × IsSoFar t order dir new.levels.items new.path.items (first ++ came) rest × (work new.levels.items rest < work old.levels.items left)
GoesOn t order dir form old new first left false = (left ≡ []) × (new.text.items ≡ old.text.items)
