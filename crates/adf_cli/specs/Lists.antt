-- The form and the order of a list that arguments ask for.
use Rattle.std.specs.Prelude.{◌≡◌, ◌≢◌, Bool, true, false, if◌then◌else◌, List, ℕ, Some, codes}
use Rattle.std.specs.Option.{MatchOption}
use Rattle.clap.specs.Matches.{first_value, one_text}
use Rattle.clap.specs.declared.parser.matches.Found.{Found}
use Rattle.adf_cli.specs.Given.{TellsOf}
use Rattle.adf_cli.specs.declared.query.ListForm.{ListForm}
use Rattle.adf_cli.specs.declared.query.ListForm.TheVariants.{Bytes, Letters, Long, Bold, Json}
use Rattle.adf_cli.specs.declared.query.ListOrder.{ListOrder}
use Rattle.adf_cli.specs.declared.query.ListOrder.TheVariants.{Disk, Name, Size, Date}
use Rattle.adf_cli.specs.declared.fault.WordsFault.{WordsFault}

-- whether an option without a value is given
abbrev pub IsFlag : Found → List ℕ → Bool → Type 0
IsFlag found id given = one_text found id ≡ Some (if given then codes "true" else codes "false")

-- the form by whether `--long`, `--json` and `--letters` are given: `--long` goes before `--json`, and that before
-- `--letters`
abbrev pub form_of : Bool → Bool → Bool → ListForm
form_of true json letters = Long
form_of false true letters = Json
form_of false false true = Letters
form_of false false false = Bytes

-- the form that these arguments ask for
abbrev pub IsFormOf : Found → ListForm → Type 0
IsFormOf found form =
    (long json letters : Bool) → IsFlag found (codes "long") long → IsFlag found (codes "json") json → IsFlag found (codes "letters") letters
    → form ≡ form_of long json letters

-- the name of an order
abbrev pub order_word : ListOrder → List ℕ
order_word Disk = codes "disk"
order_word Name = codes "name"
order_word Size = codes "size"
order_word Date = codes "date"

-- the order without `--sort`: by name for people, else as on the disk
abbrev pub usual_order : ListForm → ListOrder
usual_order Long = Name
usual_order Bold = Name
usual_order Bytes = Disk
usual_order Letters = Disk
usual_order Json = Disk

-- the order that these arguments ask for
abbrev pub IsOrderOf : Found → ListForm → ListOrder → Type 0
IsOrderOf found form order = MatchOption (first_value found (codes "sort")) (order ≡ usual_order form) (λ word. word ≡ order_word order)

-- a wrong command line is reported only if the argument names no order
abbrev pub TellsNoOrder : List ℕ → WordsFault → Type 0
TellsNoOrder text = TellsOf ((order : ListOrder) → text ≢ order_word order)
