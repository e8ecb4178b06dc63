-- The form of a map that arguments ask for.
use Rattle.std.specs.Prelude.{◌≡◌, Bool, true, false, codes}
use Rattle.clap.specs.declared.parser.matches.Found.{Found}
use Rattle.adf_cli.specs.Lists.{IsFlag}
use Rattle.adf_cli.specs.declared.map_form.MapForm.{MapForm}
use Rattle.adf_cli.specs.declared.map_form.MapForm.TheVariants.{Cylinders, Json, Tracks}

-- the form by whether `--tracks` and `--json` are given
abbrev pub map_form_of : (tracks json : Bool) → MapForm
map_form_of true json = Tracks
map_form_of false true = Json
map_form_of false false = Cylinders

-- the form that these arguments ask for
abbrev pub IsMapFormOf : Found → MapForm → Type 0
IsMapFormOf found form =
    (tracks json : Bool) → IsFlag found (codes "tracks") tracks → IsFlag found (codes "json") json → form ≡ map_form_of tracks json
