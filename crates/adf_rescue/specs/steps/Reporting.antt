-- The report on a damaged image, while it is written.
use Rattle.std.specs.Prelude.{◌≡◌, ℕ, Bool, true, false, List, [], ◌∷◌, ◌++◌, codes, length, if◌then◌else◌}
use Rattle.json.specs.Token.{Token, begin_object, begin_array, key}
use Rattle.json.specs.Print.{print, print_from}
use Rattle.ados_salvage.specs.declared.salvaged.Salvaged.{Salvaged}
use Rattle.adf_rescue.specs.Rescue.{AreLines, IsRescueLine, deleted_count_line, unaccounted_count_line}
use Rattle.adf_rescue.specs.RescueObject.{AreObjects, is_summed, is_told, object_tokens, path_end, rest_tokens}
use Rattle.adf_rescue.specs.declared.damaged.Rescue.{Rescue}

-- the text is the begin of the report's object, up to the objects of these entries
abbrev pub front_tokens : List Token → List Token
front_tokens objects = begin_object ∷ key (codes "entries") ∷ begin_array ∷ objects

pub record ArePrinted (rescue : Rescue) (entries : List Salvaged) (text : List ℕ) : Type 0 where
  pub objects : List Token
  pub are : AreObjects rescue entries objects
  pub printed : text ≡ print (front_tokens objects)

-- the object of an entry at some host path, if it is told, behind a comma after another object
abbrev pub IsNextObject : Rescue → Bool → ℕ → Salvaged → List ℕ → Type 0
IsNextObject rescue after place entry text =
    (other : List ℕ) × (path : List ℕ) × (text ≡ (if is_told entry.state entry.found then print_from after (object_tokens rescue place entry other (path ++ path_end entry.state)) else []))

-- in each of the forms, as lines or as an object: what is before the entries
abbrev pub front_of : Bool → List ℕ
front_of false = []
front_of true = codes "{\"entries\":["

-- the report up to these entries, the first ones of a rescue
abbrev pub AreParts : Bool → Rescue → List Salvaged → List ℕ → Type 0
AreParts false rescue entries text = AreLines entries text
AreParts true rescue entries text = ArePrinted rescue entries text

-- what is told of one more entry
abbrev pub IsPart : Bool → Rescue → Bool → ℕ → Salvaged → List ℕ → Type 0
IsPart false rescue after place entry text = IsRescueLine entry.found entry.state text
IsPart true rescue after place entry text = IsNextObject rescue after place entry text

-- what is behind the entries
abbrev pub rest_of : Bool → Rescue → List ℕ
rest_of false rescue = deleted_count_line (length rescue.salvage.deleted) ++ unaccounted_count_line (length rescue.unaccounted.items)
rest_of true rescue = print (rest_tokens (length rescue.salvage.deleted) rescue.unaccounted.items (is_summed rescue.salvage)) ++ codes "\n"
