-- What is printed where something is refused: a line, or a JSON object.
use Rattle.std.specs.Prelude.{ℕ, Bool, if◌then◌else◌, List, [], ◌∷◌, ◌++◌, codes, decimal}
use Rattle.json.specs.Token.{Token, begin_object, end_object, key, number, string}
use Rattle.json.specs.Print.{print}

-- why an image is refused: the word for a fault, and the block that shows it
abbrev pub fault_reason : List ℕ → ℕ → List Token
fault_reason kind block = begin_object ∷ key (codes "kind") ∷ string kind ∷ key (codes "block") ∷ number (decimal block) ∷ end_object ∷ []

-- why AmigaDOS refuses something: the number of its error, and what it is about
abbrev pub dos_reason : ℕ → List ℕ → List Token
dos_reason error path = begin_object ∷ key (codes "number") ∷ number (decimal error) ∷ key (codes "path") ∷ string path ∷ end_object ∷ []

-- an object whose only member has the reason, on a line of its own
abbrev pub refused_object : List Token → List ℕ
refused_object reason = print (begin_object ∷ key (codes "refused") ∷ reason ++ end_object ∷ []) ++ codes "\n"

-- `refused KIND BLOCK`, or the object
abbrev pub refused_line : List ℕ → ℕ → List ℕ
refused_line kind block = codes "refused " ++ (kind ++ (codes " " ++ (decimal block ++ codes "\n")))

abbrev pub refused_text : Bool → List ℕ → ℕ → List ℕ
refused_text json kind block = if json then refused_object (fault_reason kind block) else refused_line kind block
