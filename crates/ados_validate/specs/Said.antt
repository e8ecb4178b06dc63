-- What is said of a bitmap that was written anew.
use Rattle.std.specs.Prelude.{ℕ, Bool, List, ◌++◌, ◌∷◌, [], ◌==◌, if◌then◌else◌, codes, decimal}
use Rattle.json.specs.Token.{Token, begin_object, end_object, key, number}
use Rattle.json.specs.Print.{print}

abbrev pub blocks_were : ℕ → List ℕ
blocks_were n = if n == 1 then codes "block was" else codes "blocks were"

abbrev pub were : ℕ → List ℕ
were n = if n == 1 then codes "was" else codes "were"

-- how many blocks were marked free, and how many were marked used, in a line
abbrev pub validated_line : ℕ → ℕ → List ℕ
validated_line freed used =
    codes "validated: " ++ (decimal freed ++ (codes " " ++ (blocks_were freed ++ (codes " marked free, " ++ (decimal used ++ (codes " " ++ (were used ++ (codes " marked used" ++ (10 ∷ [])))))))))

-- the same numbers as an object
abbrev pub validated_tokens : ℕ → ℕ → List Token
validated_tokens freed used =
    begin_object ∷ key (codes "were_free") ∷ number (decimal freed) ∷ key (codes "were_used") ∷ number (decimal used) ∷ end_object ∷ []

abbrev pub validated_object : ℕ → ℕ → List ℕ
validated_object freed used = print (validated_tokens freed used) ++ codes "\n"

-- the numbers in one of the forms
abbrev pub validated_text : Bool → ℕ → ℕ → List ℕ
validated_text json freed used = if json then validated_object freed used else validated_line freed used
