-- A boot block as a JSON object.
use Rattle.std.specs.Prelude.{◌≡◌, ℕ, List, [], ◌∷◌, ◌++◌, codes}
use Rattle.hex.specs.Hex.{encode_lower}
use Rattle.json.specs.Token.{Token, begin_object, end_object, key, string}
use Rattle.json.specs.Print.{print}
use Rattle.adf_block.specs.BootCode.{IsBootCode, boot_bytes}
use Rattle.adf_block.specs.declared.code.BootCode.{BootCode}
use Rattle.adf_record.specs.Object.{boot_word}

-- one word for what it is, and these digits
abbrev pub boot_tokens : BootCode → List ℕ → List Token
boot_tokens code digits =
    begin_object ∷ key (codes "boot") ∷ string (boot_word code) ∷ key (codes "bytes") ∷ string digits ∷ end_object ∷ []

-- the text is the line with the object of the image's boot block: what it is, and its bytes as hexadecimal digits
abbrev pub IsBootObject : List ℕ → List ℕ → Type 0
IsBootObject image text = (code : BootCode) × IsBootCode image code × (text ≡ print (boot_tokens code (encode_lower (boot_bytes image))) ++ codes "\n")
