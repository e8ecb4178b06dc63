-- The facts of a volume as a JSON object.
use Rattle.std.specs.Prelude.{◌≡◌, ℕ, List, [], ◌∷◌, ◌++◌, codes, decimal}
use Rattle.json.specs.Token.{Token, begin_object, end_object, boolean, key, number, string}
use Rattle.json.specs.Print.{print}
use Rattle.adf_block.specs.declared.layout.Format.{Format}
use Rattle.adf_block.specs.declared.layout.Format.TheVariants.{Ofs, Ffs}
use Rattle.ados_name.specs.Date.{IsTextOf}
use Rattle.adf_block.specs.declared.code.BootCode.{BootCode}
use Rattle.adf_block.specs.declared.code.BootCode.TheVariants.{Empty, Wrong, Standard, Custom}
use Rattle.adf_text.specs.Letters.{letters}
use Rattle.adf_record.specs.declared.facts.Facts.{Facts}

-- the DOS type of a format: `DOS\` and its last byte
abbrev pub kind_word : Format → List ℕ
kind_word Ofs = codes "DOS\\0"
kind_word Ffs = codes "DOS\\1"

-- one word for what a boot block is
abbrev pub boot_word : BootCode → List ℕ
boot_word Empty = codes "none"
boot_word Wrong = codes "wrong"
boot_word Standard = codes "standard"
boot_word Custom = codes "custom"

-- what the volume is: its label in letters, its DOS type, its blocks, and whether its bitmap was rebuilt
abbrev pub front_tokens : Facts → List Token
front_tokens facts =
    key (codes "name") ∷ string (letters facts.label) ∷ key (codes "kind") ∷ string (kind_word facts.format)
    ∷ key (codes "blocks") ∷ number (decimal facts.blocks) ∷ key (codes "validated") ∷ boolean facts.rebuilt ∷ []

-- what is in it: its files and directories, and the blocks in use and free
abbrev pub amount_tokens : Facts → List Token
amount_tokens facts =
    key (codes "files") ∷ number (decimal facts.counts.files) ∷ key (codes "directories") ∷ number (decimal facts.counts.directories)
    ∷ key (codes "used") ∷ number (decimal facts.used) ∷ key (codes "free") ∷ number (decimal facts.free) ∷ []

-- the texts of both dates, and what the boot block is
abbrev pub end_tokens : Facts → List ℕ → List ℕ → List Token
end_tokens facts created changed =
    key (codes "created") ∷ string created ∷ key (codes "changed") ∷ string changed ∷ key (codes "boot") ∷ string (boot_word facts.boot) ∷ []

-- the lost blocks, and the headers of files and of directories among them
abbrev pub lost_tokens : Facts → List Token
lost_tokens facts =
    key (codes "lost") ∷ number (decimal facts.lost.blocks) ∷ key (codes "lost_files") ∷ number (decimal facts.lost.files)
    ∷ key (codes "lost_directories") ∷ number (decimal facts.lost.directories) ∷ []

abbrev pub object_tokens : Facts → List ℕ → List ℕ → List Token
object_tokens facts created changed =
    begin_object ∷ front_tokens facts ++ amount_tokens facts ++ end_tokens facts created changed ++ lost_tokens facts ++ end_object ∷ []

-- the text is the line with the object of these facts
abbrev pub IsFactsObject : Facts → List ℕ → Type 0
IsFactsObject facts text =
    (created : List ℕ) × (changed : List ℕ) × IsTextOf facts.created created × IsTextOf facts.changed changed
    × (text ≡ print (object_tokens facts created changed) ++ 10 ∷ [])
