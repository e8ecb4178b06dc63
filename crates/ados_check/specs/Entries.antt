-- Facts about the marked entries.
use Rattle.std.specs.Prelude.{◌≡◌, ℕ, ◌-◌, List, ◌∷◌, ◌++◌, map, replicate, Option, Some}
use Rattle.adf_block.specs.Image.{byte_at}
use Rattle.adf_block.specs.Fields.{secondary_type}
use Rattle.adf_block.specs.declared.layout.TheConstants.{FILE_TYPE, NAME_BYTE}
use Rattle.adf_block.specs.Whole.{text_at}
use Rattle.ados_name.specs.Name.{upper}
use Rattle.ados_name.specs.declared.name.TheConstants.Name as names
use Rattle.ados_model.specs.declared.role.Role.{Role}
use Rattle.ados_model.specs.declared.role.Role.TheVariants.{Entry}
use Rattle.ados_check.specs.declared.mark.Mark.{Mark}
use Rattle.ados_check.specs.Marks.{mark_at, IsMarkedEntry, IsSoundFile}

-- the block is marked as an entry, in this role
abbrev pub IsMarkedIn : List (Option Mark) → ℕ → Role → Type 0
IsMarkedIn marks block role = (mark : Mark) × (dir : ℕ) × (s : ℕ) × (mark_at marks block ≡ Some mark) × (mark.role ≡ Entry dir s) × (mark.role ≡ role)

-- if the block is a marked file, its counts and size match its blocks
abbrev pub IsSoundIfFile : List ℕ → List (Option Mark) → ℕ → Type 0
IsSoundIfFile image marks file = (dir : ℕ) → IsMarkedEntry marks file dir → secondary_type image file ≡ FILE_TYPE → IsSoundFile image file

-- this holds for each block
abbrev pub AreSoundFiles : List ℕ → List (Option Mark) → Type 0
AreSoundFiles image marks = (file : ℕ) → IsSoundIfFile image marks file

-- the name of a block in 31 bytes: its length, its bytes in upper case, then zeros
unfoldable pub upper_name : List ℕ → ℕ → List ℕ
upper_name image block = byte_at image block NAME_BYTE ∷ (map upper (text_at image block NAME_BYTE) ++ replicate (names.MAX_LEN - byte_at image block NAME_BYTE) 0)
