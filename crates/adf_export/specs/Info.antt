-- The text for an answer to DISK_INFO, and for the boot blocks.
use Rattle.std.specs.Prelude.{ℕ, ◌==◌, Bool, if◌then◌else◌, List, ◌++◌, codes}
use Rattle.json.specs.Print.{print}
use Rattle.adf_block.specs.Image.{long}
use Rattle.adf_block.specs.declared.beside.TheConstants.{BOOT_CHECKSUM}
use Rattle.adf_block.specs.Boot.{boot_sum}
use Rattle.ados_model.specs.declared.answer.Answer.{Answer}
use Rattle.adf_script.specs.Text.{line, results}
use Rattle.adf_export.specs.InfoObject.{info_tokens}

-- whether the boot checksum of the image is right
abbrev pub is_bootable : List ℕ → Bool
is_bootable image = long image 0 BOOT_CHECKSUM == boot_sum image

abbrev pub boot_line : List ℕ → List ℕ
boot_line image = if is_bootable image then codes "boot yes\n" else codes "boot no\n"

-- an object with the answer and with whether the image boots, on a line of its own; or the results of the answer, as in a script's
-- output after the packet's number, and then that line
abbrev pub info_text : Bool → Answer → List ℕ → List ℕ
info_text json answer image =
    if json then print (info_tokens answer (is_bootable image)) ++ codes "\n" else line (results answer) ++ boot_line image
