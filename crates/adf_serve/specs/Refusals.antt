-- The output for a refused image, and for a refusal by AmigaDOS.
use Rattle.std.specs.Prelude.{◌≡◌, ◌⊎◌, ℕ, Bool, false, if◌then◌else◌, List, ◌++◌, length, codes, decimal, Option, Some, None}
use Rattle.std.specs.String.{string_bytes}
use Rattle.adf_block.specs.Size.{IsSizeFault}
use Rattle.adf_block.specs.declared.volume_size.SizeFault.{SizeFault}
use Rattle.ados_model.specs.Packet.{error_number}
use Rattle.ados_model.specs.Faults.{Shows}
use Rattle.ados_model.specs.declared.fault.FaultKind.{FaultKind}
use Rattle.adf_script.specs.Text.{line, spaced}
use Rattle.adf_text.specs.Plain.{plain}
use Rattle.adf_archive.specs.Words.{kind_word, size_word}
use Rattle.adf_where.specs.Refused.{dos_reason, refused_object, refused_text}
use Rattle.adf_serve.specs.declared.fault.CommandFault.{CommandFault}
use Rattle.adf_serve.specs.declared.fault.CommandFault.TheVariants.{Refused, Dos}
use Rattle.adf_serve.specs.declared.refusal.Refusal.{Refusal}
use Rattle.adf_serve.specs.declared.refusal.DosRefusal.{DosRefusal}

-- bytes are no image: the word for the fault of their number, and block 0
abbrev pub IsSizeRefusal : List ℕ → Refusal → Type 0
IsSizeRefusal bytes refusal = (fault : SizeFault) × IsSizeFault (length bytes) fault × (refusal.kind.now ≡ size_word fault) × (refusal.block ≡ 0)

-- an image is refused: the word for a fault that it shows, and the block that shows it
abbrev pub IsImageRefusal : List ℕ → Refusal → Type 0
IsImageRefusal image refusal = (kind : FaultKind) × Shows image kind refusal.block × (refusal.kind.now ≡ kind_word kind)

-- why these bytes are refused
abbrev pub IsRefusalOf : List ℕ → Refusal → Type 0
IsRefusalOf bytes refusal = IsSizeRefusal bytes refusal ⊎ IsImageRefusal bytes refusal

-- so it is for the bytes of some file
abbrev pub IsSomeRefusal : Refusal → Type 0
IsSomeRefusal refusal = (bytes : List ℕ) × IsRefusalOf bytes refusal

-- `refused KIND BLOCK`; of a command that prints JSON an object, whose member `refused` has these two
abbrev pub refusal_text : Bool → Refusal → List ℕ
refusal_text json refusal = refused_text json refusal.kind.now refusal.block

-- the text for refused bytes
abbrev pub IsRefusalText : Bool → List ℕ → List ℕ → Type 0
IsRefusalText json bytes text = (refusal : Refusal) × IsRefusalOf bytes refusal × (text ≡ refusal_text json refusal)

-- `refused NUMBER PATH`, with the control characters of the path as escapes; of a command that prints JSON an object, whose member
-- `refused` has these two
abbrev pub dos_text : Bool → DosRefusal → List ℕ
dos_text json refusal =
    if json then refused_object (dos_reason (error_number refusal.refused.error) (string_bytes refusal.refused.path))
    else line (codes "refused " ++ decimal (error_number refusal.refused.error) ++ spaced (plain false (string_bytes refusal.refused.path)))

-- the text for some refusal by AmigaDOS
abbrev pub IsDosText : Bool → List ℕ → Type 0
IsDosText json text = (refusal : DosRefusal) × (text ≡ dos_text json refusal)

-- what is printed for a fault: a text for a refusal, none for any other
abbrev pub told_line : Bool → CommandFault → Option (List ℕ)
told_line json (Refused refusal) = Some (refusal_text json refusal)
told_line json (Dos refusal) = Some (dos_text json refusal)
told_line json fault = None
