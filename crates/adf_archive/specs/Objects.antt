-- The JSON object of a report on an image, as tokens.
use Rattle.std.specs.Prelude.{ℕ, Bool, true, false, if◌then◌else◌, List, [], ◌∷◌, ◌++◌, flat_map, decimal, codes, Option, Some, None, option_map, Vec}
use Rattle.std.specs.Global.{Global}
use Rattle.std.specs.String.{string_bytes}
use Rattle.json.specs.Token.{Token, begin_object, end_object, begin_array, end_array, key, string, number, boolean}
use Rattle.json.specs.Print.{print}
use Rattle.adf_block.specs.declared.boot.BootKind.{BootKind}
use Rattle.adf_block.specs.declared.boot.BootKind.TheVariants.{Ofs, Ffs, OtherDos, NotDos}
use Rattle.adf_record.specs.Members.{number_token, string_token}
use Rattle.adf_text.specs.Letters.{letters}
use Rattle.ados_check.specs.declared.evidence.Evidence.{Evidence}
use Rattle.adf_archive.specs.declared.objects.Members.{Members}
use Rattle.adf_archive.specs.declared.report.Contents.{Contents}
use Rattle.adf_archive.specs.declared.report.ImageReport.{ImageReport}
use Rattle.adf_archive.specs.declared.report.ImageReport.TheVariants.{Accepted, Refused, WrongSize, NotChecked}
use Rattle.adf_archive.specs.declared.report.ShownFault.{ShownFault}
use Rattle.adf_archive.specs.declared.suspects.Suspect.{Suspect}
use Rattle.adf_archive.specs.Owned.{entry_of, owner_word, position_of}
use Rattle.ados_volume.specs.declared.owner.Owner.{Owner}
use Rattle.ados_volume.specs.declared.owner.Owner.TheVariants.{Data}
use Rattle.adf_archive.specs.Words.{kind_word, size_word}

-- the DOS type of a disk: `DOS\` and its last byte as a number
abbrev pub kind_text : Option BootKind → Option (List ℕ)
kind_text (Some Ofs) = Some (codes "DOS\\0")
kind_text (Some Ffs) = Some (codes "DOS\\1")
kind_text (Some (OtherDos last)) = Some (codes "DOS\\" ++ decimal last)
kind_text (Some NotDos) = None
kind_text None = None

-- a name, numbers of files and directories, and free blocks; null for unknown values
abbrev pub known_tokens : Option (List ℕ) → Option ℕ → Option ℕ → Option ℕ → List Token
known_tokens name files directories free =
    key (codes "name") ∷ string_token name ∷ key (codes "files") ∷ number_token files
    ∷ key (codes "directories") ∷ number_token directories ∷ key (codes "free") ∷ number_token free ∷ []

-- the same for a volume, with its name in letters
abbrev pub contents_tokens : Option Contents → List Token
contents_tokens (Some c) = known_tokens (Some (letters c.name)) (Some c.counts.files) (Some c.counts.directories) (Some c.free)
contents_tokens None = known_tokens None None None None

-- whether the image is accepted, whether its bitmap was rebuilt, its kind and blocks, and its contents
abbrev pub members_tokens : Members → List Token
members_tokens told =
    key (codes "ok") ∷ boolean told.ok ∷ key (codes "validated") ∷ boolean told.validated
    ∷ key (codes "kind") ∷ string_token (kind_text told.kind) ∷ key (codes "blocks") ∷ number_token told.blocks
    ∷ contents_tokens told.contents

-- the members of a report before its faults
abbrev pub members_of : ImageReport → Members
members_of (Accepted told) =
    record { ok = true; validated = told.validated; kind = Some told.kind; blocks = Some told.blocks; contents = told.contents }
members_of (Refused told) = record { ok = false; validated = false; kind = Some told.kind; blocks = Some told.blocks; contents = None }
members_of (WrongSize fault) = record { ok = false; validated = false; kind = None; blocks = None; contents = None }
members_of (NotChecked why) = record { ok = false; validated = false; kind = None; blocks = None; contents = None }

-- the value of the long that shows a fault
abbrev pub found_in : Option Evidence → Option ℕ
found_in (Some values) = Some values.found
found_in None = None

-- the only right value of that long
abbrev pub wanted_in : Option Evidence → Option ℕ
wanted_in (Some values) = values.wanted
wanted_in None = None

-- the object of a fault
abbrev pub fault_tokens : List ℕ → ℕ → Option (List ℕ) → Option Evidence → Option (List ℕ) → List Token
fault_tokens kind block path values text =
    begin_object ∷ key (codes "kind") ∷ string kind ∷ key (codes "block") ∷ number (decimal block)
    ∷ key (codes "path") ∷ string_token path ∷ key (codes "found") ∷ number_token (found_in values)
    ∷ key (codes "wanted") ∷ number_token (wanted_in values) ∷ key (codes "text") ∷ string_token text ∷ end_object ∷ []

abbrev pub shown_tokens : ShownFault → List Token
shown_tokens shown =
    fault_tokens (kind_word shown.fault.kind) shown.fault.block (option_map string_bytes shown.path) shown.values (Some (string_bytes shown.text))

-- the objects of a report's faults
abbrev pub faults_tokens : ImageReport → List Token
faults_tokens (Accepted told) = []
faults_tokens (Refused told) = flat_map shown_tokens told.faults.items
faults_tokens (WrongSize fault) = fault_tokens (size_word fault) 0 None None None
faults_tokens (NotChecked why) = []

-- the position of a data block in its file
abbrev pub data_place : Owner → Option ℕ
data_place (Data file place) = Some place
data_place owner = None

-- the members on a suspect block itself, with the path of its entry
abbrev pub place_tokens : Suspect → List Token
place_tokens suspect =
    key (codes "block") ∷ number (decimal suspect.block)
    ∷ key (codes "header") ∷ number_token (entry_of suspect.block suspect.owner)
    ∷ key (codes "data") ∷ number_token (data_place suspect.owner) ∷ key (codes "path") ∷ string_token (option_map string_bytes suspect.path) ∷ []

-- the members on what a block is
abbrev pub owner_tokens : Owner → List Token
owner_tokens owner = key (codes "owner") ∷ string (owner_word owner) ∷ key (codes "number") ∷ number_token (position_of owner) ∷ []

-- the object of a suspect block
abbrev pub suspect_tokens : Suspect → List Token
suspect_tokens suspect = begin_object ∷ (place_tokens suspect ++ (owner_tokens suspect.owner ++ end_object ∷ []))

-- the member with the suspect blocks
abbrev pub suspects_tokens : List Suspect → List Token
suspects_tokens suspects = key (codes "suspects") ∷ begin_array ∷ flat_map suspect_tokens suspects ++ end_array ∷ []

-- the same if they were requested; else no member
abbrev pub asked_tokens : Option (Vec Suspect Global) → List Token
asked_tokens (Some suspects) = suspects_tokens suspects.items
asked_tokens None = []

-- the members after the faults: of an accepted image the suspect blocks, if they were requested; of a refused one that there are
-- more faults, if there are
abbrev pub further_tokens : ImageReport → List Token
further_tokens (Accepted told) = asked_tokens told.suspects
further_tokens (Refused told) = if told.more then key (codes "more") ∷ boolean true ∷ [] else []
further_tokens report = []

-- the object for the image at a path
abbrev pub object_tokens : List ℕ → ImageReport → List Token
object_tokens path report =
    begin_object ∷ key (codes "path") ∷ string path ∷ members_tokens (members_of report)
    ++ key (codes "faults") ∷ begin_array ∷ faults_tokens report ++ end_array ∷ (further_tokens report ++ end_object ∷ [])

-- the image was read and checked
abbrev pub is_checked : ImageReport → Bool
is_checked (NotChecked why) = false
is_checked report = true

-- the line of a report; none for an image that was not checked
abbrev pub object_line : List ℕ → ImageReport → List ℕ
object_line path report = if is_checked report then print (object_tokens path report) ++ 10 ∷ [] else []
