-- The output for images.
use Rattle.std.specs.Prelude.{ℕ, suc, false, if◌then◌else◌, List, [], ◌∷◌, ◌++◌, get_or, flat_map, decimal, codes, Option, Some, None, option_map, Vec}
use Rattle.std.specs.Global.{Global}
use Rattle.std.specs.Option.{option_map_or}
use Rattle.std.specs.String.{string_bytes}
use Rattle.ados_volume.specs.declared.owner.Owner.{Owner}
use Rattle.ados_volume.specs.declared.owner.Owner.TheVariants.{Directory}
use Rattle.adf_text.specs.Plain.{plain}
use Rattle.adf_archive.specs.declared.report.AcceptedImage.{AcceptedImage}
use Rattle.adf_archive.specs.declared.report.ImageReport.{ImageReport}
use Rattle.adf_archive.specs.declared.report.ImageReport.TheVariants.{Accepted, Refused, WrongSize, NotChecked}
use Rattle.adf_archive.specs.declared.report.RefusedImage.{RefusedImage}
use Rattle.adf_archive.specs.declared.report.ShownFault.{ShownFault}
use Rattle.adf_archive.specs.declared.suspects.Suspect.{Suspect}
use Rattle.adf_archive.specs.declared.telling.Form.{Form}
use Rattle.adf_archive.specs.Words.{kind_word, size_word}
use Rattle.adf_archive.specs.Objects.{object_line}
use Rattle.adf_archive.specs.Owned.{entry_of, owner_text, slash}

-- a line with these words after a prefix
abbrev pub line_behind : List ℕ → List ℕ → List ℕ
line_behind front words = front ++ words ++ 10 ∷ []

-- `refused KIND BLOCK`
abbrev pub refused_words : List ℕ → ℕ → List ℕ
refused_words word block = codes "refused " ++ word ++ 32 ∷ decimal block

-- `ok`, or `ok validated` if the bitmap was rebuilt
abbrev pub accepted_words : AcceptedImage → List ℕ
accepted_words told = if told.validated then codes "ok validated" else codes "ok"

-- an entry without a path, up to the block of its header
abbrev pub header_front : Owner → List ℕ
header_front Directory = codes "the directory at block "
header_front owner = codes "the file at block "

abbrev pub header_words : Owner → ℕ → List ℕ
header_words owner entry = header_front owner ++ decimal entry

-- the path of an entry, with control characters as escapes, and a slash behind that of a directory; without a path, the block of the
-- header; nothing for a block that belongs to no entry
abbrev pub path_words : ℕ → Owner → Option (List ℕ) → List ℕ
path_words block owner (Some path) = plain false path ++ slash owner
path_words block owner None = option_map_or (header_words owner) (entry_of block owner) []

-- the entry of a suspect block
abbrev pub entry_words : Suspect → List ℕ
entry_words suspect = path_words suspect.block suspect.owner (option_map string_bytes suspect.path)

-- `suspect block BLOCK, `
abbrev pub block_words : ℕ → List ℕ
block_words block = codes "suspect block " ++ (decimal block ++ codes ", ")

-- `suspect block BLOCK, ` and what the block is, as in `data PLACE of PATH`
abbrev pub suspect_words : Suspect → List ℕ
suspect_words suspect = block_words suspect.block ++ owner_text suspect.owner ++ entry_words suspect

-- the line of a suspect block
abbrev pub suspect_line : List ℕ → Suspect → List ℕ
suspect_line front suspect = line_behind front (suspect_words suspect)

-- the lines of the suspect blocks, if they were requested
abbrev pub suspect_lines : List ℕ → Option (Vec Suspect Global) → List ℕ
suspect_lines front None = []
suspect_lines front (Some suspects) = flat_map (suspect_line front) suspects.items

-- the lines of an accepted image
abbrev pub accepted_lines : List ℕ → AcceptedImage → List ℕ
accepted_lines front told = line_behind front (accepted_words told) ++ suspect_lines front told.suspects

-- the line of a fault
abbrev pub shown_line : List ℕ → ShownFault → List ℕ
shown_line front shown = line_behind front (refused_words (kind_word shown.fault.kind) shown.fault.block)

-- a line for each fault, and `more` if there may be more
abbrev pub fault_lines : List ℕ → RefusedImage → List ℕ
fault_lines front told =
    flat_map (shown_line front) told.faults.items
    ++ (if told.more then line_behind front (codes "more") else [])

-- the lines of a report, each after a prefix
abbrev pub lines_of : List ℕ → ImageReport → List ℕ
lines_of front (Accepted told) = accepted_lines front told
lines_of front (Refused told) = fault_lines front told
lines_of front (WrongSize fault) = line_behind front (refused_words (size_word fault) 0)
lines_of front (NotChecked why) = []

-- the output for the image at a path: its object, or its lines; for several images each line starts with the path, with
-- control characters as escapes, and a tab
abbrev pub told_of : Form → List ℕ → ImageReport → List ℕ
told_of form path report =
    if form.json then object_line path report
    else if form.paths then lines_of (plain false path ++ 9 ∷ []) report
    else lines_of [] report

-- the output for images, one after the other; their paths start at a position of the list
unfoldable pub told_from : Form → List (List ℕ) → ℕ → List ImageReport → List ℕ
told_from form paths start [] = []
told_from form paths start (report ∷ reports) = told_of form (get_or paths start []) report ++ told_from form paths (suc start) reports
