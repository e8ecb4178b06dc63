-- Why a text is not a name.
use Rattle.std.specs.Prelude.{ℕ, ◌==◌, nat_lt, if◌then◌else◌, List, length, Option, None, Some}
use Rattle.std.specs.List.{list_any}
use Rattle.ados_name.specs.Name.{is_separator}
use Rattle.ados_name.specs.declared.NameFault.{NameFault}
use Rattle.ados_name.specs.declared.NameFault.TheVariants.{Empty, TooLong, Separator}

-- the first fault of a text as a name, or none
abbrev pub first_fault : List ℕ → Option NameFault
first_fault text =
    if length text == 0 then Some Empty
    else if nat_lt 30 (length text) then Some TooLong
    else if list_any is_separator text then Some Separator
    else None
