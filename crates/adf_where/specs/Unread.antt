-- Blocks that could not be read: there is a mark for each block of an image, or none if nobody says which these are.
use Rattle.std.specs.Prelude.{◌==◌, ℕ, Bool, false, if◌then◌else◌, List, length, slice_index_or, Option, Some, None}

-- the block could not be read; one without a mark was read
abbrev pub is_unread : List Bool → ℕ → Bool
is_unread unread block = slice_index_or unread block false

-- whether it could not be read, if there are marks
abbrev pub unread_of : List Bool → ℕ → Option Bool
unread_of unread block = if length unread == 0 then None else Some (is_unread unread block)
