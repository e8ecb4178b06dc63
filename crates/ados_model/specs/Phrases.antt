-- Parts of the headline's definitions under names of their own, for contracts and proofs.
use Rattle.std.specs.Prelude.{ℕ, ◌==◌, ◌&&◌, ◌⊎◌, Bool, nat_le, nat_lt, if◌then◌else◌, List, [], ◌∷◌, length, IsTrue}
use Rattle.std.specs.Result.{result_unwrap_or}
use Rattle.std.specs.FinMap as numbered
use Rattle.ados_model.specs.declared.holds.HandleHold.{HandleHold}
use Rattle.ados_model.specs.Tree.{Date3, Format, Tree}
use Rattle.ados_model.specs.Stands.{format_byte}
use Rattle.ados_model.specs.Session.{Session}
use Rattle.ados_model.specs.Objects.{placed}
use Rattle.ados_model.specs.Packet.{Packet, Answer, NoFreeStore}
use Rattle.ados_model.specs.Meaning.{makes_hold, IsRefused, IsServed}

-- the first four bytes of a volume: `DOS` and the byte of the format
abbrev pub kind_bytes : Format → List ℕ
kind_bytes format = 68 ∷ 79 ∷ 83 ∷ format_byte format ∷ []

-- the numbers of all handles
abbrev pub is_handle : Session → ℕ → Bool
is_handle s handle = numbered.contains_key s.handles handle

-- a handle of the file past this size is moved to it; any other handle stays
abbrev pub within : ℕ → ℕ → HandleHold → HandleHold
within key size h = if (h.key == key) && nat_lt size h.position then record h { position = size } else h

-- the directory and the name of the place that a path from a lock names
abbrev pub spot : Tree → Session → ℕ → List ℕ → ℕ × List ℕ
spot t s lock path = result_unwrap_or (placed t s lock path) (0, [])

-- the text is short enough for a comment
abbrev pub is_comment : List ℕ → Bool
is_comment text = nat_le (length text) 79

-- a packet that no refusal excludes is served, or refused with `NoFreeStore` if it would make a lock or a handle
abbrev pub ServedOrNoMemory : Tree → Session → Packet → Date3 → Tree → Session → Answer → Type 0
ServedOrNoMemory t s packet now new_tree new_session answer =
    IsServed t s packet now new_tree new_session answer
    ⊎ (IsTrue (makes_hold t s packet) × IsRefused t s packet NoFreeStore new_tree new_session answer)
