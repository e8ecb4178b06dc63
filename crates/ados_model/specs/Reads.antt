-- What a position, a read and a test of the free space say, under names of their own.
use Rattle.std.specs.Prelude.{ℕ, ℤ, pos, ◌+ℤ◌, Bool, nat_lt, List, take, drop, length, Option, option_map}
use Rattle.ados_model.specs.Tree.{Tree, bytes_of, free}
use Rattle.ados_model.specs.Session.{Session, handle_key, handle_position}
use Rattle.ados_model.specs.Objects.{seek_base}

-- fewer than this many blocks are free
abbrev pub lacks : Tree → ℕ → Bool
lacks t blocks = nat_lt (free t) blocks

-- the target, if the mode is one of these
abbrev pub seek_target : ℕ → ℕ → ℤ → ℤ → Option ℤ
seek_target position size offset mode = option_map (λ base. pos base +ℤ offset) (seek_base position size mode)

-- the bytes that a READ returns
abbrev pub bytes_read : Tree → Session → ℕ → List ℕ → List ℕ
bytes_read t s handle buffer = take (length buffer) (drop (handle_position s handle) (bytes_of t (handle_key s handle)))
