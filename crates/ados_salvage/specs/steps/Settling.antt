-- Files without a header while they are added to the entries.
use Rattle.std.specs.Prelude.{◌≡◌, ℕ, ◌+◌, ◌*◌, ◌<◌, ◌≤◌, ◌⊎◌, List, length, Contains, Option, IsSome, ⊤}
use Rattle.ados_salvage.specs.declared.known.image_known.Known.{Known}
use Rattle.ados_salvage.specs.Known.{AreKnown}
use Rattle.ados_salvage.specs.declared.gathered.Gathered.{Gathered}
use Rattle.ados_salvage.specs.declared.salvaged.HeaderState.{HeaderState}
use Rattle.ados_salvage.specs.declared.salvaged.State.{State}
use Rattle.ados_salvage.specs.declared.salvaged.State.TheVariants as states
use Rattle.ados_salvage.specs.Salvaged.{AreSalvaged, broken_total, headers_of}
use Rattle.ados_salvage.specs.steps.Gathering.{place_at}
use Rattle.ados_salvage.specs.steps.Counting.{AreCounted}
use Rattle.ados_salvage.specs.steps.Giving.{IsGiving}

-- the state of a file that is not whole and has such a header
abbrev pub IsDamaged : HeaderState → State → Type 0
IsDamaged heading (states.Doubtful this length) = this ≡ heading
IsDamaged heading (states.Broken missing cut length) = ⊤
IsDamaged heading state = ⊥

-- each of these headers was gathered, or is below a number
abbrev pub ArePlaced : List (Option ℕ) → ℕ → List ℕ → Type 0
ArePlaced places next headers = (block : ℕ) → Contains headers block → IsSome (place_at places block) ⊎ (block < next)

-- the entries so far, the blocks given and the bytes left; each header is below a number, or was gathered
pub record AreSettled (known : Known) (next : ℕ) (gathered : Gathered) : Type 0 where
  pub sure : AreKnown known
  pub salvaged : AreSalvaged known.left_out known.holes.items known.fillers known.image gathered.entries.items
  pub placed : ArePlaced gathered.places.items next (headers_of gathered.entries.items)
  pub giving : IsGiving known.holes.items known.image gathered.giving
  pub bounded : broken_total gathered.entries.items + gathered.giving.left ≤ 4 * length known.image
  pub counted : AreCounted 0 known.left_out known.image gathered.entries.items gathered.giving.pieces.items
