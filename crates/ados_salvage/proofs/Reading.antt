-- The whole files of a salvage can be read.
use Rattle.ados_salvage.proofs.Common.{ℕ, ◌<◌, inl, inr, Bool, List, All, sym, subst, arith, get_or, Giving, IsGiving, IsListed, IsReadable, Piece, Salvaged, State, block_count}
use Rattle.ados_salvage.proofs.Keeping.{saved_claimant}
use Rattle.ados_salvage.specs.Salvaged.{HasState, IsGone, IsSalvaged}
use Rattle.ados_salvage.specs.steps.Keeping.{CanBeRead}
use Rattle.ados_salvage.specs.declared.salvaged.State.TheVariants as states

-- a file whose state fits its header can be read if it is whole
pub state_readable : (out : List ℕ) (holes : List Bool) (fillers : Bool) (image : List ℕ) (block : ℕ) (state : State) → HasState out holes fillers image block state → CanBeRead image block state
state_readable out holes fillers image block states.Directory h = tt
state_readable out holes fillers image block states.DoubtfulDirectory h = tt
state_readable out holes fillers image block states.Whole h = let c = saved_claimant out holes fillers image block h in record { inside = c.intact.header.inside.1; lawful = c.intact.lawful }
state_readable out holes fillers image block (states.Doubtful heading length) h = tt
state_readable out holes fillers image block states.Lost h = absurd h
state_readable out holes fillers image block (states.Broken missing cut length) h = tt

gone_readable : (image : List ℕ) (block : ℕ) (state : State) → IsGone state → CanBeRead image block state
gone_readable image block states.Directory h = tt
gone_readable image block states.DoubtfulDirectory h = tt
gone_readable image block states.Whole h = absurd h
gone_readable image block (states.Doubtful heading length) h = tt
gone_readable image block states.Lost h = tt
gone_readable image block (states.Broken missing cut length) h = tt

pub salvaged_readable : (out : List ℕ) (holes : List Bool) (fillers : Bool) (image : List ℕ) (entry : Salvaged) → IsSalvaged out holes fillers image entry → IsReadable image entry
salvaged_readable out holes fillers image entry s = state_readable out holes fillers image entry.header entry.state s.state

pub listed_readable : (out : List ℕ) (holes : List Bool) (fillers : Bool) (image : List ℕ) (entry : Salvaged) → IsListed out holes fillers image entry → IsReadable image entry
listed_readable out holes fillers image entry (inl (inl s)) = salvaged_readable out holes fillers image entry s
listed_readable out holes fillers image entry (inl (inr lost)) = subst (CanBeRead image entry.header) (sym lost.state) tt
listed_readable out holes fillers image entry (inr loose) = gone_readable image entry.header entry.state loose.gone

-- all that is listed can be read
pub all_readable : (out : List ℕ) (holes : List Bool) (fillers : Bool) (image : List ℕ) (found : List Salvaged) → All (IsListed out holes fillers image) found → All (IsReadable image) found
all_readable out holes fillers image found listed = λ k d l. listed_readable out holes fillers image (get_or found k d) (listed k d l)

-- the blocks that are given are inside the image
pub pieces_inside : (holes : List Bool) (image : List ℕ) (giving : Giving) → IsGiving holes image giving → All (λ (piece : Piece). piece.block < block_count image) giving.pieces.items
pieces_inside holes image giving g = λ k d l. omega (arith, (g.marked k d l).inside, g.size)
