-- Blocks given to entries, one entry after the other, and how many are missing.
use Rattle.std.specs.Prelude.{◌≡◌, ◌≢◌, ℕ, ◌+◌, ◌<◌, ◌≤◌, List, ◌++◌, length, All}
use Rattle.ados_salvage.specs.Doubtful.{IsHeader}
use Rattle.ados_salvage.specs.declared.giving.Piece.{Piece}
use Rattle.ados_salvage.specs.declared.numbered.Kept.{Kept}
use Rattle.ados_salvage.specs.declared.pointer_blocks.Wanted.{Wanted}
use Rattle.ados_salvage.specs.declared.salvaged.Salvaged.{Salvaged}
use Rattle.ados_salvage.specs.Due.{IsDue}
use Rattle.ados_salvage.specs.Missing.{TellsMissing, missing_below}
use Rattle.ados_salvage.specs.Saved.{IsAt}

-- more blocks were given, all to the entry at this position with this header, and due to it
pub record GivesMore (image : List ℕ) (file place : ℕ) (old new : List Piece) : Type 0 where
  pub more : List Piece
  pub added : new ≡ old ++ more
  pub own : All (λ piece. piece.place ≡ place) more
  pub due : All (λ piece. IsDue image file piece.at piece.block) more

-- no block was given to the entry at this position
abbrev pub HasNone : List Piece → ℕ → Type 0
HasNone given place = All (λ piece. piece.place ≢ place) given

-- blocks were given to the entry at this position for so many of its first data blocks
pub record GivesFirst (image : List ℕ) (file place first there : ℕ) (old new : List Piece) : Type 0 where
  pub gives : GivesMore image file place old new
  pub below : HasNone old place → All (λ piece. piece.place ≡ place → piece.at < first) new
  pub counted : HasNone old place → there + missing_below new place first ≡ first

-- a file that had some of its first data blocks was given more, none of them behind those that it needs
pub record TakesMore (image : List ℕ) (wanted : Wanted) (earlier kept : Kept) (mid new : List Piece) : Type 0 where
  pub few : kept.there ≤ kept.next
  pub within : earlier.next ≤ wanted.needed → kept.next ≤ wanted.needed
  pub first : (old : List Piece) → GivesFirst image wanted.file wanted.place earlier.next earlier.there old mid → GivesFirst image wanted.file wanted.place kept.next kept.there old new

-- blocks were given only to these entries, and each is due to its entry. Behind as many as were told before, the state of each with a header that is told says how many
-- of its blocks are missing
pub record AreCounted (before : ℕ) (out image : List ℕ) (entries : List Salvaged) (given : List Piece) : Type 0 where
  pub within : All (λ piece. piece.place < length entries) given
  pub due : All (λ piece. (entry : Salvaged) → IsAt entries piece.place entry → IsDue image entry.header piece.at piece.block) given
  pub counted : (place : ℕ) (entry : Salvaged) → before ≤ place → place < length entries → IsAt entries place entry → IsHeader out image entry.header
      → TellsMissing image given place entry.header entry.state
