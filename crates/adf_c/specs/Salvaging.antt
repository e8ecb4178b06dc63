-- What can be saved of an image, for C. Contracts see a salvage that C holds as its image, entries and given blocks, or as none.
use Rattle.std.specs.Prelude.{◌≡◌, ◌<◌, ◌≤◌, ◌⊎◌, ℕ, ℤ, List, length, Option, Some, None, Result}
use Rattle.adf_block.specs.Size.{IsSizeFault}
use Rattle.adf_block.specs.Whole.{IsImage}
use Rattle.adf_block.specs.declared.volume_size.SizeFault.{SizeFault}
use Rattle.ados_model.specs.Stands.{Stands}
use Rattle.ados_model.specs.Tree.{Tree}
use Rattle.ados_salvage.specs.Salvaged.{AreOfTree, Salvages, Saved, ended}
use Rattle.ados_salvage.specs.Saved.{HasBytes, IsAt, size_of}
use Rattle.ados_salvage.specs.declared.salvaged.Salvaged.{Salvaged}
use Rattle.adf_c.specs.Ends.{Comes, ComesTo}
use Rattle.adf_c.specs.Salvaged.{told_salvaged}
use Rattle.adf_c.specs.declared.values.refusal.Refusal.{Refusal}
use Rattle.adf_c.specs.declared.values.refusal.Refusal.TheVariants.{NotAnImage, NoMemory, WrongArgument}
use Rattle.adf_c.specs.declared.values.salvaged.JipSalvaged.{JipSalvaged}

-- the salvage is open already
abbrev pub IsOpened : Option Saved → Type 0
IsOpened held = (saved : Saved) × (held ≡ Some saved)

-- a closed one is opened on the bytes of an image: with the entries of the tree that it represents, or with its sound headers
pub record Opens (bytes : List ℕ) (old new : Option Saved) : Type 0 where
  pub closed : old ≡ None
  pub image : IsImage bytes
  pub saved : Saved
  pub holds : new ≡ Some saved
  pub salvages : Salvages bytes saved
  pub tree : (t : Tree) → Stands bytes t → AreOfTree t saved

-- why it is not opened; it is unchanged
abbrev pub RefusesOpen : List ℕ → Option Saved → Option Saved → Refusal → Type 0
RefusesOpen bytes old new NotAnImage = (new ≡ old) × (old ≡ None) × ((size : SizeFault) × IsSizeFault (length bytes) size)
RefusesOpen bytes old new NoMemory = (new ≡ old) × (old ≡ None)
RefusesOpen bytes old new WrongArgument = (new ≡ old) × IsOpened old

-- the result of opening it, and the same by the status
abbrev pub SalvageComes : List ℕ → Option Saved → Option Saved → Result (Unit {0}) Refusal → Type 0
SalvageComes bytes old new = Comes (Opens bytes old new) (RefusesOpen bytes old new)

abbrev pub SalvageEnds : List ℕ → Option Saved → Option Saved → ℤ → Type 0
SalvageEnds bytes old new = ComesTo (Opens bytes old new) (RefusesOpen bytes old new)

-- a fact about the entry at a position
pub record InSaved (is : Saved → Salvaged → Type 0) (saved : Saved) (place : ℕ) : Type 0 where
  pub entry : Salvaged
  pub within : place < length saved.entries
  pub at : IsAt saved.entries place entry
  pub fact : is saved entry

-- the same of what C holds
abbrev pub AtPlace : (Saved → Salvaged → Type 0) → Option Saved → ℕ → Type 0
AtPlace is held place = (saved : Saved) × (held ≡ Some saved) × InSaved is saved place

-- there is no entry at this position: it is past the last, or the salvage is closed
abbrev pub IsNoPlace : Option Saved → ℕ → Type 0
IsNoPlace held place = (held ≡ None) ⊎ ((saved : Saved) × (held ≡ Some saved) × (length saved.entries ≤ place))

-- why there is no entry to tell
abbrev pub IsPast : Saved → ℕ → Refusal → Type 0
IsPast saved place refusal = (refusal ≡ WrongArgument) × (length saved.entries ≤ place)

abbrev pub RefusesPlace : Option Saved → ℕ → Refusal → Type 0
RefusesPlace held place refusal = (refusal ≡ WrongArgument) × IsNoPlace held place

-- this is the entry for C, with the number of its bytes
abbrev pub IsToldAs : JipSalvaged → Saved → Salvaged → Type 0
IsToldAs told saved entry = told ≡ told_salvaged entry (size_of saved.image entry.header entry.state)

-- the entry has this name in its directory, and these bytes
abbrev pub HasOwnName : List ℕ → Saved → Salvaged → Type 0
HasOwnName name saved entry = name ≡ ended entry.name entry.header entry.endings

abbrev pub HasFileBytes : ℕ → List ℕ → Saved → Salvaged → Type 0
HasFileBytes place bytes saved entry = HasBytes saved.image saved.given place entry.header entry.state bytes

-- the result of telling an entry, by the status; if it is refused, the struct of C is unchanged
abbrev pub EntryEnds : Option Saved → ℕ → JipSalvaged → JipSalvaged → ℤ → Type 0
EntryEnds held place before after =
    ComesTo (AtPlace (IsToldAs after) held place) (λ refusal. RefusesPlace held place refusal × (after ≡ before))
