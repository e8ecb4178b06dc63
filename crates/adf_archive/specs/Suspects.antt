-- Suspect blocks: those that a list names, and data blocks of files that hold nothing but a filler.
use Rattle.std.specs.Prelude.{◌≡◌, ℕ, ◌<◌, ◌⊎◌, Bool, true, List, [], map, All, AllPairs, Contains, Option, None, Some, option_map}
use Rattle.std.specs.Borrow.{Bor}
use Rattle.std.specs.String.{string_bytes}
use Rattle.ados_census.specs.Fillers.{HoldsFiller}
use Rattle.ados_model.specs.Tree.{Tree}
use Rattle.ados_volume.specs.declared.owner.Owner.{Owner}
use Rattle.ados_volume.specs.declared.owner.Owner.TheVariants.{Data, Free}
use Rattle.ados_volume.specs.Owners.{Owns}
use Rattle.adf_script.specs.Lines.{lines_of}
use Rattle.adf_cli.specs.BadBlocks.{AreBad, AreMarked, IsBadFault, IsMarked}
use Rattle.adf_cli.specs.declared.bad_list.BadFault.{BadFault}
use Rattle.adf_cli.specs.declared.bad_list.BadFault.TheVariants.{Memory}
use Rattle.adf_archive.specs.declared.suspects.Suspect.{Suspect}
use Rattle.adf_archive.specs.Owned.{entry_of}
use Rattle.adf_archive.specs.Paths.{IsPathOf}

-- a block with this owner is suspect: it has a mark, or it is a data block that holds nothing but a filler, if that is asked. A free
-- block never is
abbrev pub IsDoubted : Bool → List Bool → List ℕ → ℕ → Owner → Type 0
IsDoubted filler marks image block Free = ⊥
IsDoubted filler marks image block (Data file place) = IsMarked marks block ⊎ ((filler ≡ true) × HoldsFiller image block)
IsDoubted filler marks image block owner = IsMarked marks block

-- the block has this owner, and it is suspect
pub record IsSuspect (filler : Bool) (marks : List Bool) (image : List ℕ) (t : Tree) (block : ℕ) (owner : Owner) : Type 0 where
  pub owned : Owns image t block owner
  pub doubted : IsDoubted filler marks image block owner

-- the path of an entry, if there is one and its path is not too long
abbrev pub IsPathFor : Tree → Option ℕ → Option (List ℕ) → Type 0
IsPathFor t None told = told ≡ None
IsPathFor t (Some entry) told = IsPathOf t entry told

-- the path is that of the directory or file that the block belongs to
abbrev pub HasItsPath : Tree → Suspect → Type 0
HasItsPath t suspect = IsPathFor t (entry_of suspect.block suspect.owner) (option_map string_bytes suspect.path)

-- this is such a block, with its owner and its path
pub record TellsSuspect (filler : Bool) (marks : List Bool) (image : List ℕ) (t : Tree) (suspect : Suspect) : Type 0 where
  pub is : IsSuspect filler marks image t suspect.block suspect.owner
  pub path : HasItsPath t suspect

-- this is that block
pub record IsSuspectAt (filler : Bool) (marks : List Bool) (image : List ℕ) (t : Tree) (block : ℕ) (suspect : Suspect) : Type 0 where
  pub told : TellsSuspect filler marks image t suspect
  pub at : suspect.block ≡ block

abbrev pub blocks_of : List Suspect → List ℕ
blocks_of suspects = map (λ suspect. suspect.block) suspects

-- exactly the suspect blocks, in the order of their numbers, each once
pub record AreSuspects (filler : Bool) (marks : List Bool) (image : List ℕ) (t : Tree) (suspects : List Suspect) : Type 0 where
  pub told : All (TellsSuspect filler marks image t) suspects
  pub every : (block : ℕ) (owner : Owner) → IsSuspect filler marks image t block owner → Contains (blocks_of suspects) block
  pub rising : AllPairs (λ a b. a < b) (blocks_of suspects)

-- the marks of the blocks that a list names in a volume with so many; without a list there are none
abbrev pub AreListMarks : Option (Bor (List ℕ)) → ℕ → List Bool → Type 0
AreListMarks None blocks marks = marks ≡ []
AreListMarks (Some list) blocks marks = (bad : List ℕ) × AreBad blocks (lines_of list.now) bad × AreMarked blocks [] bad marks

-- why there are no marks: a line of the list names no block, or memory ran out
abbrev pub IsListFault : Option (Bor (List ℕ)) → ℕ → BadFault → Type 0
IsListFault None blocks fault = fault ≡ Memory
IsListFault (Some list) blocks fault = IsBadFault blocks (lines_of list.now) fault
