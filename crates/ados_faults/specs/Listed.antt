-- Faults of an image, in order, and the marks of its blocks.
use Rattle.std.specs.Prelude.{◌≡◌, ℕ, ◌<◌, ◌≤◌, ◌⊎◌, ◌↔◌, Bool, true, false, List, [], ◌∷◌, length, All, AllPairs, Contains, Option, Some}
use Rattle.adf_block.specs.Image.{block_count, long}
use Rattle.ados_check.specs.Marks.{mark_at}
use Rattle.ados_check.specs.declared.mark.Mark.{Mark}
use Rattle.ados_model.specs.declared.fault.FaultKind.{FaultKind}
use Rattle.ados_model.specs.declared.fault.FaultKind.TheVariants.{NotADosDisk, UnsupportedKind, BadSum, BadType, BadOwnKey, BadParent, BadPointer, BlockUsedTwice, WrongChain, BadName, DuplicateName, BadComment, BadCount, BadSequence, LinkEntry, MarkedFree, NoMemory}
use Rattle.ados_model.specs.declared.fault.VolumeFault.{VolumeFault}
use Rattle.ados_model.specs.declared.role.Role.{Role}
use Rattle.ados_model.specs.declared.role.Role.TheVariants.{Root}
use Rattle.ados_model.specs.Faults.{IsPlace, LeadsInside, Reached, Shows, root_of}

-- the number of a kind of fault
abbrev pub rank : FaultKind → ℕ
rank NotADosDisk = 0
rank UnsupportedKind = 1
rank BadSum = 2
rank BadType = 3
rank BadOwnKey = 4
rank BadParent = 5
rank BadPointer = 6
rank BlockUsedTwice = 7
rank WrongChain = 8
rank BadName = 9
rank DuplicateName = 10
rank BadComment = 11
rank BadCount = 12
rank BadSequence = 13
rank LinkEntry = 14
rank MarkedFree = 15
rank NoMemory = 16

-- the first fault is one of a lower block, or of the same block with a kind of lower number
abbrev pub StandsBefore : VolumeFault → VolumeFault → Type 0
StandsBefore fault other = (fault.block < other.block) ⊎ ((fault.block ≡ other.block) × (rank fault.kind < rank other.kind))

-- the list has at most this many faults, all of which the image shows, by block and then by kind, each once
pub record ListsFaults (image : List ℕ) (most : ℕ) (faults : List VolumeFault) : Type 0 where
  pub shown : All (λ fault. Shows image fault.kind fault.block) faults
  pub in_order : AllPairs StandsBefore faults
  pub few : length faults ≤ most

-- the fault of this kind at this block
abbrev pub fault_of : FaultKind → ℕ → VolumeFault
fault_of kind block = record { kind = kind; block = block }

-- each fault that the image shows is in the list
abbrev pub ListsAll : List ℕ → List VolumeFault → Type 0
ListsAll image faults = (kind : FaultKind) (block : ℕ) → Shows image kind block → Contains faults (fault_of kind block)

-- each fault that the image shows is in the list, unless `more` says that there are others
abbrev pub ListsEach : List ℕ → Bool → List VolumeFault → Type 0
ListsEach image more faults = more ≡ false → ListsAll image faults

-- the image shows more than this many faults: they are in some list, by block and then by kind, each once
pub record ShowsMoreThan (image : List ℕ) (most : ℕ) : Type 0 where
  pub faults : List VolumeFault
  pub shown : All (λ fault. Shows image fault.kind fault.block) faults
  pub in_order : AllPairs StandsBefore faults
  pub many : most < length faults

-- each fault that the image shows is in the list, or stands after all of the list
abbrev pub AreTheFirst : List ℕ → List VolumeFault → Type 0
AreTheFirst image faults =
    (kind : FaultKind) (block : ℕ) → Shows image kind block → Contains faults (fault_of kind block) ⊎ All (λ fault. StandsBefore fault (fault_of kind block)) faults

-- the list has the first faults that the image shows. `more` says exactly whether the image shows more than a list may
-- have, and then the list has that many
pub record AreFirstFaults (image : List ℕ) (most : ℕ) (more : Bool) (faults : List VolumeFault) : Type 0 where
  pub first : AreTheFirst image faults
  pub full : more ≡ true → length faults ≡ most
  pub exact : (more ≡ true) ↔ ShowsMoreThan image most

-- the image shows by a fault of this kind that it is no DOS disk, or one of an unsupported kind
pub record IsOtherKind (image : List ℕ) (kind : FaultKind) : Type 0 where
  pub of_boot : (kind ≡ NotADosDisk) ⊎ (kind ≡ UnsupportedKind)
  pub shown : Shows image kind 0

-- the image is no DOS disk, or one of an unsupported kind
abbrev pub ShowsOtherKind : List ℕ → Type 0
ShowsOtherKind image = (kind : FaultKind) × IsOtherKind image kind

-- if the image is no DOS disk, or one of an unsupported kind, the list has this one fault, and there are no more
abbrev pub ListsKindAlone : List ℕ → Bool → List VolumeFault → Type 0
ListsKindAlone image more faults = (kind : FaultKind) → IsOtherKind image kind → (faults ≡ fault_of kind 0 ∷ []) × (more ≡ false)

-- the list is what `all_faults` returns: of a disk of another kind that fault alone; of any other the first faults that it
-- shows, at most so many, and all of them unless `more` says that there are others
pub record AreAllFaults (image : List ℕ) (most : ℕ) (more : Bool) (faults : List VolumeFault) : Type 0 where
  pub alone : ListsKindAlone image more faults
  pub each : ¬ ShowsOtherKind image → ListsEach image more faults
  pub first : ¬ ShowsOtherKind image → AreFirstFaults image most more faults

-- for each block of an image its mark, if it has one
abbrev pub Marks : Type 0
Marks = List (Option Mark)

-- the mark of the root
abbrev pub root_mark : Mark
root_mark = record { role = Root; holder = 0; long = 0 }

-- the place in the mark is one of a reached block, names the block, and gives it the role of the mark
pub record IsNamedAs (image : List ℕ) (block : ℕ) (mark : Mark) : Type 0 where
  pub of_holder : Role
  pub reached : Reached image mark.holder of_holder
  pub place : IsPlace image mark.holder of_holder mark.long mark.role
  pub names : long image mark.holder mark.long ≡ block

-- the block has a mark
abbrev pub IsMarked : Marks → ℕ → Type 0
IsMarked marks block = (mark : Mark) × (mark_at marks block ≡ Some mark)

-- each block of the image that a place of a marked block names, in the role of its mark, has a mark too. So each block
-- that is reached from the root along these roles has one
abbrev pub AreClosed : List ℕ → Marks → Type 0
AreClosed image marks =
    (block i : ℕ) (mark : Mark) (next : Role) → mark_at marks block ≡ Some mark → IsPlace image block mark.role i next → LeadsInside image block i
    → IsMarked marks (long image block i)

-- the root is marked as such, the mark of each other block has a place that names it, and what a marked block names is
-- marked
pub record AreMarks (image : List ℕ) (marks : Marks) : Type 0 where
  pub size : length marks ≡ block_count image
  pub root : mark_at marks (root_of image) ≡ Some root_mark
  pub named : (block : ℕ) (mark : Mark) → mark_at marks block ≡ Some mark → (block ≡ root_of image) ⊎ IsNamedAs image block mark
  pub closed : AreClosed image marks
