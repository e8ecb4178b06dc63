-- The steps of a walk, and the roles that they cover.
use Rattle.std.specs.Prelude.{◌≡◌, ◌≢◌, ℕ, ◌+◌, ◌*◌, ◌==◌, ◌⊎◌, not, List, Bool, true, false, Option, Some, None, slice_get, slice_index_or}
use Rattle.ados_model.specs.declared.role.Role.{Role}
use Rattle.ados_model.specs.declared.role.Role.TheVariants.{Root, Page, Entry, Data, Extension}
use Rattle.ados_model.specs.Faults.{Reached, root_of}
use Rattle.ados_faults.specs.declared.roles.Part.{Part}
use Rattle.ados_faults.specs.declared.roles.Part.TheVariants.{Bitmap, Directory, Slot, DataFile, ExtensionFile}
use Rattle.ados_faults.specs.declared.roles.Taken.{Taken}
use Rattle.ados_faults.specs.declared.roles.Taken.TheVariants.{Nothing, One, Two}
use Rattle.ados_faults.specs.declared.walk.Step.{Step}

-- the step stands in the list
abbrev pub IsListed : List Step → Step → Type 0
IsListed steps step = (k : ℕ) × (slice_get steps k ≡ Some step)

-- the block in this role
abbrev pub step_of : ℕ → Role → Step
step_of block role = record { block = block; role = role }

-- the root with its role
abbrev pub root_step : ℕ → Step
root_step root = step_of root Root

-- the number that a role has in a part, if it has one
abbrev pub number_of : Part → Role → Option ℕ
number_of Bitmap Page = Some 0
number_of Directory (Entry dir s) = Some dir
number_of Slot (Entry dir s) = Some s
number_of DataFile (Data file) = Some file
number_of ExtensionFile (Extension file) = Some file
number_of _ _ = None

-- a step of the block has this number in the part
pub record HasNumber (steps : List Step) (block : ℕ) (part : Part) (n : ℕ) : Type 0 where
  pub role : Role
  pub listed : IsListed steps (step_of block role)
  pub number : number_of part role ≡ Some n

-- two steps of the block have two numbers in the part
pub record HasTwo (steps : List Step) (block : ℕ) (part : Part) : Type 0 where
  pub first : ℕ
  pub second : ℕ
  pub apart : first ≢ second
  pub one : HasNumber steps block part first
  pub other : HasNumber steps block part second

-- a step of the block has this number in the part, or two have two others
abbrev pub IsCovered : List Step → ℕ → Part → ℕ → Type 0
IsCovered steps block part n = HasNumber steps block part n ⊎ HasTwo steps block part

-- each number of the role is covered
pub record AreCoveredBy (steps : List Step) (block : ℕ) (role : Role) : Type 0 where
  pub covered : (part : Part) (n : ℕ) → number_of part role ≡ Some n → IsCovered steps block part n

-- the root is a step, and each number of each role in which a block is reached is covered
pub record AreCovered (image : List ℕ) (steps : List Step) : Type 0 where
  pub root : IsListed steps (root_step (root_of image))
  pub covered : (block : ℕ) (role : Role) → Reached image block role → AreCoveredBy steps block role

-- the number of a part
abbrev pub part_rank : Part → ℕ
part_rank Bitmap = 0
part_rank Directory = 1
part_rank Slot = 2
part_rank DataFile = 3
part_rank ExtensionFile = 4

-- what was taken of a part of a block
abbrev pub taken_at : List Taken → ℕ → Part → Taken
taken_at cells block part = slice_index_or cells (5 * block + part_rank part) Nothing

-- the number is new
abbrev pub lacks : ℕ → Taken → Bool
lacks n Nothing = true
lacks n (One m) = not (m == n)
lacks n Two = false

-- one number more
abbrev pub with_number : ℕ → Taken → Taken
with_number n Nothing = One n
with_number n (One m) = Two
with_number n Two = Two

-- the steps have the numbers that were taken
abbrev pub IsBacked : List Step → ℕ → Part → Taken → Type 0
IsBacked steps block part Nothing = Unit {0}
IsBacked steps block part (One n) = HasNumber steps block part n
IsBacked steps block part Two = HasTwo steps block part

-- the steps have all numbers that were taken, of each block and part
pub record AreBacked (cells : List Taken) (steps : List Step) : Type 0 where
  pub backed : (block : ℕ) (part : Part) → IsBacked steps block part (taken_at cells block part)
