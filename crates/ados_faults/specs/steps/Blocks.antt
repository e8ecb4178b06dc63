-- Lists of blocks, each once; of those with a secondary type, and of the entries of a directory.
use Rattle.std.specs.Prelude.{◌≡◌, ℕ, ◌+◌, ◌<◌, ◌⊎◌, List, [], ◌∷◌, ◌++◌, Bool, true, false, length, slice_index, slice_get, slice_index_or, Some, All, Contains}
use Rattle.adf_block.specs.Image.{block_count, long}
use Rattle.adf_block.specs.Fields.{secondary_type}
use Rattle.adf_block.specs.declared.layout.TheConstants.{DIRECTORY_TYPE, FIRST_SLOT, NEXT_IN_CHAIN}
use Rattle.ados_model.specs.declared.role.Role.{Role}
use Rattle.ados_model.specs.declared.role.Role.TheVariants.{Root, Entry}
use Rattle.ados_model.specs.Faults.{InImage, IsDirectory, LeadsInside, Reached, root_of}
use Rattle.ados_faults.specs.declared.walk.Step.{Step}

-- the blocks in the list, all inside the image, are those with a set cell
pub record AreMet (image : List ℕ) (has : List Bool) (blocks : List ℕ) : Type 0 where
  pub size : length has ≡ block_count image
  pub inside : All (InImage image) blocks
  pub listed : (block : ℕ) → slice_index_or has block false ≡ true → Contains blocks block
  pub held : (block : ℕ) → Contains blocks block → slice_index_or has block false ≡ true

-- the block was added to the list, unless it is outside the image or was there
abbrev pub IsGrown : List ℕ → ℕ → List ℕ → List ℕ → Type 0
IsGrown image block blocks later = (later ≡ blocks) ⊎ (InImage image block × (later ≡ blocks ++ block ∷ []))

-- the block is an entry of the directory
abbrev pub IsEntryIn : List ℕ → ℕ → ℕ → Type 0
IsEntryIn image dir block = (s : ℕ) × Reached image block (Entry dir s)

-- the root, or an entry that is a directory
abbrev pub HoldsEntries : List ℕ → ℕ → Type 0
HoldsEntries image dir = (dir ≡ root_of image) ⊎ IsDirectory image dir

-- the first blocks of the first chains of a directory are in the list
pub record AreSlotsMet (image : List ℕ) (dir : ℕ) (blocks : List ℕ) (n : ℕ) : Type 0 where
  pub met : (s : ℕ) → s < n → LeadsInside image dir (FIRST_SLOT + s) → Contains blocks (long image dir (FIRST_SLOT + s))

-- the next entries of the first blocks in the list are in the list
pub record AreNextMet (image : List ℕ) (blocks : List ℕ) (n : ℕ) : Type 0 where
  pub met : (k : ℕ) → k < n → k < length blocks → LeadsInside image (slice_index blocks k) NEXT_IN_CHAIN → Contains blocks (long image (slice_index blocks k) NEXT_IN_CHAIN)

-- the list has each entry of the directory, and no other block
pub record AreEntriesOf (image : List ℕ) (dir : ℕ) (blocks : List ℕ) : Type 0 where
  pub entries : All (IsEntryIn image dir) blocks
  pub each : (block s : ℕ) → Reached image block (Entry dir s) → Contains blocks block

-- the block in this role is an entry with the secondary type; the root is one with that of a directory
abbrev pub HasTypeAs : List ℕ → ℕ → ℕ → Role → Type 0
HasTypeAs image kind block Root = kind ≡ DIRECTORY_TYPE
HasTypeAs image kind block (Entry dir s) = secondary_type image block ≡ kind
HasTypeAs image kind block _ = ⊥

-- the block is reached in a role in which it has the secondary type
abbrev pub IsOfType : List ℕ → ℕ → ℕ → Type 0
IsOfType image kind block = ((block ≡ root_of image) × (kind ≡ DIRECTORY_TYPE)) ⊎ ((dir : ℕ) × (s : ℕ) × Reached image block (Entry dir s) × (secondary_type image block ≡ kind))

-- of the first steps, as many as a number says, each block of the type is in the list
pub record AreTypesMet (image : List ℕ) (kind : ℕ) (steps : List Step) (blocks : List ℕ) (n : ℕ) : Type 0 where
  pub met : (k : ℕ) (step : Step) → k < n → slice_get steps k ≡ Some step → HasTypeAs image kind step.block step.role → Contains blocks step.block
