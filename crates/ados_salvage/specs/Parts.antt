-- What the blocks of an image are, as far as a salvage tells of them.
use Rattle.std.specs.Prelude.{◌≡◌, ℕ, ◌+◌, ◌/◌, ◌<◌, List, [], ◌∷◌, ◌++◌, length, map, flat_map, All, AllPairs, Contains, slice_get}
use Rattle.std.specs.Option.{option_map_or}
use Rattle.std.specs.List.{range_with_len}
use Rattle.adf_block.specs.declared.layout.TheConstants.{TABLE_LONGS}
use Rattle.adf_block.specs.Fields.{parent_key}
use Rattle.ados_map.specs.Pages.{page_block, pages_of}
use Rattle.ados_model.specs.Faults.{root_of}
use Rattle.ados_model.specs.File.{data_block, data_blocks, pointer_block}
use Rattle.ados_salvage.specs.declared.giving.Piece.{Piece}
use Rattle.ados_salvage.specs.declared.salvaged.Salvaged.{Salvaged}
use Rattle.ados_salvage.specs.declared.salvaged.State.{State}
use Rattle.ados_salvage.specs.declared.salvaged.State.TheVariants as states
use Rattle.ados_salvage.specs.Salvaged.{Saved}
use Rattle.ados_salvage.specs.Account.{AreUnaccounted, IsOfDamaged, OfOne}
use Rattle.ados_salvage.specs.declared.account.part.Part.{Part}
use Rattle.ados_salvage.specs.declared.account.part.Part.TheVariants.{Boot, Data, Deleted, Extension, Page, Root, Unaccounted}
use Rattle.ados_salvage.specs.declared.account.part.Told.{Told}

-- a boot block, and the root
abbrev pub boot_told : ℕ → Told
boot_told block = record { block = block; part = Boot }

abbrev pub root_told : List ℕ → Told
root_told image = record { block = root_of image; part = Root }

-- each bitmap block that the root names
abbrev pub page_told : List ℕ → ℕ → Told
page_told image p = record { block = page_block image p; part = Page p }

abbrev pub pages_told : List ℕ → List Told
pages_told image = map (page_told image) (range_with_len 0 (pages_of image))

-- each data block of a file, with its position and the block with the pointer to it
abbrev pub data_told : List ℕ → ℕ → ℕ → Told
data_told image file i = record { block = data_block image file i; part = Data file i (pointer_block image file (i / TABLE_LONGS)) }

abbrev pub file_told : List ℕ → ℕ → List Told
file_told image file = map (data_told image file) (range_with_len 0 (length (data_blocks image file)))

-- the data blocks of an entry that is a whole file
abbrev pub state_told : List ℕ → ℕ → State → List Told
state_told image header states.Whole = file_told image header
state_told image header state = []

abbrev pub entry_told : List ℕ → Salvaged → List Told
entry_told image entry = state_told image entry.header entry.state

-- the header of the entry at a position; 0 if there is none
abbrev pub header_at : List Salvaged → ℕ → ℕ
header_at entries place = option_map_or (λ entry. entry.header) (slice_get entries place) 0

-- a block given to a file that is not whole
abbrev pub piece_told : List Salvaged → Piece → Told
piece_told entries piece = record { block = piece.block; part = Data (header_at entries piece.place) piece.at 0 }

-- an extension block of a file that is not whole, which names the header of the file
abbrev pub extension_told : List ℕ → ℕ → Told
extension_told image block = record { block = block; part = Extension (parent_key image block) }

-- these blocks, which are all the same
abbrev pub alike : Part → List ℕ → List Told
alike part blocks = map (λ block. record { block = block; part = part }) blocks

-- these are exactly the blocks with a property, in order, each once
pub record ListsAll (P : ℕ → Type 0) (blocks : List ℕ) : Type 0 where
  pub in_order : AllPairs (λ a b. a < b) blocks
  pub each : All P blocks
  pub all : (block : ℕ) → P block → Contains blocks block

-- the extension blocks of all files that are not whole
abbrev pub AreExtensions : Saved → List ℕ → Type 0
AreExtensions saved blocks = ListsAll (OfOne (IsOfDamaged saved.image) saved.entries) blocks

-- all blocks of which a salvage tells what they are: the two boot blocks, the root, the bitmap blocks, the data blocks of whole files, the blocks given to files that are
-- not whole, the extension blocks of these, the unaccounted blocks, and the headers of deleted entries
pub record TellsBlocks (saved : Saved) (told : List Told) : Type 0 where
  pub extensions : List ℕ
  pub unaccounted : List ℕ
  pub are_extensions : AreExtensions saved extensions
  pub are_unaccounted : AreUnaccounted saved unaccounted
  pub told_are : told ≡ (((((boot_told 0 ∷ boot_told 1 ∷ root_told saved.image ∷ pages_told saved.image) ++ flat_map (entry_told saved.image) saved.entries) ++ map (piece_told saved.entries) saved.given)
      ++ map (extension_told saved.image) extensions) ++ alike Unaccounted unaccounted) ++ alike Deleted saved.deleted
