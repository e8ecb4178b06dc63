-- The small steps of a change: a block is allocated, attached, or made the last one.
use Rattle.std.specs.Prelude.{◌≡◌, ◌≢◌, ℕ, ◌+◌, ◌-◌, ◌*◌, ◌/◌, ◌%◌, ◌<◌, ◌⊎◌, List, false}
use Rattle.adf_block.specs.declared.layout.TheConstants.{BLOCK_BYTES, PRIMARY_TYPE, OWN_KEY, DATA_TYPE, TABLE_LONGS, POINTER_COUNT, FIRST_POINTER, FILE_SIZE, NEXT_EXTENSION, SEQUENCE, HELD, NEXT_DATA, OFS_ROOM}
use Rattle.adf_block.specs.declared.layout.Format.{Format}
use Rattle.adf_block.specs.declared.layout.Format.TheVariants.{Ofs}
use Rattle.adf_block.specs.Image.{byte_at, long, block_sum, has_free_bit}
use Rattle.adf_block.specs.Whole.{free_bit_count}
use Rattle.adf_block.specs.Frame.{SameBut}
use Rattle.ados_map.specs.Pages.{LawfulPages, page_block, page_of, HasBit, IsLowestFree}
use Rattle.ados_map.specs.Changes.{MapPlace}
use Rattle.ados_model.specs.Stands.{HasExtension}
use Rattle.ados_data.specs.steps.Edits.{AtField, AtFields, AtExtensionFields, AtDataFields}

-- the lowest free block was allocated, and all its bytes are 0; nothing else changed but its bit
pub record IsNewBlock (old : List ℕ) (b : ℕ) (new : List ℕ) : Type 0 where
  pub lowest : IsLowestFree old b
  pub marked : has_free_bit new b ≡ false
  pub others : (j : ℕ) → HasBit old j → j ≢ b → has_free_bit new j ≡ has_free_bit old j
  pub count : free_bit_count new + 1 ≡ free_bit_count old
  pub page_sum : block_sum new (page_block old (page_of b)) ≡ 0
  pub pages : LawfulPages new
  pub empty : (k : ℕ) → k < BLOCK_BYTES → byte_at new b k ≡ 0
  pub rest : SameBut (λ c k. MapPlace old b c k ⊎ (c ≡ b)) old new

-- extension block e, empty before and without pointers, follows the last pointer block `holder`; their checksums are
-- right
pub record IsExtended (old : List ℕ) (file holder e : ℕ) (new : List ℕ) : Type 0 where
  pub fields : HasExtension new file e
  pub no_pointers : long new e POINTER_COUNT ≡ 0
  pub no_next : long new e NEXT_EXTENSION ≡ 0
  pub link : long new holder NEXT_EXTENSION ≡ e
  pub sum : block_sum new holder ≡ 0
  pub rest : SameBut (λ c k. AtExtensionFields e c k ⊎ AtField holder NEXT_EXTENSION c k) old new

-- the link to the next data block in the last one; only OFS has it
abbrev pub AtLink : Format → ℕ → ℕ → ℕ → ℕ → Type 0
AtLink format count last c k = (format ≡ Ofs) × (0 < count) × AtField last NEXT_DATA c k

-- the bytes that change with data block b: its fields, the link to it, its pointer and their number, and the first
-- data block
abbrev pub AtNewData : Format → ℕ → ℕ → ℕ → ℕ → ℕ → ℕ → ℕ → Type 0
AtNewData format file holder last count b c k =
    AtDataFields format b c k
    ⊎ (AtLink format count last c k
    ⊎ (AtFields holder (FIRST_POINTER - count % TABLE_LONGS) POINTER_COUNT c k ⊎ AtField file NEXT_DATA c k))

-- data block b, empty before and without data, follows the file's count data blocks, the last of which was `last`; its
-- pointer is in `holder`; the checksums of the header and of b are right, and other right ones stay right
pub record IsLengthened (old : List ℕ) (format : Format) (file holder last count b : ℕ) (new : List ℕ) : Type 0 where
  pub pointer : long new holder (FIRST_POINTER - count % TABLE_LONGS) ≡ b
  pub counted : long new holder POINTER_COUNT ≡ count % TABLE_LONGS + 1
  pub holder_sum : block_sum old holder ≡ 0 → block_sum new holder ≡ 0
  pub new_first : count ≡ 0 → long new file NEXT_DATA ≡ b
  pub first : 0 < count → long new file NEXT_DATA ≡ long old file NEXT_DATA
  pub file_sum : block_sum new file ≡ 0
  pub link : format ≡ Ofs → 0 < count → long new last NEXT_DATA ≡ b
  pub last_sum : format ≡ Ofs → 0 < count → block_sum old last ≡ 0 → block_sum new last ≡ 0
  pub primary : format ≡ Ofs → long new b PRIMARY_TYPE ≡ DATA_TYPE
  pub header : format ≡ Ofs → long new b OWN_KEY ≡ file
  pub sequence : format ≡ Ofs → long new b SEQUENCE ≡ count + 1
  pub held : long new b HELD ≡ 0
  pub next : long new b NEXT_DATA ≡ 0
  pub sum : format ≡ Ofs → block_sum new b ≡ 0
  pub rest : SameBut (AtNewData format file holder last count b) old new

-- the fields of the last data block that depend on the size; only OFS has them
abbrev pub AtEnd : Format → ℕ → ℕ → ℕ → ℕ → Type 0
AtEnd format count last c k = (format ≡ Ofs) × (0 < count) × AtFields last HELD NEXT_DATA c k

-- the bytes that change with the size: those fields, the number of pointers and the link in the last pointer block,
-- and the first data block and the size in the header
abbrev pub AtResized : Format → ℕ → ℕ → ℕ → ℕ → ℕ → ℕ → Type 0
AtResized format file holder last count c k =
    AtEnd format count last c k ⊎ (AtFields holder POINTER_COUNT NEXT_EXTENSION c k ⊎ AtFields file NEXT_DATA FILE_SIZE c k)

-- the file has this size and count data blocks; `last` is the last one, and its pointer is in the last pointer block
-- `holder`; the checksum of the header is right, and other right ones stay right
pub record IsResized (old : List ℕ) (format : Format) (file holder last count size : ℕ) (new : List ℕ) : Type 0 where
  pub counted : long new holder POINTER_COUNT ≡ count - TABLE_LONGS * ((count - 1) / TABLE_LONGS)
  pub no_next : long new holder NEXT_EXTENSION ≡ 0
  pub holder_sum : block_sum old holder ≡ 0 → block_sum new holder ≡ 0
  pub sized : long new file FILE_SIZE ≡ size
  pub no_first : count ≡ 0 → long new file NEXT_DATA ≡ 0
  pub first : 0 < count → long new file NEXT_DATA ≡ long old file NEXT_DATA
  pub file_sum : block_sum new file ≡ 0
  pub held : format ≡ Ofs → 0 < count → long new last HELD ≡ size - OFS_ROOM * (count - 1)
  pub last_next : format ≡ Ofs → 0 < count → long new last NEXT_DATA ≡ 0
  pub last_sum : format ≡ Ofs → 0 < count → block_sum old last ≡ 0 → block_sum new last ≡ 0
  pub rest : SameBut (AtResized format file holder last count) old new

-- there is room for one more pointer after the count pointers of a file, in pointer block `result`: the last one, or a
-- new one after it if the last is full
pub record HasPointerRoom (old : List ℕ) (file holder count result : ℕ) (new : List ℕ) : Type 0 where
  pub kept : (count ≡ 0) ⊎ (count % TABLE_LONGS ≢ 0) → (new ≡ old) × (result ≡ holder)
  pub extended : 0 < count → count % TABLE_LONGS ≡ 0 → (mid : List ℕ) × IsNewBlock old result mid × IsExtended mid file holder result new
