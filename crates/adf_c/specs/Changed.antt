-- The blocks of an image that differ from C's copy.
use Rattle.std.specs.Prelude.{◌≡◌, ◌≢◌, ◌<◌, ◌⊎◌, ⊤, ℕ, ℤ, Bool, not, List, ◌++◌, length, drop, filter, Option, Some, None, Result, MatchResult, bytes_eq}
use Rattle.std.specs.List.{range_with_len}
use Rattle.adf_block.specs.declared.layout.TheConstants.{BLOCK_BYTES}
use Rattle.adf_block.specs.Image.{block_count, bytes_at}
use Rattle.adf_c.specs.Ends.{ComesTo}
use Rattle.adf_c.specs.declared.desk.Desk.{Desk}
use Rattle.adf_c.specs.declared.values.refusal.Refusal.{Refusal}
use Rattle.adf_c.specs.declared.values.refusal.Refusal.TheVariants.{NotAnImage, NoMemory, WrongArgument}

-- the block has other bytes in the image than in the copy
abbrev pub differs : List ℕ → List ℕ → ℕ → Bool
differs copy image block = not (bytes_eq (bytes_at copy block 0 BLOCK_BYTES) (bytes_at image block 0 BLOCK_BYTES))

-- the numbers of these blocks, lowest first
abbrev pub changed_blocks : List ℕ → List ℕ → List ℕ
changed_blocks copy image = filter (differs copy image) (range_with_len 0 (block_count image))

-- the numbers are written to the start of the list, and the copy equals the image
pub record TakesOver (image copy_before copy_after numbers_before numbers_after : List ℕ) (count : ℕ) : Type 0 where
  pub fits : length copy_before ≡ length image
  pub copied : copy_after ≡ image
  pub counted : count ≡ length (changed_blocks copy_before image)
  pub told : numbers_after ≡ changed_blocks copy_before image ++ drop count numbers_before

-- why not: the copy has another length, there is no room for all numbers, or memory ran out
abbrev pub RefusesTaking : List ℕ → List ℕ → List ℕ → Refusal → Type 0
RefusesTaking image copy numbers NotAnImage = ⊥
RefusesTaking image copy numbers NoMemory = ⊤
RefusesTaking image copy numbers WrongArgument = (length copy ≢ length image) ⊎ (length numbers < length (changed_blocks copy image))

-- the result of the update; if it is refused, copy and numbers are unchanged
abbrev pub TakingComes : List ℕ → List ℕ → List ℕ → List ℕ → List ℕ → Result ℕ Refusal → Type 0
TakingComes image copy_before copy_after numbers_before numbers_after result =
    MatchResult result (λ count. TakesOver image copy_before copy_after numbers_before numbers_after count)
    (λ refusal. RefusesTaking image copy_before numbers_before refusal × (copy_after ≡ copy_before) × (numbers_after ≡ numbers_before))

-- the changed blocks of the handle's image are listed
abbrev pub CopiesChanged : Option Desk → List ℕ → List ℕ → List ℕ → List ℕ → ℕ → Type 0
CopiesChanged held copy_before copy_after numbers_before numbers_after count =
    (desk : Desk) × (held ≡ Some desk) × TakesOver desk.handler.image copy_before copy_after numbers_before numbers_after count

-- why not: the handle is closed, or they cannot be listed
abbrev pub RefusesChanged : Option Desk → List ℕ → List ℕ → Refusal → Type 0
RefusesChanged held copy numbers refusal =
    ((refusal ≡ WrongArgument) × (held ≡ None)) ⊎ ((desk : Desk) × (held ≡ Some desk) × RefusesTaking desk.handler.image copy numbers refusal)

-- the result of the listing; if it is refused, copy and numbers are unchanged
abbrev pub ChangedComes : Option Desk → List ℕ → List ℕ → List ℕ → List ℕ → Result ℕ Refusal → Type 0
ChangedComes held copy_before copy_after numbers_before numbers_after result =
    MatchResult result (λ count. CopiesChanged held copy_before copy_after numbers_before numbers_after count)
    (λ refusal. RefusesChanged held copy_before numbers_before refusal × (copy_after ≡ copy_before) × (numbers_after ≡ numbers_before))

-- the same by the status, with the count for C
abbrev pub ChangedEnds : Option Desk → List ℕ → List ℕ → List ℕ → List ℕ → ℕ → ℕ → ℤ → Type 0
ChangedEnds held copy_before copy_after numbers_before numbers_after count_before count =
    ComesTo (CopiesChanged held copy_before copy_after numbers_before numbers_after count)
    (λ refusal. RefusesChanged held copy_before numbers_before refusal
    × (copy_after ≡ copy_before) × (numbers_after ≡ numbers_before) × (count ≡ count_before))
