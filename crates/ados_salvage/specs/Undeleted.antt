-- The deleted entries of an image with the directories that they were in.
use Rattle.std.specs.Prelude.{◌≡◌, ℕ, ◌⊎◌, ◌<◌, List, [], length, slice_index, slice_index_or, false, All, Contains, Option, Some, None, IsSome}
use Rattle.ados_salvage.specs.Deleted.{IsDeleted, IsTrustedBitmap, ListsDeleted}
use Rattle.ados_salvage.specs.declared.undeleted.Undeleted.{Undeleted}
use Rattle.ados_salvage.specs.declared.undeleted.UndeletedEntries.{UndeletedEntries}
use Rattle.ados_salvage.specs.declared.undeleted.UndeletedEntries.TheVariants as answers
use Rattle.ados_model.specs.Accepted.{ShowsNoFault}
use Rattle.ados_salvage.specs.Kind.{IsReadAs}
use Rattle.ados_salvage.specs.Salvaged.{IsTold, headers_of}

-- the position among these headers of each block that is one of them
pub record ArePlaces (headers : List ℕ) (places : List (Option ℕ)) : Type 0 where
  pub placed : (i : ℕ) → i < length headers → slice_index_or places (slice_index headers i) None ≡ Some i
  pub among : (block : ℕ) → IsSome (slice_index_or places block None) → Contains headers block

-- the deleted entries of the image, and entries with the fields of their headers, which have each of them
pub record IsUndeleted (image : List ℕ) (found : Undeleted) : Type 0 where
  pub same : found.salvage.image ≡ image
  pub deleted : ListsDeleted image found.deleted.items
  pub told : All (IsTold [] [] false image) found.salvage.entries
  pub places : ArePlaces (headers_of found.salvage.entries) found.places.items
  pub there : (block : ℕ) → IsDeleted image block → IsSome (slice_index_or found.places.items block None)

-- the image as its deleted entries are read: as it is if it shows no fault, and else with the kind that its evidence says
abbrev pub IsRead : List ℕ → List ℕ → Type 0
IsRead image read = (ShowsNoFault image × (read ≡ image)) ⊎ IsReadAs image read

-- the deleted entries, by a bitmap that is trusted; or that it is not
abbrev pub TellsUndeleted : List ℕ → UndeletedEntries → Type 0
TellsUndeleted image (answers.Found found) = IsTrustedBitmap image × IsUndeleted image found
TellsUndeleted image answers.NoTrustedBitmap = ¬ IsTrustedBitmap image
