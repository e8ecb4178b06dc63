-- The deleted entries of an image, and what is known of it.
use Rattle.std.specs.Prelude.{◌≡◌, ℕ, false, List, []}
use Rattle.ados_salvage.specs.declared.known.deleted.Deleted.{Deleted}
use Rattle.ados_salvage.specs.declared.known.deleted.DeletedEntries.{DeletedEntries}
use Rattle.ados_salvage.specs.declared.known.deleted.DeletedEntries.TheVariants as answers
use Rattle.ados_salvage.specs.declared.known.image_known.Known.{Known}
use Rattle.ados_salvage.specs.Deleted.{IsTrustedBitmap, ListsDeleted}
use Rattle.ados_salvage.specs.Known.{AreKnown}

-- what is known of the image is right, where no header is left out, nothing is a hole and fillers do not count, and these are its deleted entries
pub record AreFoundIn (image : List ℕ) (known : Known) (deleted : List Deleted) : Type 0 where
  pub same : known.image ≡ image
  pub known_right : AreKnown known
  pub none_left_out : known.left_out ≡ []
  pub none_before : known.before ≡ 0
  pub no_holes : known.holes.items ≡ []
  pub uncounted : known.fillers ≡ false
  pub listed : ListsDeleted image deleted

-- the deleted entries, by a bitmap that is trusted; or that it is not
abbrev pub TellsDeleted : List ℕ → DeletedEntries → Type 0
TellsDeleted image (answers.Found known deleted) = IsTrustedBitmap image × AreFoundIn image known deleted.items
TellsDeleted image (answers.Nothing same) = (same ≡ image) × IsTrustedBitmap image × ListsDeleted image []
TellsDeleted image answers.NoTrustedBitmap = ¬ IsTrustedBitmap image
