-- What `undelete` prints, and how it ends.
use Rattle.std.proofs.Common.{◌≡◌, ℕ, Bor, inr, true, List, map, Option, Ok, Err, IfErr, OnErr, OnOk, sym, subst}
use Rattle.std.specs.Io.KnownBytes.{Appends}
use Rattle.adf_io.specs.Prefix.{WritesFront}
use Rattle.adf_rescue.specs.declared.undeleting.Undeletion.{Undeletion}
use Rattle.adf_rescue.specs.Undelete.{IsUndeletion, key_of}
use Rattle.adf_cli.specs.declared.query.UndeleteJob.{UndeleteJob}
use Rattle.adf_serve.specs.declared.fault.CommandFault.{CommandFault}
use Rattle.adf_serve.specs.declared.fault.CommandFault.TheVariants.{Output, Undelete}
use Rattle.adf_serve.specs.Commands.{Ending}
use Rattle.adf_serve.specs.Deleted.{DoesUndelete, IsUndeleteEnd}
use Rattle.adf_serve.specs.Faults.{IsNoImage}
use Rattle.adf_serve.specs.Texts.{AreDeletedLines}

-- what is told of an undeletion is that of its image
pub deleted_told : (image : List ℕ) (job : UndeleteJob) (done : Undeletion) → IsUndeletion image (map (λ (word : Bor (List ℕ)). key_of word.now) job.paths.items) job.force job.json done
    → AreDeletedLines job image done.text.items
deleted_told image job done is = record {
  read = is.read;
  is_read = is.is_read;
  trusted = is.trusted;
  found = done.found;
  undeleted = is.found;
  chosen = done.chosen.items;
  are_chosen = is.chosen;
  text_is = is.text;
}

-- a fault of reading the image is none of its bitmap
pub no_image_ends : (fault : CommandFault) → IsNoImage fault → IsUndeleteEnd fault
no_image_ends (Undelete why) is = absurd is
no_image_ends fault is = tt

-- a text about these entries is written, whole or as far as the writer accepts it
pub lines_told : (job : UndeleteJob) (image text : List ℕ) (old new : Option (List ℕ)) (done : Ending) → AreDeletedLines job image text → OnOk done (Appends old new text) → OnErr done (WritesFront old new text)
    → IfErr done (λ fault. fault ≡ Output) → DoesUndelete job old new done
lines_told job image text old new (Ok x) is told front output = (text, told, (image, is))
lines_told job image text old new (Err fault) is told front output =
    subst (λ (f : CommandFault). DoesUndelete job old new (Err f)) (sym output) (tt, inr (text, (true, (image, is)), front))
