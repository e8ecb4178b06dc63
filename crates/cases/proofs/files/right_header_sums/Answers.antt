use Rattle.std.proofs.Common.{ℕ, List, sym, subst}
use Rattle.ados_data.specs.Changing.{WritableFile}
use Rattle.ados_change.proofs.Renewed.{file_writable}
use Rattle.cases.proofs.files.right_header_sums.Goals as goal

pub expect_right_header_sums-requires : goal.expect_right_header_sums-requires
expect_right_header_sums-requires g c =
    subst (λ (image : List ℕ). WritableFile image c.file-file.result) (sym c.into_image-image.ensures.same)
    (file_writable c.file-file.new.volume.image c.file-file.result c.into_image-image.ensures.stands c.file-file.ensures)
