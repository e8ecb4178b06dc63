use Rattle.std.proofs.Common.{ℕ, List, sym, subst}
use Rattle.ados_model.specs.File.{LawfulFile}
use Rattle.ados_change.proofs.Renewed.{file_writable}
use Rattle.cases.proofs.files.read_at_the_end.Goals as goal

pub expect_end-requires : goal.expect_end-requires
expect_end-requires g c =
    subst (λ (image : List ℕ). LawfulFile image c.file-file.result) (sym c.image.ensures.same)
    (file_writable c.file-file.new.volume.image c.file-file.result c.image.ensures.stands c.file-file.ensures).lawful
