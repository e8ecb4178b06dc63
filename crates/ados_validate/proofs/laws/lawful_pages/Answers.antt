use Rattle.ados_validate.proofs.PageFaults.{mendable_has_pages}
use Rattle.ados_validate.proofs.Widened.{validated_has_pages}
use Rattle.ados_validate.proofs.laws.lawful_pages.Goals as goal

pub returns-clause-mendable : goal.returns-clause-mendable
returns-clause-mendable c = mendable_has_pages

pub returns-clause-validated : goal.returns-clause-validated
returns-clause-validated c = validated_has_pages
