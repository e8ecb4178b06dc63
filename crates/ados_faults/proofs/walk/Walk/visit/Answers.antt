use Rattle.ados_faults.proofs.Common.{ap, refl, sym, subst, ◌∙◌, false≢true, SourceView, InImage, IsPlace}
use Rattle.ados_model.specs.Faults.HasBadPointer.{outside}
use Rattle.ados_faults.proofs.Insides.{named_at}
use Rattle.ados_faults.proofs.walk.Walk.visit.Goals as goal

pub note-requires-clause-shown : goal.note-requires-clause-shown
note-requires-clause-shown c =
    let place = subst (λ (s : SourceView). IsPlace s.bytes c.args.step.block c.args.step.role c.args.i c.in-Some.role) c.whole-source.ensures ((c.in-Some.ensures c.in-Some.role).0 refl) in
    outside c.requires.step.reached place (λ inside. false≢true (sym c.if-not-is_inside.true ∙ c.is_inside.ensures.1 (subst (InImage c.args.image.now) (sym c.long-block.ensures) inside)))

pub mark-requires-clause-reached : goal.mark-requires-clause-reached
mark-requires-clause-reached c =
    named_at c.args.image.now c.whole-source.result.bytes c.args.step.block c.args.i c.long-block.result c.args.step.role c.in-Some.role c.requires.step.reached (ap (λ (s : SourceView). s.bytes) c.whole-source.ensures)
    ((c.in-Some.ensures c.in-Some.role).0 refl) c.long-block.ensures (c.if-not-is_inside.ensures.0 refl)

pub take-requires-clause-reached : goal.take-requires-clause-reached
take-requires-clause-reached c =
    named_at c.args.image.now c.whole-source.result.bytes c.args.step.block c.args.i c.long-block.result c.args.step.role c.in-Some.role c.requires.step.reached (ap (λ (s : SourceView). s.bytes) c.whole-source.ensures)
    ((c.in-Some.ensures c.in-Some.role).0 refl) c.long-block.ensures (c.if-not-is_inside.ensures.0 refl)
