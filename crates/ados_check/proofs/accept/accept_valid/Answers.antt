use Rattle.ados_check.proofs.Common.{List, ℕ, ap, subst, IsImage, AreInUse, SourceView}
use Rattle.ados_check.proofs.Accepted.{checked_is_accepted}
use Rattle.ados_check.proofs.accept.accept_valid.Goals as goal

pub returns-in-None-clause-answer : goal.returns-in-None-clause-answer
returns-in-None-clause-answer c =
    let same = ap (λ (source : SourceView). source.bytes) c.whole.ensures in
    checked_is_accepted c.args.image c.args.marks.now (subst (λ (bytes : List ℕ). IsImage bytes) same c.in-None.ensures.image) c.requires.checked c.requires.valid
    (subst (λ (bytes : List ℕ). AreInUse bytes c.args.marks.now) same c.in-None.ensures.found)

pub returns-in-None-clause-stands : goal.returns-in-None-clause-stands
returns-in-None-clause-stands c =
    let same = ap (λ (source : SourceView). source.bytes) c.whole.ensures in
    let accepted = checked_is_accepted c.args.image c.args.marks.now (subst (λ (bytes : List ℕ). IsImage bytes) same c.in-None.ensures.image) c.requires.checked c.requires.valid
    (subst (λ (bytes : List ℕ). AreInUse bytes c.args.marks.now) same c.in-None.ensures.found) in
    accepted.3
