use Rattle.ados_faults.proofs.Common.{AreFirstFaults, ListsFaults, ShowsOtherKind}
use Rattle.std.proofs.lemmas.Result.{IfOk-weaker}
use Rattle.ados_faults.specs.declared.listing.AllFaults.{AllFaults}
use Rattle.ados_faults.proofs.listing.all_faults.Goals as goal

pub returns-in-Some-clause-first : goal.returns-in-Some-clause-first
returns-in-Some-clause-first c =
    IfOk-weaker c.kind_alone.result (λ (found : AllFaults). ListsFaults c.args.image.now c.args.most found.faults.items)
    (λ (found : AllFaults). ¬ ShowsOtherKind c.args.image.now → AreFirstFaults c.args.image.now c.args.most found.more found.faults.items)
    (λ found lists other. absurd (other (c.in-Some.kind, c.in-Some.ensures))) c.kind_alone.ensures.lists
