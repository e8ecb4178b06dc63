use Rattle.std.proofs.Common.{sym, subst}
use Rattle.adf_import.specs.steps.Spots.{IsLooked}
use Rattle.adf_import.proofs.saved_look.looked_at.Goals as goal

pub returns-in-Some-get : goal.returns-in-Some-get
returns-in-Some-get c = λ image saved own all.
    let known = c.in-Some-get.ensures.lookup in
    c.at.ensures image saved own (subst (IsLooked image saved own) (sym known.1) (all c.in-Some.item c.in-Some-get.found.now known.3.0))
