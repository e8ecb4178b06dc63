use Rattle.std.proofs.Common.{ℕ, List, sym, subst, ◌∙◌}
use Rattle.std.specs.String.{string_bytes}
use Rattle.adf_serve.specs.Explained.{IsDeniedPath}
use Rattle.adf_serve.proofs.Denied.{printed_as, printed_below}
use Rattle.adf_serve.proofs.explaining.denied.Goals as goal

pub returns-then-not-deletes_all : goal.returns-then-not-deletes_all
returns-then-not-deletes_all c = printed_as c.args.change.now c.args.volume.now.image c.args.refused c.plain.result.refused c.plain.ensures

pub returns-in-Some : goal.returns-in-Some
returns-in-Some c =
    let below = subst (λ (word : List ℕ). IsDeniedPath c.args.volume.now.image word (string_bytes c.in-Some.path)) c.as_str.ensures.value c.in-Some.ensures in
    printed_below c.args.change.now c.args.volume.now.image c.args.refused c.in-Some.path c.plain-in-Some.result.refused c.plain-in-Some.ensures
    (sym c.deletes_all.ensures ∙ cc c.if-not-deletes_all.false) c.requires below

pub returns-in-None : goal.returns-in-None
returns-in-None c = printed_as c.args.change.now c.args.volume.now.image c.args.refused c.plain-in-None.result.refused c.plain-in-None.ensures
