use Rattle.std.proofs.Common.{rules, ◌≡◌, ◌==◌, true, length, Option, Some, MatchOption, sym, subst}
use Rattle.adf_serve.specs.Rescues.{IsMended}
use Rattle.adf_serve.proofs.rescue_out.write_out.Goals as goal

-- what holds of a file that there is
at_some : {X : Type 0} (out : Option X) (file : X) (P Q : Type 0) → out ≡ Some file → Q → MatchOption out P (λ it. Q)
at_some out file P Q is q = subst (λ o. MatchOption o P (λ it. Q)) (sym is) q

pub returns-clause-mended : goal.returns-clause-mended
returns-clause-mended g c =
    let saved = c.in_ok-saved.saved in
    let made = c.in_ok-saved.ensures.made in
    let is_all : c.is_empty.result ≡ (length saved.left.items == 0) = search rules in
    let mended : IsMended c.args.rescue.now.salvage c.is_empty.result = record { moment = made.0; image = saved.volume.image; own = saved.own; left = saved.left.items; made = made.1; is_all = is_all } in
    at_some c.args.out c.in-Some.field-0 (c.is_empty.result ≡ true) (IsMended c.args.rescue.now.salvage c.is_empty.result) c.in-Some.is mended
