use Rattle.std.proofs.Common.{ℕ, List, subst, sym}
use Rattle.ados_model.specs.Stands.{Stands}
use Rattle.ados_model.specs.Tree.{Tree}
use Rattle.adf_serve.specs.declared.fault.CommandFault.TheVariants.{Memory}
use Rattle.adf_serve.specs.Texts.{IsLook, IsLookText}
use Rattle.adf_serve.proofs.Printing.{looked, tells_unlisted, told_text}
use Rattle.adf_serve.proofs.look.tell_look.Goals as goal

pub returns-in_err-text : goal.returns-in_err-text
returns-in_err-text g c = tells_unlisted (IsLookText c.args.styled c.args.json) (IsLookText c.args.styled c.args.json) c.args.image _ Memory _ tt c.from_residual-in_err-text.ensures.1

pub returns : goal.returns
returns g c =
    let volume = c.in_ok-volume.volume in
    let told = subst (λ (text : List ℕ). (t : Tree) → Stands volume.image t → IsLook c.args.styled c.args.json volume.was_validated volume.image t text) (sym c.deref.ensures.value) c.in_ok-text.ensures in
    told_text (IsLookText c.args.styled c.args.json) c.args.image _ _ c.deref.result.now c.tell.result (looked c.args.image _ _ c.in_ok-volume.ensures c.args.styled c.args.json _ told)
    c.tell.ensures.ok c.tell.ensures.front c.tell.ensures.no_refusal
