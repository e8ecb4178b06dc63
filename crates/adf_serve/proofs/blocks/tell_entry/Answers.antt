use Rattle.std.proofs.Common.{ℕ, List, subst, sym}
use Rattle.ados_model.specs.Stands.{Stands}
use Rattle.ados_model.specs.Tree.{Tree}
use Rattle.ados_volume.specs.Shown.{Shown}
use Rattle.adf_where.specs.Own.{IsWhereOf}
use Rattle.adf_serve.specs.declared.fault.CommandFault.TheVariants.{Memory}
use Rattle.adf_serve.specs.Texts.{AreEntryBlocks}
use Rattle.adf_serve.proofs.Printing.{entry_told, tells_unlisted, told_text}
use Rattle.adf_serve.proofs.blocks.tell_entry.Goals as goal

pub returns-in_err-key : goal.returns-in_err-key
returns-in_err-key g c =
    tells_unlisted (AreEntryBlocks c.args.json c.args.path.now) (AreEntryBlocks c.args.json c.args.path.now) c.args.image _ c.in_err-key.field-0.0 _
    c.in_err-key.ensures.fault c.from_residual-in_err-key.ensures.1

pub returns-in_err-text : goal.returns-in_err-text
returns-in_err-text g c = tells_unlisted (AreEntryBlocks c.args.json c.args.path.now) (AreEntryBlocks c.args.json c.args.path.now) c.args.image _ Memory _ tt c.from_residual-in_err-text.ensures.1

pub returns : goal.returns
returns g c =
    let volume = c.in_ok-volume.volume in
    let same : (t : Tree) → Stands volume.image t → IsWhereOf c.args.json volume.image t c.in_ok-key.key c.in_ok-text.text.items =
    subst (λ (v : Shown). (t : Tree) → Stands v.image t → IsWhereOf c.args.json v.image t c.in_ok-key.key c.in_ok-text.text.items) c.in_ok-key.ensures.same c.in_ok-text.ensures in
    let told = subst (λ (text : List ℕ). (t : Tree) → Stands volume.image t → IsWhereOf c.args.json volume.image t c.in_ok-key.key text) (sym c.deref.ensures.value) same in
    told_text (AreEntryBlocks c.args.json c.args.path.now) c.args.image _ _ c.deref.result.now c.tell.result
    (entry_told c.args.image _ _ c.in_ok-volume.ensures c.args.json c.args.path.now c.in_ok-key.key _ c.in_ok-key.ensures.listed told)
    c.tell.ensures.ok c.tell.ensures.front c.tell.ensures.no_refusal
