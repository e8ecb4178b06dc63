use Rattle.std.proofs.Common.{ℕ, List, inl, refl, subst}
use Rattle.std.specs.String.{string_bytes}
use Rattle.ados_name.specs.declared.stamp.Date3.{Date3}
use Rattle.adf_c.specs.Names.{IsNoteOf}
use Rattle.adf_c.specs.Buffers.{Puts}
use Rattle.adf_c.proofs.notes.jip_lib_uaem_line.Goals as goal

pub returns-in-Ok : goal.returns-in-Ok
returns-in-Ok c =
    let line = string_bytes c.in-Ok.line in
    let dated = subst (λ (d : Date3). IsNoteOf c.args.bits d c.args.comment.now line) c.date.ensures c.in-Ok.ensures in
    let puts = subst (λ (bytes : List ℕ). Puts bytes c.args.to.now c.put.new.to c.put.result) c.as_bytes.ensures.value c.put.ensures in
    inl (refl, (line, dated, puts))
