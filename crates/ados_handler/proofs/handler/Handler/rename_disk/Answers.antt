use Rattle.std.proofs.Common.{◌≡◌, ℕ, List, Some, refl, sym, ap, ◌∙◌, subst}
use Rattle.ados_handler.proofs.Common.{IsName, first_fault, Stands, disk_renamed, InvalidComponentName, RenameDisk, HandlerState}
use Rattle.ados_handler.proofs.DiskNamed.{no_name_refused, rename_disk_edits}
use Rattle.ados_handler.proofs.Meant.{edit_gives, refused_gives, sound_on}
use Rattle.ados_handler.proofs.Telling.{rename_disk_keeps}
use Rattle.ados_handler.proofs.handler.Handler.rename_disk.Goals as goal

pub returns-in-Err-clause-gives : goal.returns-in-Err-clause-gives
returns-in-Err-clause-gives c =
    let t = c.self.invariant.tree in
    let stood = subst (λ (h : HandlerState). Stands h.image t) c.self.view_is c.self.invariant.stands in
    let alive = sym (ap (λ (h : HandlerState). h.session.died) c.self.view_is) ∙ c.if-self.false in
    let fault : first_fault c.args.name.now ≡ Some c.in-Err.field-0 = ap first_fault (sym c.bytes.ensures.value) ∙ c.in-Err.ensures.fault in
    refused_gives c.args.self.now c.args.self.now (RenameDisk c.args.name.now) c.args.now c.refused-in-Err.result t InvalidComponentName stood refl
    (no_name_refused t c.args.self.now.session c.args.name.now c.in-Err.field-0 alive fault) c.refused-in-Err.ensures

pub returns-clause-gives : goal.returns-clause-gives
returns-clause-gives c =
    let t = c.self.invariant.tree in
    let opened = c.self.invariant.stands in
    let alive = sym (ap (λ (h : HandlerState). h.session.died) c.self.view_is) ∙ c.if-self.false in
    let is = subst IsName c.bytes.ensures.value ((c.in-Ok.ensures.valid).0 refl) in
    let text = c.in-Ok.ensures.ok ∙ c.bytes.ensures.value in
    let stands = subst (λ (x : List ℕ). Stands c.rename_disk.new.self.image (disk_renamed c.args.now x t)) text (c.rename_disk.ensures.stands t opened) in
    edit_gives c.args.self.now _ c.self.view_is (rename_disk_edits t c.args.self.now.session c.args.name.now c.args.now alive is) refl opened
    c.rename_disk.new.self stands c.rename_disk.ensures.keeps c.rename_disk.ensures.validated c.done.result c.done.ensures

pub invariant_of-self : goal.invariant_of-self
invariant_of-self c = sound_on c.self.view_is (returns-clause-gives c) (rename_disk_keeps c.args.name.now c.bytes.ensures.valid) c.self.invariant
