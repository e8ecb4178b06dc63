use Rattle.std.proofs.Common.{ℕ, Bool, List, subst}
use Rattle.std.proofs.lemmas.Result.{IfOk-weaker}
use Rattle.ados_salvage.proofs.AccountCommon.{Adds, HasNoMarks, IsMarked, IsOfDamaged, OfOne}
use Rattle.ados_salvage.proofs.Telling.{are_extensions}
use Rattle.ados_salvage.specs.Parts.{AreExtensions, ListsAll}
use Rattle.ados_salvage.specs.declared.salvaged.Salvaged.{Salvaged}
use Rattle.ados_salvage.proofs.account.blocks.damaged_extensions.Goals as goal

pub returns : goal.returns
returns c =
    let same = c.image-image.ensures.image in
    IfOk-weaker c.marked_blocks.result (λ blocks. ListsAll (IsMarked c.deref.result.now) blocks.items) (λ blocks. AreExtensions c.args.salvage.now blocks.items)
    (λ blocks lists. are_extensions c.args.salvage.now c.in_ok-marks.marks.items c.mark_extensions.new.marks.items blocks.items
    (subst (λ (image : List ℕ). HasNoMarks image c.in_ok-marks.marks.items) same c.in_ok-marks.ensures)
    (subst (λ (image : List ℕ). Adds (OfOne (IsOfDamaged image) c.args.salvage.now.entries) c.in_ok-marks.marks.items c.mark_extensions.new.marks.items) same
    (subst (λ (entries : List Salvaged). Adds (OfOne (IsOfDamaged c.image-image.result.now) entries) c.in_ok-marks.marks.items c.mark_extensions.new.marks.items) c.entries.ensures c.in_ok-mark_extensions.ensures))
    (subst (λ (marks : List Bool). ListsAll (IsMarked marks) blocks.items) c.deref.ensures.value lists))
    c.marked_blocks.ensures
