use Rattle.std.proofs.Common.{◌≡◌, ℕ, ◌⊎◌, List, subst}
use Rattle.ados_salvage.proofs.AccountCommon.{root_of, IsPage, Adds, HasNoMarks, IsOfDamaged, IsOwn, IsPieceBlock, OfOne}
use Rattle.ados_salvage.specs.declared.giving.Piece.{Piece}
use Rattle.ados_salvage.specs.declared.salvaged.Salvaged.{Salvaged}
use Rattle.ados_salvage.proofs.AllKinds.{all_accounted}
use Rattle.ados_salvage.proofs.account.accounted.accounted_marks.Goals as goal

pub returns : goal.returns
returns c =
    let none = c.in_ok-marks.marks.items in
    let extensions = c.mark_extensions.new.marks.items in
    let own = c.mark_entries.new.marks.items in
    let pieces = c.mark_pieces.new.marks.items in
    let all = c.mark_volume.new.marks.items in
    let same = c.image-image.ensures.image in
    all_accounted c.args.salvage.now none extensions own pieces all (subst (λ (image : List ℕ). HasNoMarks image c.in_ok-marks.marks.items) same c.in_ok-marks.ensures)
    (subst (λ (image : List ℕ). Adds (OfOne (IsOfDamaged image) c.args.salvage.now.entries) c.in_ok-marks.marks.items c.mark_extensions.new.marks.items) same
    (subst (λ (entries : List Salvaged). Adds (OfOne (IsOfDamaged c.image-image.result.now) entries) c.in_ok-marks.marks.items c.mark_extensions.new.marks.items) c.entries.ensures c.in_ok-mark_extensions.ensures))
    (subst (λ (image : List ℕ). Adds (OfOne (IsOwn image) c.args.salvage.now.entries) c.mark_extensions.new.marks.items c.mark_entries.new.marks.items) same
    (subst (λ (entries : List Salvaged). Adds (OfOne (IsOwn c.image-image.result.now) entries) c.mark_extensions.new.marks.items c.mark_entries.new.marks.items) c.entries-2.ensures c.mark_entries.ensures))
    (subst (λ (given : List Piece). Adds (OfOne IsPieceBlock given) c.mark_entries.new.marks.items c.mark_pieces.new.marks.items) c.pieces.ensures c.mark_pieces.ensures)
    (subst (λ (image : List ℕ). Adds (λ (b : ℕ). (b ≡ root_of image) ⊎ IsPage image b) c.mark_pieces.new.marks.items c.mark_volume.new.marks.items) same c.mark_volume.ensures)
