use Rattle.std.proofs.Common.{inl, inr, ap, sym, ◌∙◌}
use Rattle.std.proofs.KnownBytes.{Keeps-refl}
use Rattle.adf_block.specs.Image.{block_count}
use Rattle.adf_serve.specs.Mapped.{IsBareMap, IsMapReport}
use Rattle.adf_serve.specs.Placed.{MayEnd}
use Rattle.adf_serve.proofs.Marks.{marks_of}
use Rattle.adf_serve.proofs.Printing.{kind_shown, refusal_shown, report_ends, reports_no_image}
use Rattle.adf_serve.proofs.map.tell_map.Goals as goal

pub returns-in_err-image : goal.returns-in_err-image
returns-in_err-image g c =
    reports_no_image (IsMapReport c.args.job.now) IsBareMap MayEnd _ c.in_err-image.field-0.0 _ (λ bytes refusal size. (bytes, inl size)) (λ told is. tt) c.in_err-image.ensures
    c.from_residual.ensures.1

pub returns-in_err-unread : goal.returns-in_err-unread
returns-in_err-unread g c =
    reports_no_image (IsMapReport c.args.job.now) IsBareMap MayEnd _ c.in_err-unread.field-0.0 _ (λ bytes refusal size. (bytes, inl size)) (λ told is. tt) c.in_err-unread.ensures.fault
    c.from_residual-in_err-unread.ensures.1

pub returns-in-Ok : goal.returns-in-Ok
returns-in-Ok g c =
    c.tell_volume_map.ensures c.in_ok-image.image c.in-Ok.ensures
    (marks_of c.args.job.now.bad c.blocks-2.result (block_count c.in_ok-image.image) c.in_ok-unread.unread.items c.deref.result.now c.blocks-2.ensures.count c.deref.ensures.value c.in_ok-unread.ensures.unread)

pub tell_faulty_map-requires : goal.tell_faulty_map-requires
tell_faulty_map-requires g c =
    marks_of c.args.job.now.bad c.blocks-2.result (block_count c.in-Err.rejected.image) c.in_ok-unread.unread.items c.deref-2.result.now (c.blocks-2.ensures.count ∙ ap block_count (sym c.in-Err.ensures.0)) c.deref-2.ensures.value c.in_ok-unread.ensures.unread

pub returns-then-is_of_another_kind : goal.returns-then-is_of_another_kind
returns-then-is_of_another_kind g c =
    let rejected = c.in-Err.rejected in
    let of_kind = kind_shown rejected.image c.in_ok-image.image rejected.fault c.in-Some.refusal c.in-Err.ensures c.in-Some.ensures.kind c.in-Some.ensures.block (c.is_of_another_kind.ensures c.if-is_of_another_kind.true) in
    (Keeps-refl _, (rejected.image, inr of_kind))

pub returns-in_err-tell_faulty_map : goal.returns-in_err-tell_faulty_map
returns-in_err-tell_faulty_map g c =
    let rejected = c.in-Err.rejected in
    let shown = refusal_shown rejected.image c.in_ok-image.image rejected.fault c.in-Some.refusal c.in-Err.ensures c.in-Some.ensures.kind c.in-Some.ensures.block c.in-Some.ensures.some in
    report_ends (IsMapReport c.args.job.now) IsBareMap _ _ c.in_err-tell_faulty_map.field-0.0 _ (c.in_err-tell_faulty_map.ensures.fault shown) c.from_residual-in_err-tell_faulty_map.ensures.1

pub returns : goal.returns
returns g c =
    let rejected = c.in-Err.rejected in
    let shown = refusal_shown rejected.image c.in_ok-image.image rejected.fault c.in-Some.refusal c.in-Err.ensures c.in-Some.ensures.kind c.in-Some.ensures.block c.in-Some.ensures.some in
    c.in_ok-tell_faulty_map.ensures.ok shown
