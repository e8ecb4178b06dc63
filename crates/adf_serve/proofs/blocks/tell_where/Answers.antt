use Rattle.std.proofs.Common.{inl, ap, sym, ◌∙◌}
use Rattle.adf_block.specs.Image.{block_count}
use Rattle.adf_serve.specs.Placed.{IsBareRefusal, IsWhereText, MayEnd}
use Rattle.adf_serve.proofs.Marks.{marks_of}
use Rattle.adf_serve.proofs.Printing.{placed_ends, refusal_shown, reports_no_image}
use Rattle.adf_serve.proofs.blocks.tell_where.Goals as goal

pub returns-in_err-image : goal.returns-in_err-image
returns-in_err-image g c =
    reports_no_image (IsWhereText c.args.job.now) (IsBareRefusal c.args.job.now) MayEnd _ c.in_err-image.field-0.0 _ (λ bytes refusal size. (bytes, inl size)) (λ told is. tt) c.in_err-image.ensures
    c.from_residual.ensures.1

pub returns-in_err-unread : goal.returns-in_err-unread
returns-in_err-unread g c =
    reports_no_image (IsWhereText c.args.job.now) (IsBareRefusal c.args.job.now) MayEnd _ c.in_err-unread.field-0.0 _ (λ bytes refusal size. (bytes, inl size)) (λ told is. tt) c.in_err-unread.ensures.fault
    c.from_residual-in_err-unread.ensures.1

pub returns-in-Ok : goal.returns-in-Ok
returns-in-Ok g c =
    c.tell_owners.ensures c.in_ok-image.image c.in-Ok.ensures
    (marks_of c.args.job.now.bad c.blocks-2.result (block_count c.in_ok-image.image) c.in_ok-unread.unread.items c.deref.result.now c.blocks-2.ensures.count c.deref.ensures.value c.in_ok-unread.ensures.unread)

pub tell_placed-requires : goal.tell_placed-requires
tell_placed-requires g c =
    marks_of c.args.job.now.bad c.blocks-2.result (block_count c.in-Err.rejected.image) c.in_ok-unread.unread.items c.deref.result.now (c.blocks-2.ensures.count ∙ ap block_count (sym c.in-Err.ensures.0)) c.deref.ensures.value c.in_ok-unread.ensures.unread

pub returns-in_err-tell_placed : goal.returns-in_err-tell_placed
returns-in_err-tell_placed g c =
    let rejected = c.in-Err.rejected in
    let shown = refusal_shown rejected.image c.in_ok-image.image rejected.fault c.in-Some.refusal c.in-Err.ensures c.in-Some.ensures.kind c.in-Some.ensures.block c.in-Some.ensures.some in
    placed_ends c.args.job.now rejected.image _ _ c.in_err-tell_placed.field-0.0 _ (c.in_err-tell_placed.ensures.fault shown) c.from_residual-in_err-tell_placed.ensures.1

pub returns : goal.returns
returns g c =
    let rejected = c.in-Err.rejected in
    let shown = refusal_shown rejected.image c.in_ok-image.image rejected.fault c.in-Some.refusal c.in-Err.ensures c.in-Some.ensures.kind c.in-Some.ensures.block c.in-Some.ensures.some in
    let written = c.in_ok-tell_placed.ensures.ok shown in
    (written.0, written.1, (rejected.image, written.2))
