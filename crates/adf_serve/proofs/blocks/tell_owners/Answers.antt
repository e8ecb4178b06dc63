use Rattle.std.proofs.Common.{[], subst, sym}
use Rattle.adf_block.specs.Image.{block_count}
use Rattle.adf_serve.specs.Placed.{IsBareRefusal, IsWhereText, MayEnd}
use Rattle.adf_serve.specs.Unread.{AreMarksOf}
use Rattle.adf_serve.proofs.Printing.{owners_left, owners_written, report_left}
use Rattle.adf_serve.proofs.blocks.tell_owners.Goals as goal

pub returns-in-Ok : goal.returns-in-Ok
returns-in-Ok g c = λ image accepts marks.
    owners_written image _ _ accepts c.args.asked.job.now c.asking.result c.asking.ensures.words c.asking.ensures.json (subst (AreMarksOf c.args.asked.job.now.bad (block_count image) []) (sym c.asking.ensures.unread) marks) _ _ c.in-Ok.ensures.ok

pub returns-in-Err : goal.returns-in-Err
returns-in-Err g c = λ image accepts marks.
    let job = c.args.asked.job.now in
    report_left (IsWhereText job) (IsBareRefusal job) MayEnd _ _ c.no_block.result c.no_block.ensures.plain c.no_block.ensures.other c.no_block.ensures.all tt
    (owners_left image _ _ accepts job c.asking.result c.asking.ensures.words c.asking.ensures.json (subst (AreMarksOf job.bad (block_count image) []) (sym c.asking.ensures.unread) marks) _ _ c.in-Err.fault c.in-Err.ensures.front)
