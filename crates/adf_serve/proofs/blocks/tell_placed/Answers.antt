use Rattle.std.proofs.Common.{[], refl, subst, sym}
use Rattle.adf_block.specs.Image.{block_count}
use Rattle.adf_serve.specs.Unread.{AreMarksOf}
use Rattle.adf_serve.proofs.Printing.{placed_left, placed_none, placed_written}
use Rattle.adf_serve.proofs.blocks.tell_placed.Goals as goal

pub returns-in-Ok-clause-ok : goal.returns-in-Ok-clause-ok
returns-in-Ok-clause-ok g c = λ refused.
    placed_written c.args.asked.job.now c.args.image.now c.args.refusal c.reason-why.result.kind.now c.reason-why.result.block c.asking.result c.reason-why.ensures.kind c.reason-why.ensures.block c.asking.ensures.words c.asking.ensures.json
    (subst (AreMarksOf c.args.asked.job.now.bad (block_count c.args.image.now) []) (sym c.asking.ensures.unread) c.requires) refused _ _ c.in-Ok.ensures.ok

pub returns-in-Err-NoBlock-clause-fault : goal.returns-in-Err-NoBlock-clause-fault
returns-in-Err-NoBlock-clause-fault g c = λ refused.
    placed_none c.args.asked.job.now c.args.image.now c.args.refusal c.reason-why.result.kind.now c.reason-why.result.block c.asking.result c.reason-why.ensures.kind c.reason-why.ensures.block c.asking.ensures.words c.asking.ensures.json
    (subst (AreMarksOf c.args.asked.job.now.bad (block_count c.args.image.now) []) (sym c.asking.ensures.unread) c.requires) refused _ _ c.in-Err-NoBlock.field-0 c.in-Err-NoBlock.word c.in-Err-NoBlock.field-0-is c.in-Err-NoBlock.ensures.front c.in-Err-NoBlock.ensures.fault

pub returns-in-Err-Memory-clause-fault : goal.returns-in-Err-Memory-clause-fault
returns-in-Err-Memory-clause-fault g c = λ refused.
    placed_left c.args.asked.job.now c.args.image.now c.args.refusal c.reason-why.result.kind.now c.reason-why.result.block c.asking.result c.reason-why.ensures.kind c.reason-why.ensures.block c.asking.ensures.words c.asking.ensures.json
    (subst (AreMarksOf c.args.asked.job.now.bad (block_count c.args.image.now) []) (sym c.asking.ensures.unread) c.requires) refused _ _ c.in-Err-Memory.field-0 c.in-Err-Memory.ensures.front

pub returns-in-Err-Output-clause-fault : goal.returns-in-Err-Output-clause-fault
returns-in-Err-Output-clause-fault g c = λ refused. (
  refl,
  placed_left c.args.asked.job.now c.args.image.now c.args.refusal c.reason-why.result.kind.now c.reason-why.result.block c.asking.result c.reason-why.ensures.kind c.reason-why.ensures.block c.asking.ensures.words c.asking.ensures.json
      (subst (AreMarksOf c.args.asked.job.now.bad (block_count c.args.image.now) []) (sym c.asking.ensures.unread) c.requires) refused _ _ c.in-Err-Output.field-0 c.in-Err-Output.ensures.front,
)
