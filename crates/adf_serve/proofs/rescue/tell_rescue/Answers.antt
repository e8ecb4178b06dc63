use Rattle.std.proofs.Common.{ℕ, Bool, true, false, List, Option, None, Some, inr, is_some, subst}
use Rattle.adf_io.specs.Prefix.{Writes, WritesFrontOf}
use Rattle.adf_rescue.specs.Rescue.{AreRescued, AreSomeRescued, IsRescue}
use Rattle.adf_rescue.specs.declared.damaged.Rescue.{Rescue}
use Rattle.adf_cli.specs.declared.query.SalvageJob.{SalvageJob}
use Rattle.adf_serve.specs.Reports.{IsSomeText}
use Rattle.adf_serve.specs.Rescues.{AreHoles, IsMendedFor, IsRescueText}
use Rattle.adf_serve.proofs.Printing.{less_asked}
use Rattle.adf_serve.proofs.rescue.tell_rescue.Goals as goal

-- what is told of a rescue is the report on its image
module _ (job : SalvageJob) (holes : List Bool) (image : List ℕ) (rescue : Rescue) (are : AreHoles job image holes) (rescued : IsRescue holes (is_some job.bad) image rescue) (all : Option Bool)
    (mended : IsMendedFor job rescue.salvage all) where
  reported : (accepted : Bool) (text : List ℕ) → AreRescued job.json rescue accepted text → IsRescueText job all accepted text
  reported accepted text told = (holes, image, are, record { rescue = rescue; rescued = rescued; told = told }, mended)

  told_whole : (accepted : Bool) (old new : Option (List ℕ)) → Writes old new (AreRescued job.json rescue accepted) → Writes old new (IsRescueText job all accepted)
  told_whole accepted old new (text, written, told) = (text, written, reported accepted text told)

  told_front : (old new : Option (List ℕ)) → WritesFrontOf old new (AreSomeRescued job.json rescue) → WritesFrontOf old new (IsSomeText (IsRescueText job all))
  told_front old new (text, (accepted, told), front) = (text, (accepted, reported accepted text told), front)

pub returns-in-Ok-true : goal.returns-in-Ok-true
returns-in-Ok-true g c = λ holes image are rescued mended.
    let job = c.args.job.now in
    let made : IsMendedFor job c.args.rescue.now.salvage (Some true) = subst (λ (all : Bool). IsMendedFor job c.args.rescue.now.salvage (Some all)) c.if-all.true mended in
    subst (λ (accepted : Bool). Writes (g.W.Write.contents c.args.writer.now) (g.W.Write.contents c.tell.new.writer) (IsRescueText job (Some true) accepted)) c.in-Ok-true.field-0-test
    (told_whole job holes image c.args.rescue.now are rescued (Some true) made c.in-Ok-true.field-0 _ _ c.in-Ok-true.ensures.ok)

pub returns-in-Ok-true-2 : goal.returns-in-Ok-true-2
returns-in-Ok-true-2 g c = λ holes image are rescued mended.
    let job = c.args.job.now in
    let made : IsMendedFor job c.args.rescue.now.salvage (Some false) = subst (λ (all : Bool). IsMendedFor job c.args.rescue.now.salvage (Some all)) c.if-all.false mended in
    subst (λ (accepted : Bool). Writes (g.W.Write.contents c.args.writer.now) (g.W.Write.contents c.tell.new.writer) (IsRescueText job (Some false) accepted)) c.in-Ok-true.field-0-test
    (told_whole job holes image c.args.rescue.now are rescued (Some false) made c.in-Ok-true.field-0 _ _ c.in-Ok-true.ensures.ok)

pub returns-in-Ok-false : goal.returns-in-Ok-false
returns-in-Ok-false g c = λ holes image are rescued mended.
    let job = c.args.job.now in
    let made : IsMendedFor job c.args.rescue.now.salvage None = less_asked job (Some c.args.all) c.args.rescue.now.salvage mended in
    subst (λ (accepted : Bool). Writes (g.W.Write.contents c.args.writer.now) (g.W.Write.contents c.tell.new.writer) (IsRescueText job None accepted)) c.in-Ok-false.field-0-test
    (told_whole job holes image c.args.rescue.now are rescued None made c.in-Ok-false.field-0 _ _ c.in-Ok-false.ensures.ok)

pub returns-in-Err-Write : goal.returns-in-Err-Write
returns-in-Err-Write g c = λ holes image are rescued mended.
    let job = c.args.job.now in
    let made : IsMendedFor job c.args.rescue.now.salvage None = less_asked job (Some c.args.all) c.args.rescue.now.salvage mended in
    (tt, inr (told_front job holes image c.args.rescue.now are rescued None made _ _ c.in-Err-Write.ensures.front))

pub returns-in-Err-Memory : goal.returns-in-Err-Memory
returns-in-Err-Memory g c = λ holes image are rescued mended.
    let job = c.args.job.now in
    let made : IsMendedFor job c.args.rescue.now.salvage None = less_asked job (Some c.args.all) c.args.rescue.now.salvage mended in
    (tt, inr (told_front job holes image c.args.rescue.now are rescued None made _ _ c.in-Err-Memory.ensures.front))
