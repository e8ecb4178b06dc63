use Rattle.std.proofs.Common.{[], ℕ, arith, subst}
use Rattle.ados_port.specs.Batches.{TakesUpTo}
use Rattle.ados_port.proofs.Handling.{serves_none}
use Rattle.ados_port.proofs.Takes.{nothing_last}
use Rattle.ados_port.proofs.Growth.{some_more, some_offers}
use Rattle.ados_port.proofs.serve.serve_until_ended.Goals as goal

pub loop-init : goal.loop-init
loop-init g c = ([], serves_none g.S.Server.gives _ _)

pub loop-preserved-in-Ok-eq0-2 : goal.loop-preserved-in-Ok-eq0-2
loop-preserved-in-Ok-eq0-2 g c = some_more g.S.Server.gives _ _ _ _ _ c.loop.invariant c.in-Ok-eq0-2.ensures-1.ok.1

pub loop-preserved-in-Ok : goal.loop-preserved-in-Ok
loop-preserved-in-Ok g c = some_more g.S.Server.gives _ _ _ _ _ c.loop.invariant c.in-Ok.ensures.ok.1

pub loop-preserved : goal.loop-preserved
loop-preserved g c = some_offers g.S.Server.gives _ _ _ _ c.loop.invariant c.in-Err-2.ensures.err

pub returns-in-Ok-eq0-clause-served : goal.returns-in-Ok-eq0-clause-served
returns-in-Ok-eq0-clause-served g c = some_more g.S.Server.gives _ _ _ _ _ c.loop.invariant c.in-Ok-eq0.ensures.ok.1

pub returns-in-Ok-eq0-clause-last : goal.returns-in-Ok-eq0-clause-last
returns-in-Ok-eq0-clause-last g c =
    nothing_last 64 c.loop.handler c.serve_batch.new.self (omega arith)
    (subst (λ (n : ℕ). TakesUpTo 64 c.loop.handler n c.serve_batch.new.self) c.in-Ok-eq0.field-0-test c.in-Ok-eq0.ensures.takes)

pub returns-in-Err-clause-served : goal.returns-in-Err-clause-served
returns-in-Err-clause-served g c = some_offers g.S.Server.gives _ _ _ _ c.loop.invariant c.in-Err.ensures.err
