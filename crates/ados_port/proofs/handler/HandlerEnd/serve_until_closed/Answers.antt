use Rattle.std.proofs.Common.{◌∙◌, ◌++◌, [], arith, ap, sym, subst, refl, inl, inr, ℕ, ◌≡◌, ◌+◌}
use Rattle.ados_port.proofs.Handling.{serves_none, serves_more, serves_offers}
use Rattle.ados_port.proofs.Eachs.{looked_less, looked_more, looked_none}
use Rattle.ados_port.specs.Batches.{LastFoundNothing, TakesUpTo}
use Rattle.ados_port.proofs.Takes.{nothing_more, nothing_last, nothing_yet}
use Rattle.ados_port.proofs.handler.HandlerEnd.serve_until_closed.Goals as goal

pub loop-init : goal.loop-init
loop-init g c = record { served = ([], serves_none g.S.Server.gives _ _); idle = c.requires; takes = nothing_yet c.args.self.now; looked = looked_none _ }

pub returns-in_err-serve_batch-clause-served : goal.returns-in_err-serve_batch-clause-served
returns-in_err-serve_batch-clause-served g c =
    let h = c.loop.invariant.served in
    let e = c.in_err-serve_batch.ensures.err in
    (h.0 ++ [], serves_more g.S.Server.gives _ _ _ _ _ _ h.1 (serves_offers g.S.Server.gives _ _ _ _ e.0 e.1))

pub loop-preserved-then-branch-gt0 : goal.loop-preserved-then-branch-gt0
loop-preserved-then-branch-gt0 g c =
    let h = c.loop.invariant.served in
    let b = c.in_ok-serve_batch.ensures.ok.1 in
    record {
      served = (h.0 ++ b.0, serves_more g.S.Server.gives _ _ _ _ _ _ h.1 b.2);
      idle = c.requires;
      takes = nothing_yet c.serve_batch.new.self;
      looked = looked_less 0 _ _ _ (omega arith) (looked_more _ _ _ _ c.loop.invariant.looked c.in_ok-serve_batch.ensures.first);
    }

pub returns-then-died-clause-served : goal.returns-then-died-clause-served
returns-then-died-clause-served g c =
    let h = c.loop.invariant.served in let b = c.in_ok-serve_batch.ensures.ok.1 in (h.0 ++ b.0, serves_more g.S.Server.gives _ _ _ _ _ _ h.1 b.2)

pub returns-then-died-clause-end : goal.returns-then-died-clause-end
returns-then-died-clause-end g c = inl (refl, sym (ap g.S.Server.has_died c.server.ensures) ∙ (sym c.died.ensures ∙ c.if-died.true))

pub returns-then-idle-idle_limit-clause-end : goal.returns-then-idle-idle_limit-clause-end
returns-then-idle-idle_limit-clause-end g c = inr (refl, sym (ap g.S.Server.has_died c.server.ensures) ∙ (sym c.died.ensures ∙ c.if-died.false))

pub returns-then-idle-idle_limit-clause-served : goal.returns-then-idle-idle_limit-clause-served
returns-then-idle-idle_limit-clause-served g c =
    let h = c.loop.invariant.served in let b = c.in_ok-serve_batch.ensures.ok.1 in (h.0 ++ b.0, serves_more g.S.Server.gives _ _ _ _ _ _ h.1 b.2)

pub loop-preserved : goal.loop-preserved
loop-preserved g c =
    let h = c.loop.invariant.served in
    let b = c.in_ok-serve_batch.ensures.ok.1 in
    record {
      served = (h.0 ++ b.0, serves_more g.S.Server.gives _ _ _ _ _ _ h.1 b.2);
      idle = omega (arith, c.if-idle-idle_limit.false);
      takes = nothing_more 64 c.loop.idle c.loop.self c.serve_batch.new.self (omega arith) c.loop.invariant.takes (subst (λ (n : ℕ). TakesUpTo 64 c.loop.self n c.serve_batch.new.self) (omega (arith, c.if-branch-gt0.false)) c.in_ok-serve_batch.ensures.takes);
      looked = looked_more _ _ _ _ c.loop.invariant.looked c.in_ok-serve_batch.ensures.first;
    }

pub returns-then-died-clause-batches : goal.returns-then-died-clause-batches
returns-then-died-clause-batches g c =
    looked_less 1 _ _ _ (omega arith) (looked_more _ _ _ _ c.loop.invariant.looked c.in_ok-serve_batch.ensures.first)

pub returns-then-idle-idle_limit-clause-batches : goal.returns-then-idle-idle_limit-clause-batches
returns-then-idle-idle_limit-clause-batches g c =
    looked_less c.args.idle_limit _ _ _ (omega (arith, c.if-idle-idle_limit.true)) (looked_more _ _ _ _ c.loop.invariant.looked c.in_ok-serve_batch.ensures.first)

pub returns-then-died-clause-takes : goal.returns-then-died-clause-takes
returns-then-died-clause-takes g c =
    nothing_last 64 c.loop.self c.serve_batch.new.self (omega arith)
    (subst (λ (n : ℕ). TakesUpTo 64 c.loop.self n c.serve_batch.new.self) (omega (arith, c.if-branch-gt0.false)) c.in_ok-serve_batch.ensures.takes)

pub returns-then-idle-idle_limit-clause-takes : goal.returns-then-idle-idle_limit-clause-takes
returns-then-idle-idle_limit-clause-takes g c =
    let all : c.loop.idle + 1 ≡ c.args.idle_limit = omega (arith, c.loop.invariant.idle, c.if-idle-idle_limit.true) in
    subst (λ (n : ℕ). LastFoundNothing n c.serve_batch.new.self) all
    (nothing_more 64 c.loop.idle c.loop.self c.serve_batch.new.self (omega arith) c.loop.invariant.takes
    (subst (λ (n : ℕ). TakesUpTo 64 c.loop.self n c.serve_batch.new.self) (omega (arith, c.if-branch-gt0.false)) c.in_ok-serve_batch.ensures.takes))
