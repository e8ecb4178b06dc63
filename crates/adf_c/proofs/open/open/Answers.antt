use Rattle.std.proofs.Common.{refl, sym, ◌∙◌}
use Rattle.adf_c.proofs.Coming.{some_is_open, none_is_closed, opens}
use Rattle.adf_c.proofs.open.open.Goals as goal

pub returns-then-is_open : goal.returns-then-is_open
returns-then-is_open c = (c.is_open.ensures.same, some_is_open _ (sym c.is_open.ensures.open ∙ c.if-is_open.true), refl)

pub returns : goal.returns
returns c = opens c.seat.result c.args.read_only c.args.bytes.now c.in-Ok-from_bytes.image _ _ c.args.handle.now.held c.is_open.new.self.held c.seat.new.handle.held c.args.fault.now
    (none_is_closed _ (sym c.is_open.ensures.open ∙ c.if-is_open.false)) c.is_open.ensures.same (c.in-Ok-from_bytes.ensures.ok.0 ∙ c.in-Ok.ensures.items) c.in-Ok-from_bytes.ensures.ok.1 c.in-Ok-check.ensures c.seat.ensures
