use Rattle.std.proofs.Common.{sym, ◌∙◌}
use Rattle.adf_c.proofs.Saving.{none_is_closed, opens, some_is_opened}
use Rattle.adf_c.proofs.salvage.open.Goals as goal

pub returns-then-is_open : goal.returns-then-is_open
returns-then-is_open c = (c.is_open.ensures.same, some_is_opened _ (sym c.is_open.ensures.open ∙ c.if-is_open.true))

pub returns : goal.returns
returns c = opens c.args.bytes.now c.in-Ok-from_bytes.image c.args.salvage.now.held c.put.new.self.held c.in-Ok-salvaged.saved _
    (none_is_closed _ (sym c.is_open.ensures.open ∙ c.if-is_open.false)) (c.in-Ok-from_bytes.ensures.ok.0 ∙ c.in-Ok.ensures.items) c.in-Ok-from_bytes.ensures.ok.1
    c.in-Ok-salvaged.ensures.salvages c.in-Ok-salvaged.ensures.tree c.in-Ok-new.ensures.ok c.put.ensures
