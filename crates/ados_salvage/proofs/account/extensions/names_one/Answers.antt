use Rattle.std.proofs.Common.{sym, ◌∙◌}
use Rattle.ados_salvage.proofs.DamagedHeaders.{names_by, names_none}
use Rattle.ados_salvage.proofs.account.extensions.names_one.Goals as goal

pub returns-then-contains : goal.returns-then-contains
returns-then-contains c = names_by c.args.image.now c.args.headers.now c.long-header.result c.args.block c.long-header.ensures (sym c.contains.ensures ∙ c.if-contains.true) c.is_loose_extension.result c.is_loose_extension.ensures

pub returns : goal.returns
returns c = names_none c.args.image.now c.args.headers.now c.long-header.result c.args.block c.long-header.ensures (sym c.contains.ensures ∙ c.if-contains.false)
