use Rattle.std.proofs.Common.{◌∙◌, sym}
use Rattle.ados_volume.proofs.Examining.{entry_of}
use Rattle.ados_volume.proofs.examine.protection_in.Goals as goal

pub returns-else-key-root : goal.returns-else-key-root
returns-else-key-root c = λ t node s e. c.long.ensures ∙ (entry_of c.args.image.now t s c.args.key node e (λ r. c.if-key-root.false (r ∙ sym c.root.ensures))).2.protection_field
