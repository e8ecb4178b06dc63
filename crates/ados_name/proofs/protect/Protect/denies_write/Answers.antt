use Rattle.ados_name.proofs.Common.{◌∙◌}
use Rattle.ados_name.proofs.ProtectionLemmas.{mask-bit}
use Rattle.ados_name.proofs.protect.Protect.denies_write.Goals as goal

pub returns : goal.returns
returns c = c.contains.ensures tt ∙ mask-bit c.args.self.0 2
