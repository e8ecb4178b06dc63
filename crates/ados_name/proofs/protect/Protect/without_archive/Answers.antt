use Rattle.ados_name.proofs.Common.{◌<◌, ◌^◌, arith, ◌∙◌}
use Rattle.ados_name.proofs.ProtectionLemmas.{clear-archive}
use Rattle.ados_name.proofs.protect.Protect.without_archive.Goals as goal

pub returns : goal.returns
returns c =
    let fits : c.args.self.0 < 2 ^ 32 = omega (arith, c.well_formed) in
    c.difference.ensures tt ∙ clear-archive c.args.self.0 fits
