use Rattle.ados_name.proofs.Common.{sym, ◌∙◌, is_colon}
use Rattle.ados_name.proofs.SeparatorLemmas.{list_any-found}
use Rattle.ados_name.proofs.path.from_root.Goals as goal

pub returns : goal.returns
returns c = c.is_some.ensures ∙ sym (list_any-found is_colon c.args.path.now c.find_byte.result c.find_byte.ensures)
