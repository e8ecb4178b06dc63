use Rattle.ados_name.proofs.ShortTextLemmas.{bytes_fit, HoldsText-copied}
use Rattle.ados_name.proofs.short_text.ShortText.new.Goals as goal

pub invariant_of-result : goal.invariant_of-result
invariant_of-result g c =
    rw c.copy_from_slice.ensures.after (HoldsText-copied g.row.CAPACITY c.args.text.now c.requires (bytes_fit c.args.text.now c.type_inv.text))
