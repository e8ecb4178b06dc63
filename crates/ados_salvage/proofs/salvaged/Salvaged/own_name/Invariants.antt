use Rattle.ados_salvage.proofs.Common.{◌≡◌, ended}
use Rattle.ados_salvage.proofs.salvaged.Salvaged.own_name.Given as goal

abbrev pub invariant-loop-ending : goal.invariant-loop-ending
invariant-loop-ending l = l.text.items ≡ ended l.self.name l.self.header l._ending
