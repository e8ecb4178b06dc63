use Rattle.std.proofs.Common.{map, take}
use Rattle.adf_import.proofs.Common.{Does, AreDone, AtWord}
use Rattle.adf_import.proofs.each.change_each.Given as goal

-- the arguments before this one are done
abbrev pub invariant-loop-word : goal.invariant-loop-word
invariant-loop-word l = AreDone (AtWord (Does l.moment l.each)) (map (λ word. word.text.now) (take l.word-index l.word-items)) l.initial.volume l.volume
