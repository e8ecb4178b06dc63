use Rattle.std.proofs.Common.{◌≡◌, map, take}
use Rattle.adf_import.proofs.words.words_of.Given as goal

-- these are the arguments before this one
abbrev pub invariant-loop-text : goal.invariant-loop-text
invariant-loop-text l = map (λ word. word.text.now) l.words.items ≡ map (λ text. text.now) (take l.text-index l.texts)
