use Rattle.std.proofs.Common.{◌≡◌, ℕ, List, take}
use Rattle.std.specs.BTreeSet.{contains_text}
use Rattle.std.specs.List.{list_any}
use Rattle.std.specs.Str.{bytes_eq}
use Rattle.adf_rescue.specs.Undelete.{key_of}
use Rattle.adf_rescue.proofs.asked.keys_of.Given as goal

-- the paths of the arguments before this one
abbrev pub invariant-loop-word : goal.invariant-loop-word
invariant-loop-word l = (text : List ℕ) → contains_text l.keys text ≡ list_any (λ word. bytes_eq (key_of word.now) text) (take l.word-index l.words)
