use Rattle.std.proofs.Common.{true, arith}
use Rattle.std.proofs.lemmas.Map.Text.{btree_set_updates_text}
use Rattle.std.specs.BTreeSet.{contains_text}
use Rattle.std.specs.String.{string_bytes}
use Rattle.adf_rescue.specs.Undelete.{key_of}
use Rattle.adf_rescue.proofs.Asking.{key_added}
use Rattle.adf_rescue.proofs.asked.keys_of.Goals as goal

pub loop-word-preserved : goal.loop-word-preserved
loop-word-preserved c = λ text.
    key_added (λ word. key_of word.now) c.args.words.now c.loop-word.word-index _ (string_bytes c.in_ok-key.key) text (contains_text c.loop-word.keys text) (contains_text c.insert.new.self text)
    (omega (arith, c.loop-word-test.true)) c.in_ok-key.ensures.key (c.loop-word.invariant text)
    (btree_set_updates_text (string_bytes c.in_ok-key.key) c.loop-word.keys c.insert.new.self true c.in-Ok.ensures.updates text)
