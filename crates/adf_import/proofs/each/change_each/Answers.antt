use Rattle.std.proofs.Common.{ℕ, List, Err, map, ap, ◌∙◌, subst, arith}
use Rattle.adf_import.proofs.Common.{Does, EndsInTurn}
use Rattle.adf_import.specs.Turns.AreDone.{none}
use Rattle.adf_import.specs.declared.words.Word.{Word}
use Rattle.adf_import.proofs.Turning.{done_more, ends_here, text_of, was_read}
use Rattle.adf_import.proofs.each.change_each.Goals as goal

abbrev text_in : Word → List ℕ
text_in word = word.text.now

pub loop-word-init : goal.loop-word-init
loop-word-init c = none

pub returns-in-Err : goal.returns-in-Err
returns-in-Err c =
    let words : List (List ℕ) = map text_of c.args.paths.now in
    was_read words (EndsInTurn (Does c.args.moment c.args.each) words) c.args.volume.now c.change_word.new.volume (Err c.in-Err.fault) (λ text h. h)
    (subst (λ (ws : List (List ℕ)). EndsInTurn (Does c.args.moment c.args.each) ws c.args.volume.now c.change_word.new.volume (Err c.in-Err.fault)) (ap (map text_in) c.deref-word-items.ensures.value ∙ c.in_ok-words.ensures.texts)
    (ends_here (Does c.args.moment c.args.each) text_in c.deref-word-items.result.now c.loop-word.word-index c.word-item.result (omega arith) c.word-item.is c.args.volume.now c.loop-word.volume
    c.change_word.new.volume c.in-Err.fault c.loop-word.invariant c.in-Err.ensures))

pub loop-word-preserved : goal.loop-word-preserved
loop-word-preserved c =
    done_more (Does c.args.moment c.args.each) text_in c.deref-word-items.result.now c.loop-word.word-index c.word-item.result (omega arith) c.word-item.is c.args.volume.now c.loop-word.volume c.change_word.new.volume
    c.loop-word.invariant c.in-Ok.ensures c.image.ensures.stands
