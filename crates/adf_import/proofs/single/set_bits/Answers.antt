use Rattle.std.proofs.Common.{List, ℕ, [], ◌∷◌, Err, subst}
use Rattle.adf_import.proofs.Common.{chars, Form, protect_word, EndsProtect, ReadsFirst}
use Rattle.adf_import.proofs.Telling.{bits_read, no_bits, nothing_said}
use Rattle.adf_import.proofs.Turning.{both_texts, first_word, foreign_in, not_read, second_word}
use Rattle.adf_import.proofs.single.set_bits.Goals as goal

pub returns-in-Err : goal.returns-in-Err
returns-in-Err c =
    let words = c.args.path.now ∷ c.args.letters.now ∷ [] in
    not_read words (EndsProtect c.args.moment c.args.path.now c.args.letters.now) c.args.volume.now c.in-Err.fault (nothing_said (protect_word (chars c.args.letters.now))) (foreign_in words c.args.path.now c.in-Err.fault (first_word c.args.path.now c.args.letters.now) c.in-Err.ensures.fault)

pub returns-in-Err-new : goal.returns-in-Err-new
returns-in-Err-new c =
    let words = c.args.path.now ∷ c.args.letters.now ∷ [] in
    not_read words (EndsProtect c.args.moment c.args.path.now c.args.letters.now) c.args.volume.now c.in-Err-new.fault (nothing_said (protect_word (chars c.args.letters.now))) (foreign_in words c.args.letters.now c.in-Err-new.fault (second_word c.args.path.now c.args.letters.now) c.in-Err-new.ensures.fault)

pub returns-in-Err-protection : goal.returns-in-Err-protection
returns-in-Err-protection c =
    subst (λ (b : List ℕ). ReadsFirst (c.args.path.now ∷ b ∷ []) (EndsProtect c.args.moment c.args.path.now b) c.args.volume.now c.args.volume.now (Err c.in-Err-protection.fault)) c.in-Ok-new.ensures.same
    (no_bits c.args.moment c.args.path.now c.in-Ok-new.spelled.text.now c.args.volume.now c.in-Err-protection.fault c.in-Err-protection.ensures.fault)

pub returns : goal.returns
returns c =
    let after = c.change_word.new.volume in
    let word : Form × List ℕ = (c.in-Ok-protection.bits.form, c.in-Ok-protection.bits.letters.now) in
    both_texts (λ f t. ReadsFirst (f ∷ t ∷ []) (EndsProtect c.args.moment f t) c.args.volume.now after c.change_word.result) c.in-Ok.word.text.now c.in-Ok-new.spelled.text.now c.args.path.now c.args.letters.now c.in-Ok.ensures.same c.in-Ok-new.ensures.same
    (bits_read c.args.moment c.in-Ok.word.text.now c.in-Ok-new.spelled.text.now c.args.volume.now after word c.change_word.result c.in-Ok-protection.ensures.word c.change_word.ensures)
