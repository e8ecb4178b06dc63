use Rattle.adf_text.proofs.Common.{◌≡◌, ℕ, ◌≤◌, List, ◌++◌, ◌∷◌, [], Bool, true, is_ok, length, sym, ap, ◌∙◌, arith, cond-true, length_push, All-push, All-same, IsByte}
use Rattle.std.proofs.lemmas.Iterator.{YieldsList-from_chars}
use Rattle.std.proofs.lemmas.Iterator.Consumers.{YieldsList-turn, YieldsList-end}
use Rattle.adf_text.proofs.LettersLemmas.{IsFirstForeign-here, front-more, front-whole, All-whole}
use Rattle.adf_text.proofs.letters.letter_bytes.Goals as goal

pub loop-letter-preserved : goal.loop-letter-preserved
loop-letter-preserved c =
    let items = c.loop-letter.bytes.items in
    let stands = YieldsList-turn (YieldsList-from_chars c.args.text.now c.utf8.text cc) c.loop-letter.yielded _ c.loop-letter.yielded_by _ _ c.in-Some.letter c.in-Some.is c.next.ensures.steps in
    let stored : is_ok c.push.result ≡ true = ◌∙◌ {A = Bool} (sym c.map_err.ensures.variant) (ap (λ r. is_ok r) c.in_ok-map_err-in-Ok.was) in
    let pushed : c.push.new.self.items ≡ items ++ c.in-Ok.byte ∷ [] = ◌∙◌ {A = List ℕ} c.push.ensures.items (cond-true _ _ _ stored) in
    let more = length_push items c.in-Ok.byte in
    let yielded_more = length_push c.loop-letter.yielded c.in-Some.letter in
    record {
      many = let as_many = ap length pushed in omega (arith, as_many, more, yielded_more, c.loop-letter.invariant.many);
      front = front-more c.args.text.now items c.loop-letter.yielded c.loop-letter.invariant.front c.in-Some.letter c.in-Ok.byte c.push.new.self.items pushed c.in-Ok.ensures.1 stands;
      small = All-same IsByte c.push.new.self.items (items ++ c.in-Ok.byte ∷ []) pushed (All-push IsByte items c.in-Ok.byte c.loop-letter.invariant.small (omega (arith, c.in-Ok.ensures)));
    }

pub returns-in-Err-clause-fault : goal.returns-in-Err-clause-fault
returns-in-Err-clause-fault c =
    let stands = YieldsList-turn (YieldsList-from_chars c.args.text.now c.utf8.text cc) c.loop-letter.yielded _ c.loop-letter.yielded_by _ _ c.in-Some.letter c.in-Some.is c.next.ensures.steps in
    let place : c.len.result ≡ length c.loop-letter.yielded = c.len.ensures ∙ c.loop-letter.bytes.ok.0 ∙ c.loop-letter.invariant.many in
    let past : 256 ≤ c.in-Some.letter = omega (arith, c.in-Err.ensures) in
    rw place (IsFirstForeign-here c.args.text.now c.loop-letter.bytes.items (length c.loop-letter.yielded) c.in-Some.letter c.loop-letter.invariant.front c.loop-letter.invariant.small stands past)

pub returns-clause-ok : goal.returns-clause-ok
returns-clause-ok c =
    let end = YieldsList-end (YieldsList-from_chars c.args.text.now c.utf8.text cc) c.loop-letter.yielded _ c.loop-letter.yielded_by _ _ c.in-None.is c.next.ensures.steps in
    front-whole c.args.text.now c.loop-letter.bytes.items c.loop-letter.yielded c.loop-letter.invariant.front c.utf8.text end.1

pub returns-clause-letters : goal.returns-clause-letters
returns-clause-letters c =
    let end = YieldsList-end (YieldsList-from_chars c.args.text.now c.utf8.text cc) c.loop-letter.yielded _ c.loop-letter.yielded_by _ _ c.in-None.is c.next.ensures.steps in
    All-whole c.args.text.now c.loop-letter.bytes.items c.loop-letter.yielded c.loop-letter.invariant.front c.loop-letter.invariant.small end.1
