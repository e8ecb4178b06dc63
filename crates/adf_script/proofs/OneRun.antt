-- The output of lines, one after the other, is that of one run.
use Rattle.adf_script.proofs.Common.{◌≡◌, ℕ, ◌+◌, Bool, true, false, List, [], ◌∷◌, ◌++◌, length, slice_get, refl, sym, ap, subst, ◌∙◌, arith, append_assoc, length-append, flat_map, MatchBool, map-append, none-some, Packet, Answer, PortState, PortHistory, numbered, history_nil, kept_lines, is_too_long, answer_value, answer_values, IsPacketLine, IsFaulty, reply_line, reply_lines, closed_line, fault_line, ArePackets, NextPuts, steps_of, outcomes_of, LinesTell, ended, answered, closed, faulty}
use Rattle.std.specs.Prelude.{Option}
use Rattle.std.proofs.lemmas.Grind.{flat_map-append}
use Rattle.ados_port.proofs.Joining.{history_joins}
use Rattle.adf_script.specs.Ran.{Ending, AtEnd, AtClosed, AtFault, EndsWith, is_whole, last_steps, last_outcomes, last_line, TellsRun, LinesAreOneRun}
use Rattle.adf_script.proofs.Pushing.{numbered-push, reply_lines-push, packets-answered}

-- the first element after a list
slice_get-behind : {X : Type 0} (xs ys : List X) → slice_get (xs ++ ys) (length xs) ≡ slice_get ys 0
slice_get-behind [] ys = refl
slice_get-behind (x ∷ xs) ys = slice_get-behind xs ys

module _ {S M : Type 0} (gives : S → Packet → M → S → Answer → Type 0) (has_died : S → Bool) (opening : PortState S Packet Answer) (moment : M) (all : List (ℕ × List ℕ)) where
  -- the run of the lines so far, with these lines left and these values of replies
  record Before (port : PortState S Packet Answer) (lines : List (ℕ × List ℕ)) (values : List (Option ℕ)) (next : ℕ) : Type 0 where
    passed : List (ℕ × List ℕ)
    packets : List Packet
    answers : List Answer
    lines_are : all ≡ passed ++ lines
    values_are : values ≡ answer_values answers
    many_lines : length packets ≡ length passed
    many_answers : length packets ≡ length answers
    next_is : next ≡ length answers + 1
    each : ArePackets all answers packets
    history : PortHistory gives has_died opening (flat_map (steps_of moment) packets) (flat_map outcomes_of (numbered 1 answers)) port

  -- before the first line
  nothing_ran : Before opening all [] 1
  nothing_ran = record {
    passed = [];
    packets = [];
    answers = [];
    lines_are = refl;
    values_are = refl;
    many_lines = refl;
    many_answers = refl;
    next_is = refl;
    each = λ i packet e. absurd (none-some packet e);
    history = history_nil gives has_died opening;
  }

  module _ {port : PortState S Packet Answer} {lines : List (ℕ × List ℕ)} {values : List (Option ℕ)} {next : ℕ} (before : Before port lines values next) where
    -- the next line is the first of the remaining ones
    next_line : slice_get all (length before.packets) ≡ slice_get lines 0
    next_line = ap (slice_get all) before.many_lines ∙ ap (λ l. slice_get l (length before.passed)) before.lines_are ∙ slice_get-behind before.passed lines

    -- the output of the lines so far, then this last line
    tells_last : (ending : Ending) → EndsWith all before.answers (length before.packets) ending → (closing : PortState S Packet Answer)
        → PortHistory gives has_died port (last_steps ending) (last_outcomes ending) closing
        → TellsRun gives has_died opening moment all (reply_lines 1 1 before.answers ++ last_line (length before.answers) ending) (is_whole ending)
    tells_last ending ends closing last = (
      before.answers,
      ending,
      record {
        packets = before.packets;
        each = before.each;
        ends = ends;
        closing = closing;
        history = history_joins gives has_died opening (flat_map (steps_of moment) before.packets) (flat_map outcomes_of (numbered 1 before.answers)) port before.history (last_steps ending) (last_outcomes ending) closing last;
      },
      refl,
      refl,
    )

  module _ {port : PortState S Packet Answer} {line : ℕ × List ℕ} {lines : List (ℕ × List ℕ)} {values : List (Option ℕ)} {next : ℕ} (before : Before port (line ∷ lines) values next) where
    -- the next line puts this packet
    next_puts : (packet : Packet) → IsPacketLine values packet line.1 → NextPuts all (answer_values before.answers) (length before.packets) packet
    next_puts packet puts = (line, next_line before, subst (λ v. IsPacketLine v packet line.1) before.values_are puts)

    -- the answer to the next line's packet
    one_more : (packet : Packet) (answer : Answer) (new : PortState S Packet Answer) → IsPacketLine values packet line.1
        → PortHistory gives has_died port (steps_of moment packet) (outcomes_of (record { number = next; answer = answer })) new
        → Before new lines (values ++ answer_value answer ∷ []) (next + 1)
    one_more packet answer new puts history =
        let steps = flat_map (steps_of moment) before.packets
        in let outcomes = flat_map outcomes_of (numbered 1 before.answers)
        in let numbers : 1 + length before.answers ≡ next = omega (arith, before.next_is)
        in let all_steps : steps ++ steps_of moment packet ≡ flat_map (steps_of moment) (before.packets ++ packet ∷ []) = sym (flat_map-append (steps_of moment) before.packets (packet ∷ []))
        in let all_outcomes : outcomes ++ outcomes_of (record { number = next; answer = answer }) ≡ flat_map outcomes_of (numbered 1 (before.answers ++ answer ∷ [])) =
        sym (flat_map-append outcomes_of (numbered 1 before.answers) ((record { number = next; answer = answer }) ∷ []))
        ∙ ap (flat_map outcomes_of) (sym (numbered-push 1 before.answers answer ∙ ap (λ n. numbered 1 before.answers ++ (record { number = n; answer = answer }) ∷ []) numbers))
        in record {
          passed = before.passed ++ line ∷ [];
          packets = before.packets ++ packet ∷ [];
          answers = before.answers ++ answer ∷ [];
          lines_are = before.lines_are ∙ sym (append_assoc before.passed (line ∷ []) lines);
          values_are = ap (λ v. v ++ answer_value answer ∷ []) before.values_are ∙ sym (map-append answer_value before.answers (answer ∷ []));
          many_lines = omega (arith, length-append before.packets (packet ∷ []), length-append before.passed (line ∷ []), before.many_lines);
          many_answers = omega (arith, length-append before.packets (packet ∷ []), length-append before.answers (answer ∷ []), before.many_answers);
          next_is = omega (arith, length-append before.answers (answer ∷ []), before.next_is);
          each = packets-answered all before.answers before.packets packet answer before.many_answers before.each (next_puts packet puts);
          history = subst (λ l. PortHistory gives has_died opening l (flat_map outcomes_of (numbered 1 (before.answers ++ answer ∷ []))) new) all_steps
              (subst (λ l. PortHistory gives has_died opening (steps ++ steps_of moment packet) l new) all_outcomes
              (history_joins gives has_died opening steps outcomes port before.history (steps_of moment packet) (outcomes_of (record { number = next; answer = answer })) new history));
        }

    -- its line follows those of earlier replies
    text_behind : (answer : Answer) (text : List ℕ) → reply_lines 1 1 (before.answers ++ answer ∷ []) ++ text ≡ reply_lines 1 1 before.answers ++ (reply_line 1 next answer ++ text)
    text_behind answer text =
        let numbers : 1 + length before.answers ≡ next = omega (arith, before.next_is)
        in ap (λ l. l ++ text) (reply_lines-push 1 1 before.answers answer ∙ ap (λ n. reply_lines 1 1 before.answers ++ reply_line 1 n answer) numbers)
        ∙ append_assoc (reply_lines 1 1 before.answers) (reply_line 1 next answer) text

  -- the output of the remaining lines completes the run
  tells_run : {port : PortState S Packet Answer} {lines : List (ℕ × List ℕ)} {values : List (Option ℕ)} {next : ℕ} {text : List ℕ} {whole : Bool}
      → LinesTell gives has_died moment port lines values next text whole → (before : Before port lines values next)
      → TellsRun gives has_died opening moment all (reply_lines 1 1 before.answers ++ text) whole
  unfolding one_more
  tells_run (ended {port = port}) before = tells_last before AtEnd (next_line before) port (history_nil gives has_died port)
  tells_run (answered {new = new} {packet = packet} {answer = answer} {text = text} {whole = whole} puts history rest) before =
      subst (λ t. TellsRun gives has_died opening moment all t whole) (text_behind before answer text) (tells_run rest (one_more before packet answer new puts history))
  tells_run (closed {new = new} {packet = packet} puts history) before =
      subst (λ n. TellsRun gives has_died opening moment all (reply_lines 1 1 before.answers ++ closed_line 1 n) true) (sym before.next_is)
      (tells_last before (AtClosed packet) (next_puts before packet puts) new history)
  tells_run (faulty {port = port} {line = line} none) before =
      tells_last before (AtFault line.0) (line.1, next_line before, subst (λ v. IsFaulty v line.1) before.values_are none) port (history_nil gives has_died port)

pub lines_are_one_run : {S M : Type 0} (gives : S → Packet → M → S → Answer → Type 0) (has_died : S → Bool) → LinesAreOneRun gives has_died
unfolding nothing_ran
lines_are_one_run gives has_died opening moment read written whole = go (is_too_long read)
  where
    go : (b : Bool)
        → MatchBool b ((whole ≡ false) × (written ≡ fault_line 1 0)) (LinesTell gives has_died moment opening (kept_lines read) [] 1 written whole)
        → MatchBool b ((whole ≡ false) × (written ≡ fault_line 1 0)) (TellsRun gives has_died opening moment (kept_lines read) written whole)
    go true told = told
    go false told = tells_run gives has_died opening moment (kept_lines read) told (nothing_ran gives has_died opening moment (kept_lines read))
