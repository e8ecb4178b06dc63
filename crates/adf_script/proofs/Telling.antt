-- The output of a script so far, line by line.
use Rattle.adf_script.proofs.Common.{◌≡◌, ℕ, zero, suc, ◌+◌, inl, inr, Bool, true, false, List, [], ◌∷◌, ◌++◌, length, take, drop, slice_get, refl, sym, ap, subst, ◌∙◌, arith, append_assoc, length-append, MatchBool, take_all, length-take, cases_lt, lt-ltb, none-some, same_Some, Packet, Answer, PortState, PortHistory, StepGives, Closed, Reply, Accepted, Refused, Served, Taken, history_nil, kept_lines, is_too_long, answer_value, reply_line, closed_line, fault_line, NextPuts, NextIsFaulty, NoneIsLeft, steps_of, outcomes_of, LinesTell, Told, ended, answered, closed, faulty, IsQuiet, Calls}
use Rattle.std.specs.Prelude.{Option, Some, None}
use Rattle.std.specs.Io.KnownBytes.{Appends, Consumes, IsAtEnd, Keeps}
use Rattle.ados_port.specs.declared.step.Step.TheVariants.{Put, Serve, Take}
use Rattle.ados_port.proofs.Grows.{grow, history_of_step}
use Rattle.adf_script.specs.Streams.{ReadsAndWrites}
use Rattle.adf_io.specs.Prefix.{Writes}
use Rattle.adf_script.proofs.Quiet.{put_closed}
use Rattle.std.proofs.KnownBytes.{Appends-nil as appends_nothing, Appends-trans as appends_more, Appends-kept as appends_kept}

-- the rest of a list from an element, and from none
drop-next : {X : Type 0} (xs : List X) (i : ℕ) (x : X) → slice_get xs i ≡ Some x → drop i xs ≡ x ∷ drop (suc i) xs
drop-next [] i x h = absurd (none-some x h)
drop-next (y ∷ ys) zero x h = ap (λ z. z ∷ ys) (same_Some y x h)
drop-next (y ∷ ys) (suc i) x h = drop-next ys i x h

drop-none : {X : Type 0} (xs : List X) (i : ℕ) → slice_get xs i ≡ None → drop i xs ≡ []
drop-none [] zero h = refl
drop-none [] (suc i) h = refl
drop-none (y ∷ ys) zero h = absurd (none-some y (sym h))
drop-none (y ∷ ys) (suc i) h = drop-none ys i h

module _ {S M : Type 0} (gives : S → Packet → M → S → Answer → Type 0) (has_died : S → Bool) where
  -- the history of one packet
  history_of_call : (moment : M) (old new : PortState S Packet Answer) (packet : Packet) (reply : Reply Answer) → Calls gives has_died moment old packet reply new
      → PortHistory gives has_died old (steps_of moment packet) (outcomes_of reply) new
  history_of_call moment old new packet reply calls =
      let one = grow gives has_died old [] [] old (history_nil gives has_died old) (Put 1 packet) (Accepted reply.number) calls.put calls.puts
      in let two = grow gives has_died old _ _ calls.put one (Serve moment) Served calls.served calls.serves
      in grow gives has_died old _ _ calls.served two (Take 1) (Taken reply) new calls.takes

module _ {S M : Type 0} (gives : S → Packet → M → S → Answer → Type 0) (has_died : S → Bool) (opening : PortState S Packet Answer) (moment : M) (script : List ℕ) (contents : Option (List ℕ)) where
  -- the output of the script's lines, and of the remaining lines from a port after this many replies
  abbrev AllTell : List ℕ → Bool → Type 0
  AllTell text whole = LinesTell gives has_died moment opening (kept_lines script) [] 1 text whole

  abbrev TellOn : PortState S Packet Answer → List (ℕ × List ℕ) → List (Option ℕ) → List ℕ → Bool → Type 0
  TellOn port lines values text whole = LinesTell gives has_died moment port lines values (length values + 1) text whole

  abbrev RestTells : PortState S Packet Answer → List (Option ℕ) → List ℕ → Bool → Type 0
  RestTells port values text whole = TellOn port (drop (length values) (kept_lines script)) values text whole

  -- after replies with these values: whatever the remaining lines print, the script prints after the text so far
  pub record SoFar (values : List (Option ℕ)) (port : PortState S Packet Answer) (now : Option (List ℕ)) : Type 0 where
    pub quiet : IsQuiet port (length values)
    pub told : List ℕ
    pub written : Appends contents now told
    pub tells : (text : List ℕ) (whole : Bool) → RestTells port values text whole → AllTell (told ++ text) whole

  -- a script that is not too long
  told_by : (written : List ℕ) (whole : Bool) → is_too_long script ≡ false → AllTell written whole → Told gives has_died opening moment script written whole
  told_by written whole short tells = subst (λ b. MatchBool b ((whole ≡ false) × (written ≡ fault_line 1 0)) (AllTell written whole)) (sym short) tells

  -- before the first line
  pub nothing_told : IsQuiet opening 0 → SoFar [] opening contents
  nothing_told quiet = record { quiet = quiet; told = []; written = appends_nothing contents; tells = λ text whole rest. rest }

  module _ (values : List (Option ℕ)) (port : PortState S Packet Answer) (now : Option (List ℕ)) (sofar : SoFar values port now) where
    -- the lines end with this text after the text so far
    told_last : (text : List ℕ) (whole : Bool) (after : Option (List ℕ)) → is_too_long script ≡ false → RestTells port values text whole → Appends now after text
        → Writes contents after (λ written. Told gives has_died opening moment script written whole)
    told_last text whole after short rest more = (
      sofar.told ++ text,
      appends_more contents now after sofar.told text sofar.written more,
      told_by (sofar.told ++ text) whole short (sofar.tells text whole rest),
    )

    -- no line is left
    pub told_end : is_too_long script ≡ false → NoneIsLeft (kept_lines script) (length values) → Writes contents now (λ written. Told gives has_died opening moment script written true)
    told_end short none = told_last [] true now short (subst (λ l. TellOn port l values [] true) (sym (drop-none (kept_lines script) (length values) none)) ended) (appends_nothing now)

    -- a faulty line
    pub told_fault : (number : ℕ) (after : Option (List ℕ)) → is_too_long script ≡ false → NextIsFaulty (kept_lines script) values (length values) number → Appends now after (fault_line 1 number)
        → Writes contents after (λ written. Told gives has_died opening moment script written false)
    told_fault number after short next more =
        let here = drop-next (kept_lines script) (length values) (number, next.0) next.1
        in told_last (fault_line 1 number) false after short (subst (λ l. TellOn port l values (fault_line 1 number) false) (sym here) (faulty next.2)) more

    module _ (packet : Packet) (next : NextPuts (kept_lines script) values (length values) packet) where
      here : drop (length values) (kept_lines script) ≡ next.0 ∷ drop (suc (length values)) (kept_lines script)
      here = drop-next (kept_lines script) (length values) next.0 next.1

      -- a put that is refused as closed
      pub told_closed : (other : Packet) (new : PortState S Packet Answer) (after : Option (List ℕ)) → is_too_long script ≡ false
          → StepGives gives has_died port (Put 1 packet) (Refused (Closed other)) new → Appends now after (closed_line 1 (length values + 1))
          → Writes contents after (λ written. Told gives has_died opening moment script written true)
      told_closed other new after short step more =
          let same : other ≡ packet = put_closed gives has_died port.server (length values) packet other new (subst (λ o. StepGives gives has_died o (Put 1 packet) (Refused (Closed other)) new) sofar.quiet step)
          in let history = history_of_step gives has_died port (Put 1 packet) (Refused (Closed packet)) new (subst (λ o. StepGives gives has_died port (Put 1 packet) (Refused (Closed o)) new) same step)
          in told_last (closed_line 1 (length values + 1)) true after short (subst (λ l. TellOn port l values (closed_line 1 (length values + 1)) true) (sym here) (closed next.2 history)) more

      -- a reply
      pub told_reply : (reply : Reply Answer) (new : PortState S Packet Answer) (after : Option (List ℕ)) → reply.number ≡ length values + 1 → IsQuiet new (length values + 1)
          → Calls gives has_died moment port packet reply new → Appends now after (reply_line 1 reply.number reply.answer)
          → SoFar (values ++ answer_value reply.answer ∷ []) new after
      told_reply reply new after is_next quiet calls more =
          let grown = values ++ answer_value reply.answer ∷ []
          in let one_more : length grown ≡ length values + 1 = length-append values (answer_value reply.answer ∷ [])
          in let line = reply_line 1 (length values + 1) reply.answer
          in let history = subst (λ n. PortHistory gives has_died port (steps_of moment packet) (outcomes_of (record { number = n; answer = reply.answer })) new) is_next
          (history_of_call gives has_died moment port new packet reply calls)
          in record {
            quiet = subst (IsQuiet new) (sym one_more) quiet;
            told = sofar.told ++ line;
            written = appends_more contents now after sofar.told line sofar.written (subst (λ n. Appends now after (reply_line 1 n reply.answer)) is_next more);
            tells = λ text whole rest.
                let behind : length grown ≡ suc (length values) = omega (arith, one_more)
                in let goes_on = subst (λ n. LinesTell gives has_died moment new (drop (suc (length values)) (kept_lines script)) grown (n + 1) text whole) one_more
                (subst (λ n. TellOn new (drop n (kept_lines script)) grown text whole) behind rest)
                in subst (λ t. AllTell t whole) (sym (append_assoc sofar.told line text))
                (sofar.tells (line ++ text) whole (subst (λ l. TellOn port l values (line ++ text) whole) (sym here) (answered next.2 history goes_on)));
          }

module _ {S M : Type 0} (gives : S → Packet → M → S → Answer → Type 0) (has_died : S → Bool) (opening : PortState S Packet Answer) (moment : M) where
  -- the start of a script has the same output as the script
  pub told_of_front : (script kept written : List ℕ) (whole : Bool) → kept ≡ take 1048577 script → Told gives has_died opening moment kept written whole → Told gives has_died opening moment script written whole
  told_of_front script kept written whole is_front told = elim (cases_lt 1048576 (length script)) [
    | inl long ↦
        let kept_long : is_too_long kept ≡ true = lt-ltb 1048576 (length kept) (omega (arith, ap length is_front, length-take 1048577 script, long))
        in let script_long : is_too_long script ≡ true = lt-ltb 1048576 (length script) long
        in let Faulty : Type 0 = (whole ≡ false) × (written ≡ fault_line 1 0)
        in let Tells : List ℕ → Type 0 = λ l. LinesTell gives has_died moment opening (kept_lines l) [] 1 written whole
        in subst (λ b. MatchBool b Faulty (Tells script)) (sym script_long) (subst (λ b. MatchBool b Faulty (Tells kept)) kept_long told)
    | inr short ↦ subst (λ l. Told gives has_died opening moment l written whole) (is_front ∙ take_all 1048577 script (omega (arith, short))) told
  ]

  -- from the streams of a run to everything that was read
  pub told_through : (reader_old reader_new writer_old writer_mid writer_new : Option (List ℕ)) (kept view : List ℕ) (whole : Bool) → view ≡ kept
      → (script : List ℕ) × Consumes reader_old reader_new script × IsAtEnd reader_new × (kept ≡ take 1048577 script)
      → Keeps writer_mid writer_new
      → Writes writer_old writer_mid (λ written. Told gives has_died opening moment view written whole)
      → ReadsAndWrites reader_old reader_new writer_old writer_new (λ read written. Told gives has_died opening moment read written whole)
  told_through reader_old reader_new writer_old writer_mid writer_new kept view whole same read flushed writes =
      (read.0, read.1, read.2, (writes.0, appends_kept writer_old writer_mid writer_new writes.0 writes.1 flushed, told_of_front read.0 view writes.0 whole (same ∙ read.3) writes.2))
