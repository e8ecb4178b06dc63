-- The output of a script line by line, for any server.
use Rattle.std.specs.Prelude.{◌≡◌, ℕ, ◌+◌, Bool, true, false, List, [], ◌∷◌, ◌++◌, Option}
use Rattle.std.specs.Bool.{MatchBool}
use Rattle.ados_model.specs.declared.packet.Packet.{Packet}
use Rattle.ados_model.specs.declared.answer.Answer.{Answer}
use Rattle.ados_port.specs.History.{PortState, opening_port, PortHistory}
use Rattle.ados_port.specs.declared.step.Step.{Step}
use Rattle.ados_port.specs.declared.step.Step.TheVariants.{Put, Serve, Take}
use Rattle.ados_port.specs.declared.step.PutRefused.TheVariants.{Closed}
use Rattle.ados_port.specs.declared.step.Reply.{Reply}
use Rattle.ados_port.specs.declared.step.Outcome.{Outcome}
use Rattle.ados_port.specs.declared.step.Outcome.TheVariants.{Accepted, Refused, Served, Taken}
use Rattle.adf_script.specs.Lines.{kept_lines, is_too_long}
use Rattle.adf_script.specs.Streams.{ReadsAndWrites}
use Rattle.adf_io.specs.Prefix.{Writes}
use Rattle.adf_script.specs.Values.{answer_value}
use Rattle.adf_script.specs.Grammar.{IsPacketLine, IsFaulty}
use Rattle.adf_script.specs.Text.{reply_line, closed_line, fault_line}

-- client 1 puts a packet with this time stamp, it is served, and its reply is taken
abbrev pub steps_of : {M : Type 0} → M → Packet → List (Step Packet M)
steps_of moment packet = Put 1 packet ∷ Serve moment ∷ Take 1 ∷ []

abbrev pub outcomes_of : Reply Answer → List (Outcome Packet Answer)
outcomes_of reply = Accepted reply.number ∷ Served ∷ Taken reply ∷ []

module _ {S M : Type 0} (gives : S → Packet → M → S → Answer → Type 0) (has_died : S → Bool) (moment : M) where
  -- from this port, the remaining lines print this text; `whole` is false if a line is faulty; the replies so far have
  -- these values, and the next one has this number
  pub data LinesTell : PortState S Packet Answer → List (ℕ × List ℕ) → List (Option ℕ) → ℕ → List ℕ → Bool
      → Type 0 where
    -- no line is left: nothing more is printed, and the script is whole
    ended : {port : PortState S Packet Answer} {values : List (Option ℕ)} {next : ℕ}
        → LinesTell port [] values next [] true
    -- the next line puts a packet; it is served and its reply taken; the reply's line is printed, then the text of the
    -- remaining lines
    answered : {port new : PortState S Packet Answer} {line : ℕ
        × List ℕ} {lines : List (ℕ × List ℕ)} {values : List (Option ℕ)} {next : ℕ}
        {packet : Packet} {answer : Answer} {text : List ℕ} {whole : Bool}
        → IsPacketLine values packet line.1
        → PortHistory gives has_died port (steps_of moment packet)
        (outcomes_of (record { number = next; answer = answer })) new
        → LinesTell new lines (values ++ answer_value answer ∷ []) (next + 1) text whole
        → LinesTell port (line ∷ lines) values next (reply_line 1 next answer ++ text) whole
    -- the next line puts a packet, and the put is refused as closed: this is printed, and the script is whole
    closed : {port new : PortState S Packet Answer} {line : ℕ
        × List ℕ} {lines : List (ℕ × List ℕ)} {values : List (Option ℕ)} {next : ℕ} {packet : Packet}
        → IsPacketLine values packet line.1
        → PortHistory gives has_died port (Put 1 packet ∷ []) (Refused (Closed packet) ∷ []) new
        → LinesTell port (line ∷ lines) values next (closed_line 1 next) true
    -- the next line is faulty: its number is printed, and the script is not whole
    faulty : {port : PortState S Packet Answer} {line : ℕ
        × List ℕ} {lines : List (ℕ × List ℕ)} {values : List (Option ℕ)} {next : ℕ}
        → IsFaulty values line.1
        → LinesTell port (line ∷ lines) values next (fault_line 1 line.0) false

module _ {S M : Type 0} (gives : S → Packet → M → S → Answer → Type 0) (has_died : S → Bool)
    (opening : PortState S Packet Answer) (moment : M) where
  -- the written text is the output of the script's lines from this port; a script that is too long prints one line
  abbrev pub Told : List ℕ → List ℕ → Bool → Type 0
  Told read written whole =
      MatchBool (is_too_long read)
      ((whole ≡ false) × (written ≡ fault_line 1 0))
      (LinesTell gives has_died moment opening (kept_lines read) [] 1 written whole)

  -- this output was written to a writer, given before and after
  abbrev pub WritesTold : List ℕ → Bool → Option (List ℕ) → Option (List ℕ) → Type 0
  WritesTold read whole old new = Writes old new (λ written. Told read written whole)

-- everything a reader has is read as a script, and its output written to a writer; the port opens with this server and
-- one client; each stream is given by its data before and after
abbrev pub ReadsAndTells : {S M R W : Type 0} (gives : S → Packet → M → S → Answer → Type 0) (has_died : S → Bool)
    (server : S) (moment : M) (whole : Bool)
    (remaining : R → Option (List ℕ)) (reader_old reader_new : R) (contents : W → Option (List ℕ))
    (writer_old writer_new : W) → Type 0
ReadsAndTells gives has_died server moment whole remaining reader_old reader_new contents writer_old writer_new =
    ReadsAndWrites (remaining reader_old) (remaining reader_new) (contents writer_old) (contents writer_new)
    (λ read written. Told gives has_died (opening_port server 1) moment read written whole)
