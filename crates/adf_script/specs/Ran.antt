-- The output of a script as one run: its packets go through the port in one history, from the opening to the script's
-- end.
use Rattle.std.specs.Prelude.{◌≡◌, ℕ, ◌+◌, Bool, true, false, List, [], ◌∷◌, ◌++◌, length, flat_map}
use Rattle.std.specs.Bool.{MatchBool}
use Rattle.ados_model.specs.declared.packet.Packet.{Packet}
use Rattle.ados_model.specs.declared.answer.Answer.{Answer}
use Rattle.ados_port.specs.History.{PortState, PortHistory}
use Rattle.ados_port.specs.Lawful.{numbered}
use Rattle.ados_port.specs.declared.step.Step.{Step}
use Rattle.ados_port.specs.declared.step.Step.TheVariants.{Put}
use Rattle.ados_port.specs.declared.step.PutRefused.TheVariants.{Closed}
use Rattle.ados_port.specs.declared.step.Outcome.{Outcome}
use Rattle.ados_port.specs.declared.step.Outcome.TheVariants.{Refused}
use Rattle.adf_script.specs.Lines.{kept_lines, is_too_long}
use Rattle.adf_script.specs.Values.{answer_values}
use Rattle.adf_script.specs.Packets.{ArePackets, NextPuts, NextIsFaulty, NoneIsLeft}
use Rattle.adf_script.specs.Text.{reply_lines, closed_line, fault_line}
use Rattle.adf_script.specs.Told.{Told, steps_of, outcomes_of}

-- how a script ends: no line is left, a put is refused as closed, or the line with this number is faulty
pub data Ending : Type 0 where
  AtEnd : Ending
  AtClosed : (packet : Packet) → Ending
  AtFault : (number : ℕ) → Ending

abbrev pub is_whole : Ending → Bool
is_whole AtEnd = true
is_whole (AtClosed packet) = true
is_whole (AtFault number) = false

-- after these answers and this many packets, the lines end this way
abbrev pub EndsWith : List (ℕ × List ℕ) → List Answer → ℕ → Ending → Type 0
EndsWith lines answers count AtEnd = NoneIsLeft lines count
EndsWith lines answers count (AtClosed packet) = NextPuts lines (answer_values answers) count packet
EndsWith lines answers count (AtFault number) = NextIsFaulty lines (answer_values answers) count number

abbrev pub last_steps : {M : Type 0} → Ending → List (Step Packet M)
last_steps AtEnd = []
last_steps (AtClosed packet) = Put 1 packet ∷ []
last_steps (AtFault number) = []

abbrev pub last_outcomes : Ending → List (Outcome Packet Answer)
last_outcomes AtEnd = []
last_outcomes (AtClosed packet) = Refused (Closed packet) ∷ []
last_outcomes (AtFault number) = []

-- the last line of the output after this many replies
abbrev pub last_line : ℕ → Ending → List ℕ
last_line count AtEnd = []
last_line count (AtClosed packet) = closed_line 1 (count + 1)
last_line count (AtFault number) = fault_line 1 number

module _ {S M : Type 0} (gives : S → Packet → M → S → Answer → Type 0) (has_died : S → Bool) (opening : PortState S Packet Answer) (moment : M) where
  -- the packets of the lines went through the port one after the other, with these answers and this end
  pub record Ran (lines : List (ℕ × List ℕ)) (answers : List Answer) (ending : Ending) : Type 0 where
    pub packets : List Packet
    pub each : ArePackets lines answers packets
    pub ends : EndsWith lines answers (length packets) ending
    pub closing : PortState S Packet Answer
    pub history : PortHistory gives has_died opening
        (flat_map (steps_of moment) packets ++ last_steps ending)
        (flat_map outcomes_of (numbered 1 answers) ++ last_outcomes ending)
        closing

  -- the text is the output of one run of these lines, a whole script or one with a fault
  abbrev pub TellsRun : List (ℕ × List ℕ) → List ℕ → Bool → Type 0
  TellsRun lines text whole =
      (answers : List Answer) × (ending : Ending) × Ran lines answers ending × (whole ≡ is_whole ending)
      × (text ≡ reply_lines 1 1 answers ++ last_line (length answers) ending)

  -- the output is that of one run of the script that was read; a script that is too long prints one line
  abbrev pub TellsOneRun : List ℕ → List ℕ → Bool → Type 0
  TellsOneRun read written whole =
      MatchBool (is_too_long read)
      ((whole ≡ false) × (written ≡ fault_line 1 0))
      (TellsRun (kept_lines read) written whole)

-- the output of a script line by line is that of one run, in one history of the port from its opening
abbrev pub LinesAreOneRun : {S M : Type 0} (gives : S → Packet → M → S → Answer → Type 0) (has_died : S → Bool) → Type 0
LinesAreOneRun {S} {M} gives has_died =
    (opening : PortState S Packet Answer) (moment : M) (read written : List ℕ) (whole : Bool)
    → Told gives has_died opening moment read written whole → TellsOneRun gives has_died opening moment read written whole
