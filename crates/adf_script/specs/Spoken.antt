-- The output of one client's script at a running port.
use Rattle.std.specs.Prelude.{◌≡◌, ◌⊎◌, ℕ, ◌+◌, Bool, IsTrue, List, [], ◌++◌, length}
use Rattle.std.specs.Bool.{MatchBool}
use Rattle.ados_model.specs.declared.packet.Packet.{Packet}
use Rattle.ados_model.specs.declared.answer.Answer.{Answer}
use Rattle.ados_port.specs.Lawful.{numbered}
use Rattle.ados_port.specs.declared.step.Reply.{Reply}
use Rattle.adf_script.specs.declared.ending.ClientEnding.{ClientEnding}
use Rattle.adf_script.specs.declared.ending.ClientEnding.TheVariants.{Done, Script, Tries}
use Rattle.adf_script.specs.Lines.{kept_lines, is_too_long}
use Rattle.adf_script.specs.Values.{answer_values}
use Rattle.adf_script.specs.Text.{reply_lines, closed_line, fault_line, no_reply_line, no_room_line}
use Rattle.adf_script.specs.Packets.{ArePackets, NextPuts, NextIsFaulty, NoneIsLeft}

-- the last line of a client that put this many packets and took these answers; `knows`: its end knows that the port is
-- closed
abbrev pub SpokenEnd : ℕ → List (ℕ × List ℕ) → List Answer → ℕ → Bool → List ℕ → ClientEnding → Type 0
SpokenEnd client lines answers puts knows text Done =
    (puts ≡ length answers)
    × ((NoneIsLeft lines puts × (text ≡ []))
    ⊎ ((packet : Packet) × NextPuts lines (answer_values answers) puts packet × IsTrue knows
    × (text ≡ closed_line client (puts + 1))))
SpokenEnd client lines answers puts knows text Script =
    (puts ≡ length answers) × (number : ℕ) × NextIsFaulty lines (answer_values answers) puts number
    × (text ≡ fault_line client number)
SpokenEnd client lines answers puts knows text Tries =
    ((puts ≡ length answers) × (packet : Packet) × NextPuts lines (answer_values answers) puts packet
    × (text ≡ no_room_line client (puts + 1)))
    ⊎ ((puts ≡ length answers + 1) × (text ≡ no_reply_line client puts))

-- the client put the packets of its script, took these replies, and its text has their lines
abbrev pub Spoken : ℕ → List ℕ → List Packet → List (Reply Answer) → Bool → List ℕ → ClientEnding → Type 0
Spoken client script puts taken knows text ending =
    MatchBool (is_too_long script)
    ((puts ≡ []) × (taken ≡ []) × (text ≡ fault_line client 0) × (ending ≡ Script))
    ((answers : List Answer) × (taken ≡ numbered 1 answers) × ArePackets (kept_lines script) answers puts
    × (last : List ℕ) × SpokenEnd client (kept_lines script) answers (length puts) knows last ending
    × (text ≡ reply_lines client 1 answers ++ last))
