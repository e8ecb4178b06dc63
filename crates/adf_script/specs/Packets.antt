-- The packets of a script's lines.
use Rattle.std.specs.Prelude.{◌≡◌, ℕ, List, take, slice_get, Option, Some, None}
use Rattle.ados_model.specs.declared.packet.Packet.{Packet}
use Rattle.ados_model.specs.declared.answer.Answer.{Answer}
use Rattle.adf_script.specs.Values.{answer_values}
use Rattle.adf_script.specs.Grammar.{IsPacketLine, IsFaulty}

-- the line after `count` packet lines stands for this packet, with these values of earlier replies
abbrev pub NextPuts : List (ℕ × List ℕ) → List (Option ℕ) → ℕ → Packet → Type 0
NextPuts lines values count packet =
    (line : ℕ × List ℕ) × (slice_get lines count ≡ Some line) × IsPacketLine values packet line.1

-- that line is faulty, and has this number
abbrev pub NextIsFaulty : List (ℕ × List ℕ) → List (Option ℕ) → ℕ → ℕ → Type 0
NextIsFaulty lines values count number =
    (line : List ℕ) × (slice_get lines count ≡ Some (number, line)) × IsFaulty values line

-- there is no such line
abbrev pub NoneIsLeft : List (ℕ × List ℕ) → ℕ → Type 0
NoneIsLeft lines count = slice_get lines count ≡ None

-- these are the packets of the first packet lines; each line is read after the answers to the packets before it
abbrev pub ArePackets : List (ℕ × List ℕ) → List Answer → List Packet → Type 0
ArePackets lines answers packets =
    (i : ℕ) (packet : Packet) → slice_get packets i ≡ Some packet
    → NextPuts lines (answer_values (take i answers)) i packet
