use Rattle.adf_script.proofs.Common.{◌≡◌, ◌+◌, ◌<◌, ◌≤◌, ◌^◌, length, kept_lines, IsLeft}
use Rattle.adf_script.proofs.packet_lines.PacketLines.next_line.Given as goal

abbrev pub invariant-loop-self : goal.invariant-loop-self
invariant-loop-self l = record {
  left : IsLeft l.self-inside.script.value.now l.self-inside.number l.self-inside.count l.self-inside.rest.now;
  few : l.self-inside.count ≤ l.self-inside.number;
  bounded : l.self-inside.number + length l.self-inside.rest.now < 2 ^ 64;
  lines : kept_lines l.self-inside.script.value.now ≡ l.fn.self.lines;
  count : l.self-inside.count ≡ l.fn.self.count;
}

abbrev pub decreases-loop-self : goal.decreases-loop-self
decreases-loop-self l = length l.self-inside.rest.now
