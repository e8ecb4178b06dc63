use Rattle.adf_script.proofs.Common.{◌≡◌, ◌+◌, length, slice_get, sym, ◌∙◌, arith, rules}
use Rattle.adf_script.proofs.LineLemmas.{none_left, left-kept, line_here}
use Rattle.adf_script.proofs.packet_lines.PacketLines.next_line.Goals as goal

pub invariant_of-self-then-not-is_passed_over : goal.invariant_of-self-then-not-is_passed_over
invariant_of-self-then-not-is_passed_over c = (
  left-kept c.loop-self.self-inside.script.value.now c.loop-self.self-inside.number c.loop-self.self-inside.count c.loop-self.self-inside.rest.now c.loop-self.invariant.left
      c.first_line.result.0.now c.first_line.result.1.now c.first_line.ensures.lines (sym c.is_passed_over.ensures ∙ c.if-not-is_passed_over.true),
  omega (arith, c.loop-self.invariant.few),
  omega (arith, c.loop-self.invariant.bounded, c.first_line.ensures.shorter),
)

pub returns-then-not-is_passed_over : goal.returns-then-not-is_passed_over
returns-then-not-is_passed_over c =
    let same = c.loop-self.invariant in
    let here = line_here c.loop-self.self-inside.script.value.now c.loop-self.self-inside.number c.loop-self.self-inside.count c.loop-self.self-inside.rest.now same.left
    c.first_line.result.0.now c.first_line.result.1.now c.first_line.ensures.lines (sym c.is_passed_over.ensures ∙ c.if-not-is_passed_over.true) in (
      sym (λ i. slice_get (same.lines i) (same.count i)) ∙ here,
      λ i. record { lines = same.lines i; count = same.count i + 1 },
    )

pub returns : goal.returns
returns c =
    let same = c.loop-self.invariant in
    let none : length c.loop-self.self-inside.rest.now ≡ 0 = search rules in
    sym (λ i. slice_get (same.lines i) (same.count i))
    ∙ none_left c.loop-self.self-inside.script.value.now c.loop-self.self-inside.number c.loop-self.self-inside.count c.loop-self.self-inside.rest.now same.left none
