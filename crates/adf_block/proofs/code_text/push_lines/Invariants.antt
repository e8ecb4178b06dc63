use Rattle.adf_block.proofs.Common.{◌≡◌, ◌++◌, hex_lines}
use Rattle.adf_block.proofs.code_text.push_lines.Given as goal

abbrev pub invariant-loop-line : goal.invariant-loop-line
invariant-loop-line l = l.text.items ≡ l.fn.text.items ++ hex_lines l.bytes l.line
