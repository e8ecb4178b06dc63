use Rattle.adf_block.proofs.Common.{ℕ, ◌≡◌, ◌++◌, ◌+◌, ◌-◌, ◌*◌, drop, subst, take, arith, hex_line}
use Rattle.adf_block.proofs.Showing.{more_lines}
use Rattle.adf_block.proofs.code_text.push_lines.Goals as goal

pub loop-line-preserved : goal.loop-line-preserved
loop-line-preserved c =
    let n = c.loop-line.line in
    let bytes = c.args.bytes.now in
    let sixteen : 16 * n + 16 - 16 * n ≡ 16 = omega arith in
    let step = subst (λ (k : ℕ). c.push_line.new.text.items ≡ c.loop-line.text.items ++ hex_line (16 * n) (take k (drop (16 * n) bytes))) sixteen c.in_ok-push_line.ensures in
    more_lines c.args.text.now.items c.loop-line.text.items c.push_line.new.text.items bytes n c.loop-line.invariant step
