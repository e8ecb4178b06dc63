use Rattle.std.proofs.Common.{◌≡◌, ◌≤◌, ℕ, ◌+◌, ◌-◌, take, drop, ap, ◌∙◌, arith}
use Rattle.adf_block.specs.Image.{bytes_at}
use Rattle.ados_volume.proofs.Examining.{part_of_block}
use Rattle.ados_volume.proofs.examine.text_in.Goals as goal

pub returns : goal.returns
returns c =
    let n = c.byte-length.result in
    let start = c.args.at + 1 in
    let count : start + n - start ≡ n = omega arith in
    let room : start + n ≤ 512 = omega (arith, c.requires.room, c.byte-length.ensures) in
    ap (λ (m : ℕ). take m (drop start c.block.result.now)) count
    ∙ part_of_block c.args.image.now c.args.key start n c.block.result.now c.block.ensures.bytes room
    ∙ ap (bytes_at c.args.image.now c.args.key start) c.byte-length.ensures
