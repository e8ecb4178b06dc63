use Rattle.ados_salvage.proofs.Common.{◌≡◌, ◌≤◌, ℕ, ◌+◌, ◌-◌, take, drop, length, ap, ◌∙◌, arith, bytes_at}
use Rattle.ados_data.proofs.Reading.{length-bytes_at}
use Rattle.ados_volume.proofs.Examining.{part_of_block}
use Rattle.ados_salvage.proofs.header_entry.comment_text.Goals as goal

pub returns : goal.returns
returns c =
    let count : 329 + c.byte-length.result - 329 ≡ c.byte-length.result = omega arith in
    let room : 329 + c.byte-length.result ≤ 512 = omega (arith, c.requires.short, c.byte-length.ensures) in
    let part : take (329 + c.byte-length.result - 329) (drop 329 c.block.result.now) ≡ bytes_at c.args.image.now c.args.block 329 c.byte-length.result =
    ap (λ (m : ℕ). take m (drop 329 c.block.result.now)) count
    ∙ part_of_block c.args.image.now c.args.block 329 c.byte-length.result c.block.result.now c.block.ensures.bytes room in
    record {
      text = part ∙ ap (bytes_at c.args.image.now c.args.block 329) c.byte-length.ensures;
      short = omega (arith, ap length part, length-bytes_at c.args.image.now c.args.block 329 c.byte-length.result c.requires.inside room, c.requires.short, c.byte-length.ensures);
    }
