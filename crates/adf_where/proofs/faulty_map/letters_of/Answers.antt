use Rattle.std.specs.List.{range_with_len}
use Rattle.adf_block.specs.Image.{block_count}
use Rattle.adf_where.proofs.Common.{◌≡◌, ℕ, subst, arith, AllZip}
use Rattle.adf_where.specs.FaultyMap.{HasLetter}
use Rattle.adf_where.proofs.Mapping.{letter_more}
use Rattle.adf_where.proofs.faulty_map.letters_of.Goals as goal

pub loop-block-preserved : goal.loop-block-preserved
loop-block-preserved c =
    letter_more c.args.image.now c.args.unread.now c.loop-block.block c.loop-block.letters.items c.push.new.self.items c.shown_letter.result c.loop-block.invariant
    (record { mark = c.mark_of-mark.result; is = c.mark_of-mark.ensures; letter_is = c.shown_letter.ensures }) c.in_ok-push.ensures.items

pub returns : goal.returns
returns c =
    let all : c.loop-block.block ≡ block_count c.args.image.now = omega (arith, c.loop-block-test.false, c.loop-block.auto.block-end, c.blocks-block-end.ensures.count) in
    subst (λ (n : ℕ). AllZip (HasLetter c.args.image.now c.args.unread.now) (range_with_len 0 n) c.loop-block.letters.items) all c.loop-block.invariant
