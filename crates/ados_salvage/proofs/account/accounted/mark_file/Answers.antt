use Rattle.std.proofs.Common.{◌≡◌, ℕ, ◌+◌, ◌-◌, ◌/◌, ◌%◌, length, ap, ◌∙◌, arith}
use Rattle.ados_salvage.proofs.AccountCommon.{pointer, data_blocks, pointer_block}
use Rattle.ados_data.proofs.Places.{readable}
use Rattle.ados_salvage.proofs.OwnBlocks.{file_all, file_more, needed_is}
use Rattle.ados_salvage.proofs.account.accounted.mark_file.Goals as goal

pub holder_of-holder-requires-clause-readable : goal.holder_of-holder-requires-clause-readable
holder_of-holder-requires-clause-readable c = readable c.args.image.now c.args.file c.requires.lawful

pub loop-i-preserved : goal.loop-i-preserved
loop-i-preserved c =
    let image = c.args.image.now in
    let holder = c.holder_of-holder.ensures.holder in
    let back : c.loop-i.i ≡ c.loop-i.i + 1 - 1 = omega arith in
    record {
      holder = holder ∙ ap (λ (k : ℕ). pointer_block c.args.image.now c.args.file (k / 72)) back;
      marked = file_more image c.args.file c.loop-i.i c.args.marks.now.items c.loop-i.marks.items c.mark-in-loop-i.new.marks.items c.mark-in-loop-i-2.new.marks.items c.holder_of-holder.result c.long.result holder
          (c.long.ensures ∙ ap (λ (h : ℕ). pointer c.args.image.now h (c.loop-i.i % 72)) holder) c.loop-i.invariant.marked c.mark-in-loop-i.ensures c.mark-in-loop-i-2.ensures;
    }

pub returns : goal.returns
returns c =
    let all : c.loop-i.i ≡ length (data_blocks c.args.image.now c.args.file) = omega (arith, c.loop-i-test.false, c.loop-i.auto.i-end, c.data_needed-i-end.ensures, needed_is c.args.image.now c.args.file) in
    file_all c.args.image.now c.args.file c.loop-i.i c.args.marks.now.items c.loop-i.marks.items all c.loop-i.invariant.marked
