use Rattle.std.proofs.Common.{◌≡◌, ℕ, ◌+◌, ◌-◌, ◌/◌, ◌%◌, ◌++◌, length, map, ap, ap₂, ◌∙◌, arith}
use Rattle.std.specs.List.{range_with_len}
use Rattle.ados_salvage.proofs.AccountCommon.{pointer, data_blocks, pointer_block}
use Rattle.ados_data.proofs.Places.{readable}
use Rattle.ados_salvage.proofs.OwnBlocks.{needed_is}
use Rattle.ados_salvage.proofs.Telling.{told_more}
use Rattle.ados_salvage.specs.Parts.{data_told}
use Rattle.ados_salvage.specs.declared.account.part.Part.TheVariants.{Data}
use Rattle.ados_salvage.proofs.account.blocks.push_file.Goals as goal

pub holder_of-holder-requires-clause-readable : goal.holder_of-holder-requires-clause-readable
holder_of-holder-requires-clause-readable c = readable c.args.image.now c.args.file c.requires.lawful

pub loop-i-preserved : goal.loop-i-preserved
loop-i-preserved c =
    let image = c.args.image.now in
    let file = c.args.file in
    let i = c.loop-i.i in
    let holder = c.holder_of-holder.ensures.holder in
    let back : c.loop-i.i ≡ c.loop-i.i + 1 - 1 = omega arith in
    let at = c.long-block.ensures ∙ ap (λ (h : ℕ). pointer c.args.image.now h (c.loop-i.i % 72)) holder in
    record {
      holder = holder ∙ ap (λ (k : ℕ). pointer_block c.args.image.now c.args.file (k / 72)) back;
      told = told_more (data_told image file) c.args.told.now.items c.loop-i.told.items _ i _ c.loop-i.invariant.told c.in_ok-push.ensures.items
          (ap₂ (λ (b h : ℕ). record { block = b; part = Data c.args.file c.loop-i.i h }) at holder);
    }

pub returns : goal.returns
returns c =
    let all : c.loop-i.i ≡ length (data_blocks c.args.image.now c.args.file) = omega (arith, c.loop-i-test.false, c.loop-i.auto.i-end, c.data_needed-i-end.ensures, needed_is c.args.image.now c.args.file) in
    c.loop-i.invariant.told ∙ ap (λ (n : ℕ). c.args.told.now.items ++ map (data_told c.args.image.now c.args.file) (range_with_len 0 n)) all
