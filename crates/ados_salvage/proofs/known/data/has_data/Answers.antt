use Rattle.ados_salvage.proofs.KnownCommon.{◌≡◌, ◌<◌, ◌+◌, ◌-◌, ℕ, suc, length, slice_index, sym, ap, ◌∙◌, subst, arith, below_more, long, NEXT_DATA, data_block, HasData, IsDataBlock, data_needed, data_before}
use Rattle.ados_salvage.proofs.FileBlocks.{file_below, before_below, decided, own_at, whole_data}
use Rattle.ados_salvage.proofs.SoundParts.{length-own}
use Rattle.ados_salvage.proofs.known.data.has_data.Goals as goal

pub overflow_sub-first : goal.overflow_sub-first
overflow_sub-first c = omega (arith, ap length c.requires.blocks, length-own c.args.image.now c.args.file, c.data_needed-needed.ensures)

pub bounds-blocks-first : goal.bounds-blocks-first
bounds-blocks-first c = omega (arith, ap length c.requires.blocks, length-own c.args.image.now c.args.file, c.data_needed-needed.ensures, c.loop-i-test.true)

pub is_data-requires-clause-file : goal.is_data-requires-clause-file
is_data-requires-clause-file c = file_below c.args.image.now c.args.file c.requires.holders

pub is_data-requires-clause-before : goal.is_data-requires-clause-before
is_data-requires-clause-before c =
    omega (arith, c.loop-i.invariant.before, before_below c.args.image.now c.args.file c.requires.holders c.loop-i.i c.loop-i.invariant.sound)

pub returns-then-not-is_data : goal.returns-then-not-is_data
returns-then-not-is_data c = λ h.
    let below : c.loop-i.i < data_needed c.args.image.now c.args.file = omega (arith, c.loop-i-test.true, c.data_needed-needed.ensures) in
    let block = own_at c.args.image.now c.args.file c.args.blocks.now c.data_needed-needed.result c.loop-i.i c.requires.blocks c.data_needed-needed.ensures below in
    let right : IsDataBlock c.args.image.now c.args.file c.loop-i.i c.loop-i.before (slice_index c.args.blocks.now (length c.args.blocks.now - c.data_needed-needed.result + c.loop-i.i)) =
    subst (λ (b : ℕ). IsDataBlock c.args.image.now c.args.file c.loop-i.i b (slice_index c.args.blocks.now (length c.args.blocks.now - c.data_needed-needed.result + c.loop-i.i))) (sym c.loop-i.invariant.before)
    (subst (λ (b : ℕ). IsDataBlock c.args.image.now c.args.file c.loop-i.i (data_before c.args.image.now c.args.file c.loop-i.i) b) (sym block) (h.block c.loop-i.i below)) in
    absurd (cc (c.is_data.ensures.1 right, c.if-not-is_data.true))

pub loop-i-preserved : goal.loop-i-preserved
loop-i-preserved c =
    let below : c.loop-i.i < data_needed c.args.image.now c.args.file = omega (arith, c.loop-i-test.true, c.data_needed-needed.ensures) in
    let block = own_at c.args.image.now c.args.file c.args.blocks.now c.data_needed-needed.result c.loop-i.i c.requires.blocks c.data_needed-needed.ensures below in
    let next : c.loop-i.i + 1 ≡ suc c.loop-i.i = omega arith in
    record {
      before = block ∙ ap (data_before c.args.image.now c.args.file) (sym next);
      sound = below_more _ _ c.loop-i.invariant.sound
          (subst (λ (b : ℕ). IsDataBlock c.args.image.now c.args.file c.loop-i.i b (data_block c.args.image.now c.args.file c.loop-i.i)) c.loop-i.invariant.before
          (subst (λ (b : ℕ). IsDataBlock c.args.image.now c.args.file c.loop-i.i c.loop-i.before b) block (c.is_data.ensures.0 c.if-not-is_data.false)));
    }

pub returns : goal.returns
returns c =
    let count : c.loop-i.i ≡ data_needed c.args.image.now c.args.file = omega (arith, c.loop-i-test.false, c.loop-i.auto.i-end, c.data_needed-needed.ensures) in
    decided (HasData c.args.image.now c.args.file) (¬ HasData c.args.image.now c.args.file) c.is_last.result
    (λ yes. whole_data c.args.image.now c.args.file c.loop-i.i count c.loop-i.invariant.sound
    (λ ofs. ap (λ (b : ℕ). long c.args.image.now b NEXT_DATA) (sym c.loop-i.invariant.before) ∙ c.is_last.ensures.0 yes ofs))
    (λ no h.
    let ends = c.is_last.ensures.1 (λ ofs.
    ap (λ (b : ℕ). long c.args.image.now b NEXT_DATA) (c.loop-i.invariant.before ∙ ap (data_before c.args.image.now c.args.file) count) ∙ h.ends ofs) in
    absurd (cc (ends, no)))
