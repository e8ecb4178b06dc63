use Rattle.ados_check.proofs.Common.{arith}
use Rattle.ados_check.proofs.Headers.{within, pointers_as, few_extensions}
use Rattle.ados_check.proofs.FilesTold.{fields_told, holder_told}
use Rattle.ados_check.proofs.counts.count_blocks.Goals as goal

pub long-next-requires-clause-told : goal.long-next-requires-clause-told
long-next-requires-clause-told c =
    holder_told c.args.source.now c.args.file c.requires.reached c.loop-passed.holder c.loop-passed.passed c.loop-passed.invariant.holder
    (within c.args.source.now.bytes c.args.file c.requires.reached c.loop-passed.passed c.loop-passed.invariant.goes_on) 126

pub count_in-requires-clause-held : goal.count_in-requires-clause-held
count_in-requires-clause-held c =
    pointers_as c.args.source.now.bytes c.args.file c.requires.reached c.args.entry c.requires.entry c.loop-passed.passed c.loop-passed.holder c.loop-passed.role
    (within c.args.source.now.bytes c.args.file c.requires.reached c.loop-passed.passed c.loop-passed.invariant.goes_on) c.loop-passed.invariant.holder c.loop-passed.invariant.first c.loop-passed.invariant.further

pub count_in-requires-clause-fields : goal.count_in-requires-clause-fields
count_in-requires-clause-fields c =
    fields_told c.args.source.now c.args.file c.requires.reached c.args.entry c.requires.entry c.loop-passed.holder c.loop-passed.passed c.loop-passed.role c.loop-passed.invariant.holder
    (within c.args.source.now.bytes c.args.file c.requires.reached c.loop-passed.passed c.loop-passed.invariant.goes_on) c.loop-passed.invariant.first c.loop-passed.invariant.further

pub count_in-requires-clause-told : goal.count_in-requires-clause-told
count_in-requires-clause-told c =
    holder_told c.args.source.now c.args.file c.requires.reached c.loop-passed.holder c.loop-passed.passed c.loop-passed.invariant.holder
    (within c.args.source.now.bytes c.args.file c.requires.reached c.loop-passed.passed c.loop-passed.invariant.goes_on)

pub unreachable-requires : goal.unreachable-requires
unreachable-requires c =
    omega (arith, c.loop-passed-test.false, c.blocks-passed-end.ensures.count, few_extensions c.args.source.now.bytes c.args.file c.requires.reached, within c.args.source.now.bytes c.args.file c.requires.reached c.loop-passed.passed c.loop-passed.invariant.goes_on)
