use Rattle.ados_data.proofs.Common.{subst, arith, IsSize}
use Rattle.ados_data.proofs.Lengthening.{filled_call, end_apart}
use Rattle.ados_data.proofs.grow.fill_last.Goals as goal

pub resize-requires-clause-file : goal.resize-requires-clause-file
resize-requires-clause-file c = omega (arith, c.requires.writable.lawful.places.headers_inside 0 (omega arith))

pub resize-requires-clause-apart : goal.resize-requires-clause-apart
resize-requires-clause-apart c = end_apart c.requires.writable c.requires.end

pub returns-clause-grown : goal.returns-clause-grown
returns-clause-grown c = (filled_call c.requires.writable (subst IsSize c.blocks-2.ensures.count c.blocks-2.ensures.size) c.requires.format c.requires.end c.data_size-room.ensures c.long-old.ensures c.if-from-eq0.false (omega (arith, c.min-part.ensures)) c.resize.ensures).grown

pub returns-clause-end : goal.returns-clause-end
returns-clause-end c = (filled_call c.requires.writable (subst IsSize c.blocks-2.ensures.count c.blocks-2.ensures.size) c.requires.format c.requires.end c.data_size-room.ensures c.long-old.ensures c.if-from-eq0.false (omega (arith, c.min-part.ensures)) c.resize.ensures).end_is

pub returns-clause-bytes : goal.returns-clause-bytes
returns-clause-bytes c = (filled_call c.requires.writable (subst IsSize c.blocks-2.ensures.count c.blocks-2.ensures.size) c.requires.format c.requires.end c.data_size-room.ensures c.long-old.ensures c.if-from-eq0.false (omega (arith, c.min-part.ensures)) c.resize.ensures).bytes
