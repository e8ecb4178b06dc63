use Rattle.std.proofs.Common.{arith, refl}
use Rattle.adf_io.proofs.Inputs.{kept_within, reads_whole, refused_more}
use Rattle.adf_io.proofs.load.load_bytes.Goals as goal

pub returns-then-input-gt0-clause-err : goal.returns-then-input-gt0-clause-err
returns-then-input-gt0-clause-err g c = refused_more _ _ _ _ c.in_ok-input.ensures.bytes c.if-input-gt0.true refl c.excess_fault.ensures

pub returns-clause-ok : goal.returns-clause-ok
returns-clause-ok g c = reads_whole 52020224 _ _ c.in_ok-input.input _ c.in_ok-input.ensures.bytes (omega (arith, c.if-input-gt0.false)) refl

pub returns-clause-within : goal.returns-clause-within
returns-clause-within g c = kept_within _ _ _ c.in_ok-input.input c.in_ok-input.ensures.bytes
