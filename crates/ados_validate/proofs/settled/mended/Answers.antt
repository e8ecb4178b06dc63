use Rattle.std.proofs.Common.{arith, inl, inr}
use Rattle.ados_validate.proofs.Anew.{anew}
use Rattle.ados_validate.proofs.CarryFaults.{shows_none}
use Rattle.ados_validate.proofs.settled.mended.Goals as goal

pub returns-in-Ok : goal.returns-in-Ok
returns-in-Ok c = λ force. anew c.args.image c.settle.new.image c.in-Ok.accepted.image (omega arith) c.requires c.settle.ensures.rest c.settle.ensures.not_valid c.in-Ok.accepted.was_validated c.in-Ok.ensures.answer

pub unreachable-requires : goal.unreachable-requires
unreachable-requires c = elim c.in-Err.ensures.answer.1 [
  | inl shows ↦ shows_none c.args.image c.settle.new.image c.blocks-2.ensures.image c.requires c.settle.ensures c.in-Err.rejected.fault.kind c.in-Err.rejected.fault.block shows
  | inr memory ↦ c.in_default.not-NoMemory memory.0
]
