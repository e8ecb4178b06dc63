use Rattle.adf_text.proofs.Common.{length, refl, both_ways, IsLineEnd}
use Rattle.adf_text.proofs.ReadsLemmas.{breaks}
use Rattle.adf_text.proofs.uaem_reader.one_line.Goals as goal

pub returns-then-not-is_line_end-clause-fault : goal.returns-then-not-is_line_end-clause-fault
returns-then-not-is_line_end-clause-fault c =
    let line = c.split_at_control.result.0.now in
    let end = c.split_at_control.result.1.now in
    let split = c.split_at_control.ensures in
    let no_end : IsLineEnd end → ⊥ = λ is. both_ways c.is_line_end.result c.if-not-is_line_end.true (c.is_line_end.ensures.1 is) in
    (length line, refl, breaks c.args.text.now line end (length line) split.whole split.plain split.stops no_end refl)
