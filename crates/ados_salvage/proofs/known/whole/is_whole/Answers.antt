use Rattle.ados_salvage.proofs.KnownCommon.{Bool, MatchBool}
use Rattle.std.proofs.lemmas.Result.{IfOk-weaker}
use Rattle.ados_salvage.specs.Found.{HasNoFiller, IsSavedWhole}
use Rattle.ados_salvage.proofs.Keeping.{has_claimant, saved_counted, saved_uncounted}
use Rattle.ados_salvage.proofs.known.whole.is_whole.Goals as goal

pub returns-then-not-has : goal.returns-then-not-has
returns-then-not-has c = λ saved. (rw c.if-not-has.true at c.in_ok-has.ensures) saved.has

pub returns-then-not-known : goal.returns-then-not-known
returns-then-not-known c =
    let known = c.args.known.now in
    saved_uncounted known.left_out known.holes.items known.image c.args.file known.fillers c.if-not-known.true (rw c.if-not-has.false at c.in_ok-has.ensures)

pub has_no_filler-requires : goal.has_no_filler-requires
has_no_filler-requires c =
    let known = c.args.known.now in
    (has_claimant known.left_out known.holes.items known.image c.args.file (rw c.if-not-has.false at c.in_ok-has.ensures)).intact

pub returns : goal.returns
returns c =
    let known = c.args.known.now in
    IfOk-weaker c.has_no_filler.result (λ (none : Bool). MatchBool none (HasNoFiller known.image c.args.file) (¬ HasNoFiller known.image c.args.file))
    (λ (whole : Bool). MatchBool whole (IsSavedWhole known.left_out known.holes.items known.fillers known.image c.args.file) (¬ IsSavedWhole known.left_out known.holes.items known.fillers known.image c.args.file))
    (λ whole none. saved_counted known.left_out known.holes.items known.image c.args.file known.fillers c.if-not-known.false (rw c.if-not-has.false at c.in_ok-has.ensures) whole none) c.has_no_filler.ensures
