use Rattle.ados_check.proofs.Common.{◌++◌, ◌*◌, take, AreKept, all_bytes}
use Rattle.ados_check.proofs.sketch.Sketch.with.Given as goal

abbrev pub invariant-loop-place : goal.invariant-loop-place
invariant-loop-place l = AreKept l.starts.items l.kept.items (all_bytes l.pieces.value ++ take (512 * l.place) l.piece.items)
