use Rattle.std.proofs.Common.{◌≡◌, length, drop, ◌∙◌, sym, arith}
use Rattle.adf_host.proofs.Sketching.{piece_more, whole_buffer}
use Rattle.adf_host.proofs.sketched.read_sketch.Goals as goal

pub loop-rest-preserved : goal.loop-rest-preserved
loop-rest-preserved g c =
    let piece = c.fill.new.piece in
    let size : length piece ≡ c.truncate.new.self.len = c.fill.ensures.length ∙ c.deref_mut.ensures.len in
    let given = c.in_ok-fill.ensures.bytes c.if-not-branch.false in
    let same = whole_buffer c.truncate.new.self.len piece (drop (length piece) c.truncate.new.self.items) size in
    piece_more _ _ _ _ c.loop-rest.sketch _ _ piece _ c.loop-rest.rest _ c.loop-rest.invariant c.loop-rest-test.true
    (omega (arith, c.truncate.ensures.len, c.loop-rest.piece.ok.0, c.len.ensures)) (size ∙ sym c.len.ensures) given same c.in_ok-sketch-2.ensures
