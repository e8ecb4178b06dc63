use Rattle.ados_salvage.proofs.KnownCommon.{ℕ, below_more, inl, sym, subst, arith, Found, IsToldHeader, AreFound, IsFound}
use Rattle.ados_salvage.proofs.known.headers.all_sound.Goals as goal
use Rattle.ados_salvage.proofs.known.headers.all_sound.Goals.{then-is_told_header+in_ok-note, else-is_told_header}

pub loop-block-init : goal.loop-block-init
loop-block-init c = record { found = c.in_ok-found.ensures c.args.left_out.now; sound = λ block l told. absurd (omega (arith, l)) }

pub loop-block-preserved : goal.loop-block-preserved
loop-block-preserved c = elim c.if-is_told_header.branch [
  | then-is_told_header+in_ok-note w ↦
      (let told = (c.is_told_header.ensures c.args.image.now c.requires (omega arith)).0 w.if-is_told_header.true in
      let more = w.in_ok-note.ensures.more c.args.left_out.now c.args.image.now (inl told) c.loop-block.invariant.found in
      record {
        found = subst (λ (f : Found). AreFound c.args.left_out.now c.args.image.now f) (sym w.found-is) more.found;
        sound = λ b l.
            subst (λ (f : Found). IsToldHeader c.args.left_out.now c.args.image.now b → IsFound f.marks.items b) (sym w.found-is)
            (below_more (λ (k : ℕ). IsToldHeader c.args.left_out.now c.args.image.now k → IsFound w.note.new.self.marks.items k) c.loop-block.block
            (λ k m is. more.kept k (c.loop-block.invariant.sound k m is)) (λ is. w.in_ok-note.ensures.found) b l);
      })
  | else-is_told_header w ↦ record {
    found = subst (λ (f : Found). AreFound c.args.left_out.now c.args.image.now f) (sym w.found-is) c.loop-block.invariant.found;
    sound = λ b l.
        subst (λ (f : Found). IsToldHeader c.args.left_out.now c.args.image.now b → IsFound f.marks.items b) (sym w.found-is)
        (below_more (λ (k : ℕ). IsToldHeader c.args.left_out.now c.args.image.now k → IsFound c.loop-block.found.marks.items k) c.loop-block.block c.loop-block.invariant.sound
        (λ is. absurd (cc ((c.is_told_header.ensures c.args.image.now c.requires (omega arith)).1 is, w.if-is_told_header.false))) b l);
  }
]
