use Rattle.ados_faults.proofs.Common.{◌≡◌, ◌+◌, ℕ, Option, slice_index, sym, ap, subst, arith, ◌∙◌, slice_get, InImage, pointers_of, IsPlaceNoted}
use Rattle.ados_faults.proofs.ByHeaders.{next_there, pointer_at}
use Rattle.ados_faults.proofs.pieces.look_at_one.Goals as goal

pub look_at_place-requires-clause-at : goal.look_at_place-requires-clause-at
look_at_place-requires-clause-at c =
    let p = c.requires.piece in
    record {
      file = p.file;
      blocks = p.blocks;
      of_file = p.of_file;
      within = omega (arith, p.within, c.requires.within, c.from.ensures);
      here = ap (λ (x : ℕ). slice_index p.blocks (c.args.piece.position + x)) c.from.ensures ∙ p.there c.args.i c.requires.within
          ∙ pointer_at c.args.image.now c.args.piece.header c.args.i (omega (arith, c.requires.within, p.count)) ∙ sym c.long.ensures;
      next = ap (λ (x : ℕ). slice_get p.blocks (c.args.piece.position + x + 1)) c.from.ensures ∙ next_there c.args.image.now c.args.piece p c.args.i c.requires.within ∙ sym c.next_of.ensures;
      few = omega (arith, p.low, c.requires.within, c.from.ensures);
    }

pub returns-clause-place : goal.returns-clause-place
returns-clause-place c = λ inside.
    let image = c.args.image.now in
    let cells = c.look_at_place.new.notes.cells.items in
    let block = slice_index (pointers_of image c.args.piece.header) c.args.i in
    let is : block ≡ c.long.result = pointer_at image c.args.piece.header c.args.i (omega (arith, c.requires.within, c.requires.piece.count)) ∙ sym c.long.ensures in
    subst (λ (n : Option ℕ). IsPlaceNoted image cells block (c.args.piece.position + c.args.i) n) c.next_of.ensures
    (subst (λ (x : ℕ). IsPlaceNoted image cells block (c.args.piece.position + x) c.next_of.result) c.from.ensures
    (subst (λ (b : ℕ). IsPlaceNoted image cells b (c.args.piece.position + c.from.result) c.next_of.result) (sym is) (c.look_at_place.ensures.placed (subst (InImage image) is inside))))
