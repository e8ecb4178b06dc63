use Rattle.ados_salvage.specs.steps.Counting.{GivesMore}
use Rattle.ados_salvage.proofs.DueBlocks.{due_own}
use Rattle.ados_salvage.proofs.MissingBlocks.{gives_none, gives_one}
use Rattle.ados_salvage.proofs.Common.{refl, sym, subst, Giving, IsGiving}
use Rattle.std.proofs.Common.{rules}
use Rattle.ados_salvage.proofs.loose.give_data.Goals as goal
use Rattle.ados_salvage.proofs.loose.give_data.Goals.{then-not-is_some_and+then-is_loose_data+then-is_own_data+then-is_open+in_ok-note, else-not-is_some_and}

pub loop-part-init : goal.loop-part-init
loop-part-init c = record {
  giving = c.requires.giving;
  left = refl;
  more = gives_none c.args.known.now.image c.args.header c.args.place c.args.giving.now.pieces.items c.args.giving.now.pieces.items refl;
  none = refl;
  named = tt;
}

pub loop-part-preserved : goal.loop-part-preserved
loop-part-preserved c =
    let holes = c.args.known.now.holes.items in
    let image = c.args.known.now.image in
    record {
      giving = elim c.if-not-is_some_and.branch [
        | then-not-is_some_and+then-is_loose_data+then-is_own_data+then-is_open+in_ok-note w ↦
            subst (λ (giving : Giving). IsGiving holes image giving) (sym w.giving-is) (w.in_ok-note.ensures.giving holes image c.loop-part.invariant.giving)
        | else-not-is_some_and w ↦ subst (λ (giving : Giving). IsGiving holes image giving) (sym w.giving-is) c.loop-part.invariant.giving
      ];
      left = search rules;
      more = elim c.if-not-is_some_and.branch [
        | then-not-is_some_and+then-is_loose_data+then-is_own_data+then-is_open+in_ok-note w ↦
            subst (λ (giving : Giving). GivesMore c.args.known.now.image c.args.header c.args.place c.args.giving.now.pieces.items giving.pieces.items) (sym w.giving-is)
            (gives_one image c.args.header c.args.place c.args.giving.now.pieces.items c.loop-part.giving.pieces.items _ _ c.loop-part.invariant.more refl
            (due_own image c.args.header _ _ (w.is_loose_data.ensures w.if-is_loose_data.true).kind (w.is_own_data.ensures.0 w.if-is_own_data.true)) w.in_ok-note.ensures.pieces)
        | else-not-is_some_and w ↦ subst (λ (giving : Giving). GivesMore c.args.known.now.image c.args.header c.args.place c.args.giving.now.pieces.items giving.pieces.items) (sym w.giving-is) c.loop-part.invariant.more
      ];
      none = search rules;
      named = search rules;
    }
