use Rattle.ados_salvage.specs.steps.Counting.{TakesMore}
use Rattle.ados_salvage.specs.declared.numbered.Kept.{Kept}
use Rattle.ados_salvage.proofs.MissingBlocks.{takes_none, takes_then}
use Rattle.ados_salvage.proofs.Common.{sym, subst, Giving, Piece}
use Rattle.std.proofs.Common.{rules, Global, Vec}
use Rattle.ados_salvage.proofs.pointer_blocks.give_unlinked.Goals as goal
use Rattle.ados_salvage.proofs.pointer_blocks.give_unlinked.Goals.{then-is_loose_extension+in_ok-kept, else-is_loose_extension}

pub loop-part-init : goal.loop-part-init
loop-part-init c =
    let image = c.args.known.now.image in
    record {
      giving = search rules;
      left = search rules;
      more = subst (λ (pieces : Vec Piece Global). TakesMore image c.args.wanted c.args.earlier c.args.earlier c.args.giving.now.pieces.items pieces.items) (sym c.unlinked.ensures.pieces)
          (takes_none image c.args.wanted c.args.earlier c.args.earlier c.requires.few c.args.giving.now.pieces.items);
    }

pub loop-part-preserved : goal.loop-part-preserved
loop-part-preserved c =
    let image = c.args.known.now.image in
    record {
      giving = search rules;
      left = search rules;
      more = elim c.if-is_loose_extension.branch [
        | then-is_loose_extension+in_ok-kept w ↦
            subst (λ (kept : Kept). TakesMore image c.args.wanted c.args.earlier kept c.args.giving.now.pieces.items c.if-is_loose_extension.giving.pieces.items) (sym w.kept-is)
            (subst (λ (giving : Giving). TakesMore image c.args.wanted c.args.earlier w.in_ok-kept.kept c.args.giving.now.pieces.items giving.pieces.items) (sym w.giving-is)
            (takes_then image c.args.wanted c.args.earlier c.loop-part.kept c.args.giving.now.pieces.items c.loop-part.giving.pieces.items _ c.loop-part.invariant.more _ w.in_ok-kept.ensures.more))
        | else-is_loose_extension w ↦ search rules
      ];
    }
