use Rattle.ados_salvage.specs.steps.Counting.{TakesMore}
use Rattle.ados_salvage.specs.declared.numbered.Kept.{Kept}
use Rattle.ados_salvage.proofs.DueBlocks.{due_listed}
use Rattle.ados_salvage.proofs.MissingBlocks.{takes_none, takes_one}
use Rattle.ados_salvage.proofs.Common.{◌+◌, arith, refl, sym, ap, ◌∙◌, subst, Giving, IsGiving}
use Rattle.std.proofs.Common.{rules}
use Rattle.ados_salvage.proofs.pointer_blocks.give_pointers.Goals as goal
use Rattle.ados_salvage.proofs.pointer_blocks.give_pointers.Goals.{then-fits+then-block-ge-BOOT_BLOCKS+then-is_open+in_ok-note, else-fits}

pub loop-i-init : goal.loop-i-init
loop-i-init c = record {
  giving = c.requires.giving;
  left = refl;
  more = takes_none c.args.known.now.image c.args.wanted c.args.earlier c.args.earlier c.requires.few c.args.giving.now.pieces.items;
  none = λ zero. (zero, refl);
}

pub loop-i-preserved : goal.loop-i-preserved
loop-i-preserved c =
    let holes = c.args.known.now.holes.items in
    let image = c.args.known.now.image in
    record {
      giving = elim c.if-fits.branch [
        | then-fits+then-block-ge-BOOT_BLOCKS+then-is_open+in_ok-note w ↦
            subst (λ (giving : Giving). IsGiving holes image giving) (sym w.giving-is) (w.in_ok-note.ensures.giving holes image c.loop-i.invariant.giving)
        | else-fits w ↦ subst (λ (giving : Giving). IsGiving holes image giving) (sym w.giving-is) c.loop-i.invariant.giving
      ];
      left = search rules;
      more = elim c.if-fits.branch [
        | then-fits+then-block-ge-BOOT_BLOCKS+then-is_open+in_ok-note w ↦
            subst (λ (kept : Kept). TakesMore image c.args.wanted c.args.earlier kept c.args.giving.now.pieces.items c.if-fits.giving.pieces.items) (sym w.kept-is)
            (subst (λ (giving : Giving). TakesMore image c.args.wanted c.args.earlier w.with-kept.result c.args.giving.now.pieces.items giving.pieces.items) (sym w.giving-is)
            (takes_one image c.args.wanted c.args.earlier c.loop-i.kept c.args.giving.now.pieces.items c.loop-i.giving.pieces.items _ c.loop-i.invariant.more _ refl (omega arith) (omega arith)
            (due_listed image c.args.wanted.file c.args.part.block _ c.loop-i.i c.long-block.result c.requires.loose (omega arith) (omega arith) (sym c.long-block.ensures)) w.in_ok-note.ensures.pieces
            w.with-kept.result w.with-kept.ensures.next w.with-kept.ensures.there))
        | else-fits w ↦ search rules
      ];
      none = elim c.if-fits.branch [
        | then-fits+then-block-ge-BOOT_BLOCKS+then-is_open+in_ok-note w ↦ λ zero. absurd (omega (arith, ap (λ (kept : Kept). kept.there) w.kept-is, w.with-kept.ensures.there, zero))
        | else-fits w ↦ λ zero.
            let was = c.loop-i.invariant.none (sym (ap (λ (kept : Kept). kept.there) w.kept-is) ∙ zero) in
            (was.0, ap (λ (giving : Giving). giving.pieces.items) w.giving-is ∙ was.1)
      ];
    }
