use Rattle.ados_salvage.specs.steps.Counting.{TakesMore}
use Rattle.ados_salvage.specs.declared.numbered.Kept.{Kept}
use Rattle.ados_salvage.proofs.MissingBlocks.{first_none, takes_none, takes_then}
use Rattle.ados_salvage.proofs.Common.{arith, refl, sym, ap, ◌∙◌, subst, Giving}
use Rattle.std.proofs.Common.{rules}
use Rattle.ados_salvage.proofs.extensions.give_listed.Goals as goal
use Rattle.ados_salvage.proofs.extensions.give_listed.Goals.{then-is_loose_extension+in_ok-kept, else-is_loose_extension}

pub loop-part-init : goal.loop-part-init
loop-part-init c = record {
  giving = c.requires.giving;
  left = refl;
  more = takes_none c.args.known.now.image _ (record { next = 0; there = 0; last = 0; from = 0 }) (record { next = 0; there = 0; last = 0; from = 0 }) (omega arith) c.args.giving.now.pieces.items;
  none = λ zero. refl;
  unlisted = refl;
  named = tt;
}

pub loop-part-preserved : goal.loop-part-preserved
loop-part-preserved c = record {
  giving = search rules;
  left = search rules;
  more = elim c.if-is_loose_extension.branch [
    | then-is_loose_extension+in_ok-kept w ↦
        subst (λ (kept : Kept). TakesMore c.args.known.now.image _ (record { next = 0; there = 0; last = 0; from = 0 }) kept c.args.giving.now.pieces.items c.if-is_loose_extension.giving.pieces.items) (sym w.kept-is)
        (subst (λ (giving : Giving). TakesMore c.args.known.now.image _ (record { next = 0; there = 0; last = 0; from = 0 }) w.in_ok-kept.kept c.args.giving.now.pieces.items giving.pieces.items) (sym w.giving-is)
        (takes_then c.args.known.now.image _ (record { next = 0; there = 0; last = 0; from = 0 }) c.loop-part.kept c.args.giving.now.pieces.items c.loop-part.giving.pieces.items _ c.loop-part.invariant.more _ w.in_ok-kept.ensures.more))
    | else-is_loose_extension w ↦ search rules
  ];
  none = elim c.if-is_loose_extension.branch [
    | then-is_loose_extension+in_ok-kept w ↦ λ zero.
        let now = w.in_ok-kept.ensures.none (sym (ap (λ (kept : Kept). kept.there) w.kept-is) ∙ zero) in
        ap (λ (giving : Giving). giving.pieces.items) w.giving-is ∙ now.1 ∙ c.loop-part.invariant.none now.0
    | else-is_loose_extension w ↦ λ zero.
        ap (λ (giving : Giving). giving.pieces.items) w.giving-is ∙ c.loop-part.invariant.none (sym (ap (λ (kept : Kept). kept.there) w.kept-is) ∙ zero)
  ];
  unlisted = search rules;
  named = search rules;
}

pub returns-in-Some-clause-more : goal.returns-in-Some-clause-more
returns-in-Some-clause-more c = (c.loop-part.invariant.more.first c.args.giving.now.pieces.items (first_none c.args.known.now.image c.args.header c.args.place c.args.giving.now.pieces.items)).gives
