use Rattle.ados_salvage.proofs.Common.{ℕ, ◌+◌, ◌-◌, refl, sym, subst, arith, Giving, IsGiving}
use Rattle.std.proofs.Common.{rules}
use Rattle.ados_salvage.specs.declared.numbered.Kept.{Kept}
use Rattle.ados_salvage.specs.steps.Counting.{GivesFirst}
use Rattle.ados_salvage.proofs.MissingBlocks.{first_given, first_skipped}
use Rattle.ados_salvage.proofs.numbered.give_numbered.Goals as goal
use Rattle.ados_salvage.proofs.numbered.give_numbered.Goals.{then-part-kept+then-is_next+in_ok-note, else-part-kept}

pub loop-from-preserved : goal.loop-from-preserved
loop-from-preserved c =
    let holes = c.args.known.now.holes.items in
    let image = c.args.known.now.image in
    let file = c.args.file in
    let place = c.args.place in
    let mid = c.loop-from.giving.pieces.items in
    let kept = c.loop-from.kept in
    let at : ℕ = c.index-part.result.now.number - 1 in
    record {
      giving = elim c.if-part-kept.branch [
        | then-part-kept+then-is_next+in_ok-note w ↦ subst (λ (giving : Giving). IsGiving holes image giving) (sym w.giving-is) (w.in_ok-note.ensures.giving holes image c.loop-from.invariant.giving)
        | else-part-kept w ↦ subst (λ (giving : Giving). IsGiving holes image giving) (sym w.giving-is) c.loop-from.invariant.giving
      ];
      left = search rules;
      few = search rules;
      order = search rules;
      first = λ old before. elim c.if-part-kept.branch [
        | then-part-kept+then-is_next+in_ok-note w ↦
            (let skipped = first_skipped image file place kept.next kept.there old mid (c.loop-from.invariant.first old before) at (omega (arith, w.if-part-kept.true)) in
            let due = w.is_next.ensures.due w.if-is_next.true at (omega (arith, w.if-part-kept.true)) in
            subst (λ (giving : Giving). GivesFirst image file place c.if-part-kept.kept.next c.if-part-kept.kept.there old giving.pieces.items) (sym w.giving-is)
            (subst (λ (k : Kept). GivesFirst image file place k.next k.there old w.note.new.self.pieces.items) (sym w.kept-is)
            (subst (λ (n : ℕ). GivesFirst image file place n w.with-kept.result.there old w.note.new.self.pieces.items) (sym w.with-kept.ensures.next)
            (subst (λ (n : ℕ). GivesFirst image file place (at + 1) n old w.note.new.self.pieces.items) (sym w.with-kept.ensures.there)
            (first_given image file place at kept.there old mid skipped _ _ refl refl due w.in_ok-note.ensures.pieces)))))
        | else-part-kept w ↦
            subst (λ (giving : Giving). GivesFirst image file place c.if-part-kept.kept.next c.if-part-kept.kept.there old giving.pieces.items) (sym w.giving-is)
            (subst (λ (k : Kept). GivesFirst image file place k.next k.there old mid) (sym w.kept-is) (c.loop-from.invariant.first old before))
      ];
    }

pub returns-after-loop-from-clause-first : goal.returns-after-loop-from-clause-first
returns-after-loop-from-clause-first c = λ old before.
    first_skipped c.args.known.now.image c.args.file c.args.place c.loop-from.kept.next c.loop-from.kept.there old c.loop-from.giving.pieces.items (c.loop-from.invariant.first old before) c.args.needed c.loop-from.invariant.order

pub returns-then-part-file-clause-first : goal.returns-then-part-file-clause-first
returns-then-part-file-clause-first c = λ old before.
    first_skipped c.args.known.now.image c.args.file c.args.place c.loop-from.kept.next c.loop-from.kept.there old c.loop-from.giving.pieces.items (c.loop-from.invariant.first old before) c.args.needed c.loop-from.invariant.order
