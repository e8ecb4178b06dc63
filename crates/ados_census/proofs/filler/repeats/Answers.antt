use Rattle.std.proofs.Common.{ℕ, inl, inr, refl, subst, arith}
use Rattle.std.proofs.lemmas.Bool.{cases_lt}
use Rattle.ados_census.specs.Fillers.{RepeatsFrom}
use Rattle.ados_census.proofs.Repeating.{begins, comes_again, repeats}
use Rattle.ados_census.proofs.filler.repeats.Goals as goal
use Rattle.ados_census.proofs.filler.repeats.Goals.{else-begins_from-via-then-begins_from+else-has_period, else-begins_from-via-else-begins_from}

pub returns-then-has_period : goal.returns-then-has_period
returns-then-has_period c = (
  λ yes. (c.loop-start.start, c.loop-start-test.true, repeats c.args.text.now c.args.bytes.now c.loop-start.start c.loop-start-test.true c.if-begins_from.ensures c.if-has_period.ensures),
  λ all. refl,
)

pub loop-start-preserved : goal.loop-start-preserved
loop-start-preserved c = λ s l h. elim (cases_lt s c.loop-start.start) [
  | inl before ↦ c.loop-start.invariant s before h
  | inr here ↦
      let text = c.args.text.now in
      let bytes = c.args.bytes.now in
      let same = subst (λ (n : ℕ). RepeatsFrom text bytes n) {x = s} {y = c.loop-start.start} (omega (arith, l, here)) h in
      elim c.else-begins_from.branch [
        | else-begins_from-via-then-begins_from+else-has_period w ↦ w.if-has_period.ensures (comes_again text bytes c.loop-start.start c.loop-start-test.true same)
        | else-begins_from-via-else-begins_from w ↦ w.if-begins_from.ensures (begins text bytes c.loop-start.start c.loop-start-test.true same)
      ]
]
