use Rattle.std.proofs.Common.{◌≡◌, ℕ, List, [], ◌∷◌, length, Vec, Global, ap, sym, subst, arith}
use Rattle.std.proofs.lemmas.List.{length-append}
use Rattle.adf_rescue.specs.Missing.{values_at}
use Rattle.adf_rescue.proofs.GivenNumbers.{none_more}
use Rattle.adf_rescue.proofs.missing.no_numbers.Goals as goal

pub loop-place-init : goal.loop-place-init
loop-place-init c = record {
  count = ap length c.in_ok-numbers.ensures.items;
  none = λ place. ap (λ (lists : List (Vec ℕ Global)). values_at lists place) c.in_ok-numbers.ensures.items;
}

pub loop-place-preserved : goal.loop-place-preserved
loop-place-preserved c = record {
  count = omega (arith, ap length c.in_ok-push.ensures.items, length-append c.loop-place.numbers.items (c.new.result ∷ []), c.loop-place.invariant.count);
  none = λ place. subst (λ (lists : List (Vec ℕ Global)). values_at lists place ≡ []) (sym c.in_ok-push.ensures.items)
      (none_more c.loop-place.numbers.items c.new.result c.loop-place.invariant.none c.new.ensures.items place);
}
