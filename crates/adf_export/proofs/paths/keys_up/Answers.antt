use Rattle.adf_export.proofs.Common.{◌≡◌, ℕ, suc, ◌-◌, ◌+◌, List, ◌++◌, None, Some, arith, sym, ap, ◌∙◌, All-push, All-same, HasKey, parent_of, front, names_down, block_count, count_same}
use Rattle.adf_export.proofs.PathsUp.{climbs, nothing_above, nothing_deeper}
use Rattle.adf_export.proofs.paths.keys_up.Goals as goal

pub returns-in-None-clause-front : goal.returns-in-None-clause-front
returns-in-None-clause-front c = λ t s.
    let names = names_down t c.loop-depth.keys.items in
    let none : parent_of t c.loop-depth.key ≡ None = sym (c.parent.ensures.parent t s) ∙ c.in-None.is in
    sym (ap (λ (l : List ℕ). l ++ names) (nothing_above t (t.blocks - c.loop-depth._depth) c.loop-depth.key none)) ∙ c.loop-depth.invariant.names t s

pub loop-depth-preserved : goal.loop-depth-preserved
loop-depth-preserved c = record {
  key = c.in-Some.ensures.key;
  keys = All-same (HasKey c.args.volume.now.image) c.push.new.self.items _ c.in_ok-push-in-Some.ensures.items
      (All-push (HasKey c.args.volume.now.image) c.loop-depth.keys.items c.loop-depth.key c.loop-depth.invariant.keys c.loop-depth.invariant.key);
  names = λ t s.
      let up : parent_of t c.loop-depth.key ≡ Some c.in-Some.above = sym (c.parent.ensures.parent t s) ∙ c.in-Some.is in
      let blocks = c.blocks-depth-end.ensures.count ∙ ap block_count c.image.ensures.same ∙ count_same c.args.volume.now.image t s in
      let rest = t.blocks - (c.loop-depth._depth + 1) in
      let left : t.blocks - c.loop-depth._depth ≡ suc rest = omega (arith, blocks) in
      ap (λ (ks : List ℕ). front t rest c.in-Some.above ++ names_down t ks) c.in_ok-push-in-Some.ensures.items
      ∙ climbs t rest c.loop-depth.key c.in-Some.above c.loop-depth.keys.items up
      ∙ sym (ap (λ (n : ℕ). front t n c.loop-depth.key ++ names_down t c.loop-depth.keys.items) left)
      ∙ c.loop-depth.invariant.names t s;
}

pub returns-clause-front : goal.returns-clause-front
returns-clause-front c = λ t s.
    let names = names_down t c.loop-depth.keys.items in
    let blocks = c.blocks-depth-end.ensures.count ∙ ap block_count c.image.ensures.same ∙ count_same c.args.volume.now.image t s in
    let over : t.blocks - c.loop-depth._depth ≡ 0 = omega (arith, blocks) in
    sym (ap (λ (l : List ℕ). l ++ names) (nothing_deeper t (t.blocks - c.loop-depth._depth) c.loop-depth.key over)) ∙ c.loop-depth.invariant.names t s
