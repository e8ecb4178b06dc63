use Rattle.ados_volume.proofs.Common.{BTreeMap, HasPair, Sought, ap, name_in, name_of, some_in, subst, sym, ℕ, ◌∙◌, ◌≡◌}
use Rattle.ados_volume.proofs.Moved.{forgets, no_child_here}
use Rattle.ados_volume.proofs.entries.forget.Goals as goal

pub returns-in-Some-clause-names : goal.returns-in-Some-clause-names
returns-in-Some-clause-names c = λ d n k p.
    let taken = c.take_out.ensures.pairs d n k p in (
      subst (λ (pairs : BTreeMap Sought ℕ). HasPair pairs d n k) c.forget_whole.ensures.pairs taken.0,
      λ t s.
          let node = some_in (t.nodes c.args.key) (c.requires.key t s) in
          let own : c.name_in.result ≡ name_of t c.args.key = c.name_in.ensures t node.0 s node.1 ∙ sym (ap name_in node.1) in
          forgets c.args.image.now t s c.args.key c.in-Some.dir c.name_in.result (sym (c.in-Some.ensures.parent t s)) own d n taken.1,
    )

pub returns-in_default-clause-names : goal.returns-in_default-clause-names
returns-in_default-clause-names c = λ d n k p. (
  subst (λ (pairs : BTreeMap Sought ℕ). HasPair pairs d n k) c.forget_whole.ensures.pairs p,
  λ t s. no_child_here c.args.image.now t s c.args.key (sym (c.in_default.ensures.parent t s)) d n,
)
