use Rattle.adf_export.proofs.Common.{ℕ, List, [], ◌∷◌, ◌++◌, Option, IfSome, sym, ap, ◌∙◌, subst, All-pop, HasKey, names_down}
use Rattle.adf_export.proofs.PathsUp.{names_popped}
use Rattle.adf_export.proofs.paths.front_of.Goals as goal

pub name_of-requires : goal.name_of-requires
name_of-requires c =
    subst (λ (o : Option ℕ). IfSome o (HasKey c.args.volume.now.image)) c.in-Some.is
    (All-pop (HasKey c.args.volume.now.image) c.loop-key.keys.items c.pop.new.self.items c.pop.result c.pop.ensures.items c.loop-key.invariant.keys).1

pub loop-key-preserved : goal.loop-key-preserved
loop-key-preserved c = record {
  keys = (All-pop (HasKey c.args.volume.now.image) c.loop-key.keys.items c.pop.new.self.items c.pop.result c.pop.ensures.items c.loop-key.invariant.keys).0;
  names = λ t s.
      let name = c.bytes.ensures.value ∙ c.name_of.ensures t s in
      let text = c.in_ok-push.ensures.items ∙ ap (λ (l : List ℕ). l ++ 47 ∷ []) (c.in_ok-extend_from_slice.ensures.items ∙ ap (λ (l : List ℕ). c.loop-key.text.items ++ l) name) in
      ap (λ (l : List ℕ). l ++ names_down t c.pop.new.self.items) text
      ∙ sym (names_popped t c.pop.new.self.items c.in-Some.key c.loop-key.text.items)
      ∙ sym (ap (λ (ks : List ℕ). c.loop-key.text.items ++ names_down t ks) c.in-Some.ensures.items)
      ∙ c.loop-key.invariant.names t s;
}
