use Rattle.ados_check.proofs.Common.{rules, ◌<◌, ◌++◌, ◌∷◌, [], ℕ, List, ap, sym, ◌∙◌, subst, arith, Root, Reached, start}
use Rattle.ados_check.proofs.Moves.{begun_at}
use Rattle.ados_check.proofs.reaching.Progress.start.Goals as goal

pub look-requires-clause-reached : goal.look-requires-clause-reached
look-requires-clause-reached c = subst (λ (b : ℕ). Reached c.args.source.now.bytes b Root) (sym c.root-root.ensures) start

pub returns-clause-between : goal.returns-clause-between
returns-clause-between c =
    let root = c.root-root.result in
    let blocks = c.blocks-blocks.ensures in
    let within : root < c.blocks-blocks.result = omega (arith, c.root-root.ensures, blocks.count, blocks.size) in
    begun_at c.args.source.now.bytes c.blocks-blocks.result root c.in-Ok.marks.items c.push_reserved.new.self.items blocks.count c.root-root.ensures within c.in_default-look.ensures (search rules)
    (c.push_reserved.ensures.items ∙ ap (λ (xs : List ℕ). xs ++ root ∷ []) c.in-Ok-with_capacity.ensures.items)
