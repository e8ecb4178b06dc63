use Rattle.adf_export.proofs.Common.{◌≡◌, ℕ, Some, length, sym, ◌∙◌, subst, arith, HasGrown}
use Rattle.adf_export.proofs.Under.{entry_object, root_object}
use Rattle.adf_export.proofs.items.push_object.Goals as goal

pub returns-then-key-root : goal.returns-then-key-root
returns-then-key-root c = λ t s.
    root_object t c.args.key c.args.found.now.items c.push_below.new.found.items (c.if-key-root.true ∙ c.root.ensures.root t s) (c.in_ok-push_below.ensures t s)

pub returns : goal.returns
returns c = λ t s.
    let place : c.len-place.result ≡ length c.args.found.now.items = omega (arith, c.len-place.ensures, c.args.found.now.ok) in
    entry_object t c.args.key c.args.found.now.items c.push.new.self.items c.push_below-2.new.found.items (λ e. c.if-key-root.false (e ∙ sym (c.root.ensures.root t s)))
    c.in_ok-push.ensures.items
    (subst (λ (k : ℕ). HasGrown t (Some k) c.args.key c.push.new.self.items c.push_below-2.new.found.items) place (c.in_ok-push_below-2.ensures t s))
