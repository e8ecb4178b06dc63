use Rattle.adf_where.proofs.Common.{◌≡◌, ℕ, Bool, List, [], ◌++◌, refl, sym, ap, ap₂, ◌∙◌}
use Rattle.json.specs.Token.{Token}
use Rattle.json.specs.Print.{print}
use Rattle.adf_where.specs.steps.Parts.{before_blocks, refused_front}
use Rattle.adf_where.proofs.refused.refused_front.Goals as goal

pub returns : goal.returns
returns c =
    let kind = c.args.reason.kind.now in
    let block = c.args.reason.block in
    let before : c.key.new.self.before ≡ [] = cc (c.in_ok-key.ensures.room.0, c.in_ok-put_fault_reason.ensures.before, c.in_ok-writer.ensures.before) in
    let tokens : c.key.new.self.tokens ≡ before_blocks kind block =
    rw (c.in_ok-key.ensures.ok, c.in_ok-put_fault_reason.ensures.tokens, c.in_ok-writer.ensures.tokens) refl in
    c.into_inner.ensures.items
    ∙ ap₂ (λ (b : List ℕ) (ts : List Token). b ++ print ts) before tokens
    ∙ sym (ap (λ (json : Bool). refused_front json kind block) c.if-not-json.false)
