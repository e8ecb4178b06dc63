use Rattle.std.proofs.Common.{ℕ, ◌≡◌, refl, sym, ◌∙◌}
use Rattle.ados_salvage.specs.steps.Mending.{NamesAt}
use Rattle.ados_salvage.proofs.Marking.{adds_as, adds_none}
use Rattle.ados_salvage.proofs.mended.mark_place.Goals as goal

pub returns-in_default : goal.returns-in_default
returns-in_default c = adds_none (NamesAt c.args.image.now c.args.block c.args.at) c.args.named.now.items (λ b l names. absurd (cc ((c.in_default.ensures names.0).0 names.1)))

pub returns : goal.returns
returns c = adds_as (λ (b : ℕ). b ≡ c.long.result) (NamesAt c.args.image.now c.args.block c.args.at) c.args.named.now.items c.mark.new.marks.items
    (λ b is. (c.in-Some._dir, (c.in-Some.ensures c.in-Some._dir).1 refl, sym (is ∙ c.long.ensures)))
    (λ b names. sym (c.long.ensures ∙ names.2)) c.mark.ensures
