use Rattle.ados_salvage.proofs.KnownCommon.{rules, ◌≡◌, ℕ, Bool, List, All, length, sym, ◌∙◌, subst, IsHole, One, claim_at}
use Rattle.ados_salvage.proofs.Claiming.{all_within, alone_claims, claimed_whole, whole_decided, whole_there}
use Rattle.ados_salvage.proofs.FileBlocks.{intact_known}
use Rattle.ados_salvage.proofs.known.whole.is_whole_by.Goals as goal

pub returns-then-ne : goal.returns-then-ne
returns-then-ne c = λ out claims whole.
    let alone = claimed_whole out c.args.known.now.holes.items c.args.known.now.image c.args.claims.now c.args.file claims.right whole in
    search (rules, alone)

pub returns-in_default : goal.returns-in_default
returns-in_default c = λ out claims whole. (rw c.in_default.is at c.in_ok-blocks.ensures) (intact_known c.args.known.now.image c.args.file whole.claimant.intact)

pub returns-then-not-are_there : goal.returns-then-not-are_there
returns-then-not-are_there c = λ out claims whole.
    (rw c.if-not-are_there.true at c.are_there.ensures)
    (subst (λ (holes : List Bool). All (λ (block : ℕ). ¬ IsHole holes block) c.deref-2.result.now) (sym c.deref.ensures.value)
    (whole_there out c.args.known.now.holes.items c.args.known.now.image c.args.file c.deref-2.result.now (c.deref-2.ensures.value ∙ (rw c.in-Some.is at c.in_ok-blocks.ensures).1) whole))

pub are_alone-requires : goal.are_alone-requires
are_alone-requires c =
    let (out, claims) = c.requires.claims in
    let alone : claim_at c.args.claims.now c.args.file ≡ One c.args.file = search rules in
    let claimant = alone_claims out c.args.known.now.image c.args.claims.now c.args.file claims.right c.requires.inside alone in
    all_within c.args.known.now.image c.args.file claimant.intact c.deref-3.result.now (length c.args.claims.now) (c.deref-3.ensures.value ∙ (rw c.in-Some.is at c.in_ok-blocks.ensures).1) claims.size

pub returns : goal.returns
returns c = λ out claims.
    let alone : claim_at c.args.claims.now c.args.file ≡ One c.args.file = search rules in
    whole_decided out c.args.known.now.holes.items c.args.known.now.image c.args.claims.now c.args.file c.deref-3.result.now c.are_alone.result claims.right
    (alone_claims out c.args.known.now.image c.args.claims.now c.args.file claims.right c.requires.inside alone) (c.deref-3.ensures.value ∙ (rw c.in-Some.is at c.in_ok-blocks.ensures).1)
    (subst (All (λ (block : ℕ). ¬ IsHole c.args.known.now.holes.items block)) (c.deref-2.ensures.value ∙ sym c.deref-3.ensures.value)
    (subst (λ (holes : List Bool). All (λ (block : ℕ). ¬ IsHole holes block) c.deref-2.result.now) c.deref.ensures.value (rw c.if-not-are_there.false at c.are_there.ensures)))
    c.are_alone.ensures
