use Rattle.ados_chain.proofs.Common.{◌≡◌, ◌≢◌, ℕ, Option, Contains, sym, ap, subst, ◌∙◌, arith, slot, slot_at, FindsSlot}
use Rattle.ados_chain.proofs.Found.{IsLink-small, block_inside, long_is, held_listed, listed_held, in_own_slot}
use Rattle.ados_chain.proofs.read.slot_with.Goals as goal
use Rattle.ados_chain.proofs.read.slot_with.Goals.{then-key-lt-BOOT_BLOCKS-via-then-key-lt-BOOT_BLOCKS, then-key-lt-BOOT_BLOCKS-via-else-key-lt-BOOT_BLOCKS+then-key-blocks}

pub returns-then-key-lt-BOOT_BLOCKS : goal.returns-then-key-lt-BOOT_BLOCKS
returns-then-key-lt-BOOT_BLOCKS c =
    λ chains h m.
    let inside = (h.entry m.0 c.args.key m.1 m.2).inside in
    elim c.then-key-lt-BOOT_BLOCKS.branch [
      | then-key-lt-BOOT_BLOCKS-via-then-key-lt-BOOT_BLOCKS w ↦ absurd (omega (arith, w.if-key-lt-BOOT_BLOCKS.true, inside.0))
      | then-key-lt-BOOT_BLOCKS-via-else-key-lt-BOOT_BLOCKS+then-key-blocks w ↦ absurd (omega (arith, w.if-key-blocks.true, w.blocks-else-key-lt-BOOT_BLOCKS.ensures.count, inside.1))
    ]

pub returns-in_err-name_of : goal.returns-in_err-name_of
returns-in_err-name_of c =
    λ chains h.
    subst (λ (o : Option ℕ). FindsSlot chains c.args.key o) (sym c.from_residual.ensures) (λ m. c.in_err-name_of.ensures (h.entry m.0 c.args.key m.1 m.2).name)

pub long-requires-clause-block : goal.long-requires-clause-block
long-requires-clause-block c =
    block_inside c.args.image.now c.args.dir c.requires.0 c.requires.1 c.slot-slot.result c.slot-slot.ensures.small c.args.key c.link_to-link.result.block c.link_to-link.result.long (c.link_to-link.ensures c.requires.0 c.requires.1)

pub long-requires-clause-place : goal.long-requires-clause-place
long-requires-clause-place c =
    IsLink-small c.link_to-link.result.long (long_is c.args.image.now c.args.dir c.requires.0 c.requires.1 c.slot-slot.result c.slot-slot.ensures.small c.args.key c.link_to-link.result.block c.link_to-link.result.long (c.link_to-link.ensures c.requires.0 c.requires.1))

pub returns-then-long-key : goal.returns-then-long-key
returns-then-long-key c =
    λ chains h.
    let not_zero : c.args.key ≢ 0 = omega (arith, c.if-key-lt-BOOT_BLOCKS.false) in
    (c.slot-slot.ensures.small, held_listed c.args.image.now c.args.dir chains h c.slot-slot.result c.slot-slot.ensures.small c.args.key c.link_to-link.result.block c.link_to-link.result.long (c.link_to-link.ensures chains h) (sym c.long.ensures ∙ c.if-long-key.true) not_zero)

pub returns-else-long-key : goal.returns-else-long-key
returns-else-long-key c =
    λ chains h m.
    let own : c.slot-slot.result ≡ slot_at c.args.image.now c.args.key = c.slot-slot.ensures.value ∙ ap slot c.in_ok-name_of.ensures.0 in
    let listed : Contains (chains c.slot-slot.result) c.args.key = subst (λ (s : ℕ). Contains (chains s) c.args.key) (sym own) (in_own_slot c.args.image.now c.args.dir c.args.key chains h m) in
    c.if-long-key.false (c.long.ensures ∙ listed_held c.args.image.now c.args.dir chains h c.slot-slot.result c.slot-slot.ensures.small c.args.key c.link_to-link.result.block c.link_to-link.result.long (c.link_to-link.ensures chains h) listed)
