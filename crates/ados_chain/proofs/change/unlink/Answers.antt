use Rattle.ados_chain.proofs.Common.{◌≡◌, ◌<◌, ◌+◌, ◌++◌, ◌∷◌, ℕ, List, Contains, sym, ap, ◌∙◌, subst, long, FIRST_SLOT, NEXT_IN_CHAIN, IsEntryBlock, slot_at, Relinks, CanUnlink, link_long}
use Rattle.ados_chain.proofs.Changes.{slot_at-small, unlinked}
use Rattle.ados_chain.proofs.Found.{block_inside, long_is, block_apart, listed_same, in_own_slot, entry_follows}
use Rattle.ados_chain.proofs.change.unlink.Goals as goal

-- the slot of the entry is below 72
small : (image : List ℕ) (key s : ℕ) → s ≡ slot_at image key → s < 72
small image key s e = subst (λ (t : ℕ). t < 72) (sym e) (slot_at-small image key)

-- the entry may be an entry
entry_of : (image : List ℕ) (dir key : ℕ) → CanUnlink image dir key → IsEntryBlock image dir key
entry_of image dir key r = r.lawful.entry r.listed.0 key r.listed.1 r.listed.2

pub slot_of-slot-requires-clause-inside : goal.slot_of-slot-requires-clause-inside
slot_of-slot-requires-clause-inside c = (entry_of c.args.image.now c.args.dir c.args.key c.requires).inside.1

pub slot_of-slot-requires-clause-name : goal.slot_of-slot-requires-clause-name
slot_of-slot-requires-clause-name c = (entry_of c.args.image.now c.args.dir c.args.key c.requires).name

pub long-next-requires-clause-block : goal.long-next-requires-clause-block
long-next-requires-clause-block c = (entry_of c.args.image.now c.args.dir c.args.key c.requires).inside.1

pub relink-requires-clause-block : goal.relink-requires-clause-block
relink-requires-clause-block c =
    let r = c.requires in
    block_inside c.args.image.now c.args.dir r.chains r.lawful c.slot_of-slot.result (small c.args.image.now c.args.key c.slot_of-slot.result c.slot_of-slot.ensures) c.args.key c.link_to-link.result.block c.link_to-link.result.long (c.link_to-link.ensures r.chains r.lawful)

pub relink-requires-clause-long : goal.relink-requires-clause-long
relink-requires-clause-long c =
    let r = c.requires in
    long_is c.args.image.now c.args.dir r.chains r.lawful c.slot_of-slot.result (small c.args.image.now c.args.key c.slot_of-slot.result c.slot_of-slot.ensures) c.args.key c.link_to-link.result.block c.link_to-link.result.long (c.link_to-link.ensures r.chains r.lawful)

pub relink-requires-clause-key : goal.relink-requires-clause-key
relink-requires-clause-key c = (entry_of c.args.image.now c.args.dir c.args.key c.requires).inside.1

pub relink-requires-clause-apart : goal.relink-requires-clause-apart
relink-requires-clause-apart c =
    let r = c.requires in
    let to = c.link_to-link.ensures r.chains r.lawful in
    block_apart c.args.image.now c.args.dir r.chains r.lawful c.slot_of-slot.result (small c.args.image.now c.args.key c.slot_of-slot.result c.slot_of-slot.ensures) c.args.key c.link_to-link.result.block c.link_to-link.result.long to c.args.key (entry_of c.args.image.now c.args.dir c.args.key r).not_dir to.absent

pub returns-clause-unlinks : goal.returns-clause-unlinks
returns-clause-unlinks c =
    λ chains h.
    let r = c.requires in
    let image = c.args.image.now in
    let key = c.args.key in
    let s = c.slot_of-slot.result in
    let to = c.link_to-link.ensures chains h in
    let listed : Contains (chains (slot_at image key)) key = in_own_slot image c.args.dir key chains h (listed_same image c.args.dir key r.chains chains r.lawful h r.listed) in
    let listed_here : Contains (chains s) key = subst (λ (t : ℕ). Contains (chains t) key) (sym c.slot_of-slot.ensures) listed in
    let at = entry_follows image c.args.dir chains h s (small image key s c.slot_of-slot.ensures) key c.link_to-link.result.block c.link_to-link.result.long to listed_here in
    let split : chains (slot_at image key) ≡ to.front ++ key ∷ at.0 = ap chains (sym c.slot_of-slot.ensures) ∙ at.1 in
    let at_long : c.link_to-link.result.long ≡ link_long (FIRST_SLOT + slot_at image key) to.front = to.at_long ∙ ap (λ (t : ℕ). link_long (FIRST_SLOT + t) to.front) c.slot_of-slot.ensures in
    unlinked image c.relink.new.image c.args.dir key chains to.front at.0 h split
    (subst (λ (b : ℕ). Relinks b (link_long (FIRST_SLOT + slot_at image key) to.front) (long image key NEXT_IN_CHAIN) key image c.relink.new.image) to.at_block
    (subst (λ (i : ℕ). Relinks c.link_to-link.result.block i (long image key NEXT_IN_CHAIN) key image c.relink.new.image) at_long
    (subst (λ (n : ℕ). Relinks c.link_to-link.result.block c.link_to-link.result.long n key image c.relink.new.image) c.long-next.ensures c.relink.ensures.relinks)))
