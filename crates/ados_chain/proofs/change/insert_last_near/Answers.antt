use Rattle.ados_chain.proofs.Common.{◌≡◌, ◌<◌, ◌+◌, ℕ, List, Contains, sym, ap, ◌∙◌, subst, FIRST_SLOT, slot_at, Relinks, link_block, link_long}
use Rattle.ados_chain.proofs.Changes.{slot_at-small, inserted}
use Rattle.ados_chain.proofs.Found.{block_inside, long_is, block_apart, leads_to_end, listed_same}
use Rattle.ados_chain.specs.Links.{IsNear}
use Rattle.ados_chain.proofs.change.insert_last_near.Goals as goal

-- the slot of the entry is below 72
small : (image : List ℕ) (key s : ℕ) → s ≡ slot_at image key → s < 72
small image key s e = subst (λ (t : ℕ). t < 72) (sym e) (slot_at-small image key)

pub relink-requires-clause-block : goal.relink-requires-clause-block
relink-requires-clause-block c =
    let r = c.requires.can in
    block_inside c.args.image.now c.args.dir r.chains r.lawful c.slot_of-slot.result (small c.args.image.now c.args.key c.slot_of-slot.result c.slot_of-slot.ensures) 0 c.end_of-end.result.block c.end_of-end.result.long (c.end_of-end.ensures r.chains r.lawful)

pub relink-requires-clause-long : goal.relink-requires-clause-long
relink-requires-clause-long c =
    let r = c.requires.can in
    long_is c.args.image.now c.args.dir r.chains r.lawful c.slot_of-slot.result (small c.args.image.now c.args.key c.slot_of-slot.result c.slot_of-slot.ensures) 0 c.end_of-end.result.block c.end_of-end.result.long (c.end_of-end.ensures r.chains r.lawful)

pub relink-requires-clause-apart : goal.relink-requires-clause-apart
relink-requires-clause-apart c =
    let r = c.requires.can in
    let s = c.slot_of-slot.result in
    let s_small = small c.args.image.now c.args.key s c.slot_of-slot.ensures in
    let to = c.end_of-end.ensures r.chains r.lawful in
    let whole = leads_to_end c.args.image.now c.args.dir r.chains r.lawful s s_small c.end_of-end.result.block c.end_of-end.result.long to in
    block_apart c.args.image.now c.args.dir r.chains r.lawful s s_small 0 c.end_of-end.result.block c.end_of-end.result.long to c.args.key r.entry.not_dir
    (λ m. r.absent (s, s_small, subst (λ (xs : List ℕ). Contains xs c.args.key) (sym whole) m))

pub returns-clause-inserts : goal.returns-clause-inserts
returns-clause-inserts c =
    λ chains h.
    let r = c.requires.can in
    let image = c.args.image.now in
    let s = c.slot_of-slot.result in
    let to = c.end_of-end.ensures chains h in
    let whole = leads_to_end image c.args.dir chains h s (small image c.args.key s c.slot_of-slot.ensures) c.end_of-end.result.block c.end_of-end.result.long to in
    let at_block : c.end_of-end.result.block ≡ link_block c.args.dir (chains (slot_at image c.args.key)) = to.at_block ∙ ap (link_block c.args.dir) (sym whole) ∙ ap (λ (t : ℕ). link_block c.args.dir (chains t)) c.slot_of-slot.ensures in
    let at_long : c.end_of-end.result.long ≡ link_long (FIRST_SLOT + slot_at image c.args.key) (chains (slot_at image c.args.key)) = to.at_long ∙ ap (link_long (FIRST_SLOT + s)) (sym whole) ∙ ap (λ (t : ℕ). link_long (FIRST_SLOT + t) (chains t)) c.slot_of-slot.ensures in
    inserted image c.relink.new.image c.args.dir c.args.key chains h r.entry (λ m. r.absent (listed_same image c.args.dir c.args.key chains r.chains h r.lawful m))
    (subst (λ (b : ℕ). Relinks b (link_long (FIRST_SLOT + slot_at image c.args.key) (chains (slot_at image c.args.key))) c.args.key c.args.key image c.relink.new.image) at_block
    (subst (λ (i : ℕ). Relinks c.end_of-end.result.block i c.args.key c.args.key image c.relink.new.image) at_long c.relink.ensures.relinks))

pub end_of-end-requires-clause-chains : goal.end_of-end-requires-clause-chains
end_of-end-requires-clause-chains c = (c.requires.can.chains, c.requires.can.lawful)

pub end_of-end-requires-clause-near : goal.end_of-end-requires-clause-near
end_of-end-requires-clause-near c = λ chains h. subst (λ (s : ℕ). IsNear c.args.dir (chains s) c.args.near) (sym c.slot_of-slot.ensures) (c.requires.near chains h)
