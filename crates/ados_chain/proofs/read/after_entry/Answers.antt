use Rattle.ados_chain.proofs.Common.{◌<◌, ℕ, Contains, sym, subst, ◌∙◌}
use Rattle.ados_chain.proofs.Found.{in_own_slot}
use Rattle.ados_chain.proofs.read.after_entry.Goals as goal

pub slot_of-slot-requires-clause-inside : goal.slot_of-slot-requires-clause-inside
slot_of-slot-requires-clause-inside c =
    let chains = c.requires.chains.0 in
    let h = c.requires.chains.1 in
    let m = c.requires.entry chains h in
    (h.entry m.0 c.args.key m.1 m.2).inside.1

pub slot_of-slot-requires-clause-name : goal.slot_of-slot-requires-clause-name
slot_of-slot-requires-clause-name c =
    let chains = c.requires.chains.0 in
    let h = c.requires.chains.1 in
    let m = c.requires.entry chains h in
    (h.entry m.0 c.args.key m.1 m.2).name

pub behind_entry-requires-clause-entry : goal.behind_entry-requires-clause-entry
behind_entry-requires-clause-entry c = λ chains h.
    let m = c.requires.entry chains h in (
      subst (λ (s : ℕ). s < 72) (sym (c.slot_of-slot.ensures ∙ h.slotted m.0 c.args.key m.1 m.2)) m.1,
      subst (λ (s : ℕ). Contains (chains s) c.args.key) (sym c.slot_of-slot.ensures) (in_own_slot c.args.image.now c.args.dir c.args.key chains h m),
    )
