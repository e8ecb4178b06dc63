use Rattle.adf_export.proofs.Common.{◌≡◌, refl, sym, ap, ◌∙◌, subst, Once, Stands, Tree, comes_before, ordered, sorted, Disk}
use Rattle.adf_export.proofs.Sorting.{keys_there, ordered_disk, ordered_other}
use Rattle.adf_export.proofs.order.ordered_keys.Goals as goal

pub returns-in-Disk-clause-keys : goal.returns-in-Disk-clause-keys
returns-in-Disk-clause-keys c =
    keys_there c.args.volume.now.image Disk c.args.dir c.in_ok-keys.keys.items (λ t s. c.in_ok-keys.ensures t s ∙ sym (ordered_disk t Disk c.args.dir refl))

pub returns-in-Disk-clause-order : goal.returns-in-Disk-clause-order
returns-in-Disk-clause-order c = λ t s. c.in_ok-keys.ensures t s ∙ sym (ordered_disk t c.args.order c.args.dir c.in-Disk.is)

pub sorted_keys-requires-clause-keys : goal.sorted_keys-requires-clause-keys
sorted_keys-requires-clause-keys c =
    keys_there c.args.volume.now.image Disk c.args.dir c.deref.result.now
    (λ t s. c.deref.ensures.value ∙ c.in_ok-keys.ensures t s ∙ sym (ordered_disk t Disk c.args.dir refl))

pub sorted_keys-requires-clause-once : goal.sorted_keys-requires-clause-once
sorted_keys-requires-clause-once c =
    let t = c.image.ensures.stands.0 in
    let s = c.image.ensures.stands.1 in
    subst Once (sym (c.deref.ensures.value ∙ c.in_ok-keys.ensures t s)) (s.proper.once c.args.dir)

pub returns-in_ok-sorted-in_default : goal.returns-in_ok-sorted-in_default
returns-in_ok-sorted-in_default c =
    let order = c.args.order in
    let dir = c.args.dir in
    let found = c.in_ok-sorted-in_default.sorted.items in
    let is : (t : Tree) → Stands c.args.volume.now.image t → found ≡ ordered t order dir =
    λ t s.
    c.in_ok-sorted-in_default.ensures t s
    ∙ ap (sorted (comes_before t order)) (c.deref.ensures.value ∙ c.in_ok-keys.ensures t s)
    ∙ sym (ordered_other t order dir c.in_default.not-Disk) in
    record { keys = keys_there c.args.volume.now.image order dir found is; order = is }
