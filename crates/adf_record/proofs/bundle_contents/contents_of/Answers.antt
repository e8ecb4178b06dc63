use Rattle.adf_record.proofs.Common.{None, sym, subst, entries, root, AreBelow}
use Rattle.adf_record.proofs.Entries.{all_there}
use Rattle.adf_record.proofs.bundle_contents.contents_of.Goals as goal

pub bytes_of_all-requires : goal.bytes_of_all-requires
bytes_of_all-requires c =
    all_there c.args.volume.now.image c.deref.result.now
    (λ t s. subst (AreBelow t None 0 (entries t (root t))) (sym c.deref.ensures.value)
    (subst (λ key. AreBelow t None 0 (entries t key) c.in_ok-found.found.items) (c.root.ensures.root t s) (c.in_ok-found.ensures.below t s)))
