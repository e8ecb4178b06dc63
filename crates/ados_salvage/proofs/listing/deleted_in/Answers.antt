use Rattle.ados_salvage.proofs.Common.{sym, subst, ShowsNoFault}
use Rattle.ados_model.proofs.NoFaults.{faults_have_no_tree}
use Rattle.ados_salvage.proofs.listing.deleted_in.Goals as goal

-- the image of a volume represents a tree, so it shows no fault
pub faultless_deleted-requires : goal.faultless_deleted-requires
faultless_deleted-requires c =
    let tree = c.image.ensures.stands in
    subst ShowsNoFault (sym c.image.ensures.same) (λ kind block shown. faults_have_no_tree c.args.volume.now.image tree.0 kind block shown tree.1)
