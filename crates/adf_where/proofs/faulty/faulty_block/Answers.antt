use Rattle.adf_where.proofs.Common.{ℕ, ◌==◌, refl, ap}
use Rattle.adf_where.proofs.FaultsThere.{faults_there}
use Rattle.adf_where.proofs.faulty.faulty_block.Goals as goal

pub faults_at-requires : goal.faults_at-requires
faults_at-requires c = c.requires.lists.in_order

pub returns : goal.returns
returns c = λ blocks are named.
    let block = c.args.block in
    record {
      block_is = refl;
      root = ap (λ (root : ℕ). block == root) c.root.ensures;
      places = c.places.ensures c.args.image.now blocks are named;
      faults = faults_there c.args.image.now block c.args.faults.now c.faults_at.result.now c.requires c.faults_at.ensures;
      unread_is = c.unread_of.ensures;
    }
