use Rattle.adf_where.proofs.Common.{◌≡◌, ltb, leb, true, false, arith, rules, IsPartitionPoint, VolumeFault}
use Rattle.std.proofs.lemmas.List.Sorted.{IsPartitionPoint-from_clause, IsPartitionedBy-leb, IsPartitionedBy-ltb}
use Rattle.adf_where.proofs.FaultsThere.{blocks_rise, faults_between, first_before_end}
use Rattle.adf_where.proofs.faulty.faults_at.Goals as goal

pub prove-unreachable-requires : goal.prove-unreachable-requires
prove-unreachable-requires c =
    let faults = c.args.faults.now in
    let block = c.args.block in
    let rise = blocks_rise faults c.requires in
    let from : IsPartitionPoint (λ (fault : VolumeFault). ltb fault.block block ≡ true) (λ (fault : VolumeFault). ltb fault.block block ≡ false) faults c.partition_point-first.result =
    IsPartitionPoint-from_clause (λ (fault : VolumeFault). ltb fault.block block) _ _ c.partition_point-first.ensures.partitioned (IsPartitionedBy-ltb (λ (fault : VolumeFault). fault.block) faults block rise) (λ a r q k. search rules) in
    let to : IsPartitionPoint (λ (fault : VolumeFault). leb fault.block block ≡ true) (λ (fault : VolumeFault). leb fault.block block ≡ false) faults c.partition_point-end.result =
    IsPartitionPoint-from_clause (λ (fault : VolumeFault). leb fault.block block) _ _ c.partition_point-end.ensures.partitioned (IsPartitionedBy-leb (λ (fault : VolumeFault). fault.block) faults block rise) (λ a r q k. search rules) in
    let before = first_before_end faults c.requires block c.partition_point-first.result c.partition_point-end.result from to c.partition_point-first.ensures.bound in
    omega (arith, before, c.if-prove.true)

pub returns : goal.returns
returns c =
    let faults = c.args.faults.now in
    let block = c.args.block in
    let rise = blocks_rise faults c.requires in
    let from : IsPartitionPoint (λ (fault : VolumeFault). ltb fault.block block ≡ true) (λ (fault : VolumeFault). ltb fault.block block ≡ false) faults c.partition_point-first.result =
    IsPartitionPoint-from_clause (λ (fault : VolumeFault). ltb fault.block block) _ _ c.partition_point-first.ensures.partitioned (IsPartitionedBy-ltb (λ (fault : VolumeFault). fault.block) faults block rise) (λ a r q k. search rules) in
    let to : IsPartitionPoint (λ (fault : VolumeFault). leb fault.block block ≡ true) (λ (fault : VolumeFault). leb fault.block block ≡ false) faults c.partition_point-end.result =
    IsPartitionPoint-from_clause (λ (fault : VolumeFault). leb fault.block block) _ _ c.partition_point-end.ensures.partitioned (IsPartitionedBy-leb (λ (fault : VolumeFault). fault.block) faults block rise) (λ a r q k. search rules) in
    faults_between faults c.requires block c.partition_point-first.result c.partition_point-end.result from to c.partition_point-first.ensures.bound c.partition_point-end.ensures.bound
