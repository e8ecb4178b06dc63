use Rattle.adf_host.proofs.trees.names.HostName.of_name.Goals as goal

pub invariant_of-result : goal.invariant_of-result
invariant_of-result c = c.in_ok-text.ensures.fit
