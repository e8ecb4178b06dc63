use Rattle.std.proofs.Common.{◌≡◌, ◌++◌, rules}
use Rattle.std.specs.String.{string_bytes}
use Rattle.adf_host.proofs.NameLemmas.{IsHostName-longer}
use Rattle.adf_host.proofs.trees.names.HostName.with_ending.Goals as goal

pub invariant_of-result : goal.invariant_of-result
invariant_of-result c =
    let spelled : string_bytes c.in_ok-text.text ≡ c.args.self.now ++ c.args.ending.now = search rules in
    IsHostName-longer c.args.self.now c.args.ending.now (string_bytes c.in_ok-text.text) c.requires.long c.requires.plain c.as_str.ensures.proper spelled
