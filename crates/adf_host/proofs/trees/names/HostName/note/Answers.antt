use Rattle.std.proofs.Common.{◌≡◌, rules}
use Rattle.std.specs.String.{string_bytes}
use Rattle.adf_host.specs.Notes.{note_of}
use Rattle.adf_host.proofs.NameLemmas.{IsHostName-noted}
use Rattle.adf_host.proofs.trees.names.HostName.note.Goals as goal

pub invariant_of-result : goal.invariant_of-result
invariant_of-result c =
    let spelled : string_bytes c.in_ok-text.text ≡ note_of c.args.self.now = search rules in
    IsHostName-noted c.args.self.now (string_bytes c.in_ok-text.text) c.as_str.ensures.proper spelled
