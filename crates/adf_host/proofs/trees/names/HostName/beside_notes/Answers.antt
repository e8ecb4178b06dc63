use Rattle.std.proofs.Common.{rules, ◌≡◌, ◌++◌}
use Rattle.std.specs.Prelude.{codes}
use Rattle.adf_host.specs.Notes.{note_of}
use Rattle.adf_host.proofs.NoteLemmas.{beside_escaped}
use Rattle.adf_host.proofs.trees.names.HostName.beside_notes.Goals as goal

pub returns : goal.returns
returns c =
    let ends : c.args.self ≡ note_of c.in-Some.noted.now = search rules in
    let spelled : c.in_ok-text.text.bytes.items ≡ c.in-Some.noted.now ++ codes "%2Euaem" = search rules in
    beside_escaped c.args.self c.in-Some.noted.now c.in_ok-text.text.bytes.items ends spelled
