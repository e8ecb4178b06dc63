use Rattle.std.proofs.Common.{refl, ap}
use Rattle.ados_model.specs.declared.answer.FileInfo.{FileInfo}
use Rattle.ados_model.proofs.Nodes.{some_in}
use Rattle.ados_salvage.proofs.listing.entry_of.Goals as goal

pub returns-clause-told : goal.returns-clause-told
returns-clause-told c = λ t s.
    let n = some_in (t.nodes c.args.entry.key) (c.requires t s) in
    let told = c.examine-told.ensures t n.0 s n.1 in
    record {
      node = n.0;
      at = n.1;
      name = ap (λ (info : FileInfo). info.name) told;
      protection_bits = ap (λ (info : FileInfo). info.protection.0) told;
      date_field = ap (λ (info : FileInfo). info.date) told;
      comment = ap (λ (info : FileInfo). info.comment) told;
      holds = c.state_in.ensures.state t n.0 s n.1;
      plain = refl;
      reached = refl;
    }
