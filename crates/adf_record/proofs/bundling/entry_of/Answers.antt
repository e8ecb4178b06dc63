use Rattle.adf_record.proofs.Common.{refl, ap, FileInfo, some_in}
use Rattle.adf_record.proofs.bundling.entry_of.Goals as goal

pub returns : goal.returns
returns c = λ t s.
    let n = some_in (t.nodes c.args.found.now.key) (c.requires t s) in
    let told = c.examine-told.ensures t n.0 s n.1 in
    record {
      node = n.0;
      there = n.1;
      above = refl;
      name = ap (λ (info : FileInfo). info.name) told;
      size = c.file_size.ensures t n.0 s n.1;
      protection = ap (λ (info : FileInfo). info.protection.0) told;
      date = ap (λ (info : FileInfo). info.date) told;
      comment = ap (λ (info : FileInfo). info.comment) told;
    }
