use Rattle.adf_record.proofs.Common.{ap, ◌∙◌, block_count, format_of, FileInfo, count_same, format_is}
use Rattle.adf_record.proofs.bundling.head_of.Goals as goal

pub returns : goal.returns
returns c = λ t s.
    let image = c.args.volume.now.image in
    let node = s.proper.root_node.0 in
    let there = ap t.nodes (c.root.ensures.root t s) ∙ s.proper.root_node.1 in
    let told = c.examine-root.ensures t node s there in
    record {
      format = c.format.ensures ∙ ap format_of c.image-2.ensures.same ∙ format_is image t s;
      blocks = c.blocks-3.ensures.count ∙ ap block_count c.image-3.ensures.same ∙ count_same image t s;
      root_node = node;
      at_root = s.proper.root_node.1;
      label = ap (λ (info : FileInfo). info.name) told;
      created = c.root_date.ensures t s ∙ s.root_fields.creation_date;
      changed = c.root_date-2.ensures t s ∙ s.root_fields.disk_date;
      root_date = ap (λ (info : FileInfo). info.date) told;
    }
