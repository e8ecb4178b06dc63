use Rattle.adf_export.proofs.Common.{[], Option, map, refl, sym, ap, ◌∙◌, option_map_or, some_in, file_info, name_in, Node, FileInfo, weight, upper}
use Rattle.adf_export.proofs.order.rank_of.Goals as goal

pub returns : goal.returns
returns c = λ t s.
    let key = c.args.key in
    let order = c.args.order in
    let n = some_in (t.nodes key) (c.requires t s) in
    let info = c.examine-info.ensures t n.0 s n.1 in
    record {
      weight = c.weight_of.ensures ∙ ap (weight order) info ∙ sym (ap (λ (o : Option Node). option_map_or (λ node. weight order (file_info t.format key node)) o []) n.1);
      name = c.in_ok-name.ensures ∙ ap (map upper) (c.bytes.ensures.value ∙ ap (λ (i : FileInfo). i.name) info ∙ sym (ap name_in n.1));
      own = refl;
    }
