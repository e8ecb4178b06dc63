use Rattle.ados_volume.proofs.Common.{ap, data_count, extension_count, format_is, ℕ, ◌+◌, ◌∙◌}
use Rattle.ados_volume.proofs.Examining.{file_is, file_cost_is}
use Rattle.ados_volume.proofs.examine.cost_in.Goals as goal

pub returns-then-is_file_in : goal.returns-then-is_file_in
returns-then-is_file_in c = λ t node s e.
    ap (λ (n : ℕ). 1 + n) c.blocks_of.ensures
    ∙ ap (λ f. 1 + (data_count f c.args.size + extension_count (data_count f c.args.size))) (c.format.ensures ∙ format_is c.args.image.now t s)
    ∙ file_cost_is t.format node.content c.args.size (c.if-is_file_in.ensures t s ∙ file_is c.args.image.now t s c.args.key node e) (c.requires.size t node s e)
