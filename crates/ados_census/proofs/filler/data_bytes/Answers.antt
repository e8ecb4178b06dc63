use Rattle.std.proofs.Common.{ap, sym, ◌∙◌}
use Rattle.adf_block.specs.Image.{bytes_at}
use Rattle.ados_model.specs.Tree.{data_size, data_start}
use Rattle.adf_block.specs.declared.layout.Format.{Format}
use Rattle.ados_census.proofs.DataBytes.{behind_header}
use Rattle.ados_census.proofs.filler.data_bytes.Goals as goal

pub returns-in-Ofs : goal.returns-in-Ofs
returns-in-Ofs c =
    behind_header c.args.image.now c.args.block c.block-bytes.result.now c.block-bytes.ensures.bytes c.block-bytes.ensures.length
    ∙ ap (λ (f : Format). bytes_at c.args.image.now c.args.block (data_start f) (data_size f)) (sym c.in-Ofs.is ∙ c.format.ensures)
