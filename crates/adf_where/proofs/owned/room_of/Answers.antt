use Rattle.adf_where.proofs.Common.{sym, ap, ◌∙◌, data_size}
use Rattle.adf_block.specs.Fields.{format_of}
use Rattle.ados_change.proofs.Writable.{format_is}
use Rattle.adf_where.proofs.owned.room_of.Goals as goal

pub returns-in-Ofs-clause-value : goal.returns-in-Ofs-clause-value
returns-in-Ofs-clause-value c = λ t s. ap data_size (sym c.in-Ofs.is ∙ c.format.ensures ∙ ap format_of c.image.ensures.same ∙ format_is c.args.volume.now.image t s)

pub returns-in-Ffs-clause-value : goal.returns-in-Ffs-clause-value
returns-in-Ffs-clause-value c = λ t s. ap data_size (sym c.in-Ffs.is ∙ c.format.ensures ∙ ap format_of c.image.ensures.same ∙ format_is c.args.volume.now.image t s)
