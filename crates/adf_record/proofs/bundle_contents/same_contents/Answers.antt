use Rattle.adf_record.proofs.Common.{bytes_eq-Decides}
use Rattle.std.specs.Str.{bytes_eq}
use Rattle.adf_record.proofs.Mapped.{mapped_decides}
use Rattle.adf_record.proofs.bundle_contents.same_contents.Goals as goal

pub returns : goal.returns
returns c = mapped_decides (λ bytes. bytes.items) bytes_eq bytes_eq-Decides c.args.one.now c.args.other.now c.eq.result c.eq.ensures
