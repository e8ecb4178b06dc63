use Rattle.adf_block.proofs.Common.{[], subst, sym, Follows}
use Rattle.adf_block.proofs.code.boot_code.Goals as goal

pub returns-then-not-is_bootable : goal.returns-then-not-is_bootable
returns-then-not-is_bootable c = (
  λ empty. cc (c.if-follows.ensures.1 (subst (Follows 4 []) (sym c.boot_bytes-bytes.ensures.bytes) empty)),
  λ right. cc (c.if-not-is_bootable.ensures.1 right),
)
