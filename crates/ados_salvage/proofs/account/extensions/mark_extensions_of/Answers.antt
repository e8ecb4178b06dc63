use Rattle.std.proofs.Common.{inl, inr, arith}
use Rattle.ados_salvage.proofs.Walking.{adds_no_extension}
use Rattle.ados_salvage.proofs.account.extensions.mark_extensions_of.Goals as goal
use Rattle.ados_salvage.proofs.account.extensions.mark_extensions_of.Goals.{then-not-is_damaged_file-via-then-not-is_damaged_file, then-not-is_damaged_file-via-else-not-is_damaged_file+then-header-lt-BOOT_BLOCKS, then-not-is_damaged_file-via-else-not-is_damaged_file+else-header-lt-BOOT_BLOCKS+then-header-blocks}

pub returns-then-not-is_damaged_file-clause-added : goal.returns-then-not-is_damaged_file-clause-added
returns-then-not-is_damaged_file-clause-added c =
    adds_no_extension c.args.image.now c.args.entry.now c.args.marks.now.items
    (elim c.then-not-is_damaged_file.branch [
      | then-not-is_damaged_file-via-then-not-is_damaged_file w ↦ inl (rw w.if-not-is_damaged_file.true at c.is_damaged_file.ensures)
      | then-not-is_damaged_file-via-else-not-is_damaged_file+then-header-lt-BOOT_BLOCKS w ↦ inr (λ inside. absurd (omega (arith, inside.0, w.if-header-lt-BOOT_BLOCKS.true)))
      | then-not-is_damaged_file-via-else-not-is_damaged_file+else-header-lt-BOOT_BLOCKS+then-header-blocks w ↦
          inr (λ inside. absurd (omega (arith, inside.1, w.if-header-blocks.true, w.blocks-else-header-lt-BOOT_BLOCKS.ensures.count)))
    ])
