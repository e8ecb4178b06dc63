use Rattle.ados_salvage.proofs.KnownCommon.{◌≡◌, ◌∷◌, ◌++◌, map, range_with_len}
use Rattle.ados_model.specs.File.{data_block, extension_blocks}
use Rattle.ados_salvage.proofs.known.intact.named_blocks.Given as goal

abbrev pub invariant-loop-i : goal.invariant-loop-i
invariant-loop-i l = l.blocks.items ≡ (l.file ∷ extension_blocks l.image l.file) ++ map (data_block l.image l.file) (range_with_len 0 l.i)
