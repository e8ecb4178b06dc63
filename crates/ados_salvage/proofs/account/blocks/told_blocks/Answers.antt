use Rattle.std.proofs.Common.{ℕ, ◌<◌, All, List, sym, subst}
use Rattle.ados_salvage.proofs.AccountCommon.{block_count}
use Rattle.ados_salvage.proofs.Telling.{extensions_inside}
use Rattle.ados_salvage.proofs.account.blocks.told_blocks.Goals as goal

pub push_extensions-requires : goal.push_extensions-requires
push_extensions-requires c =
    subst (λ (image : List ℕ). All (λ block. block < block_count image) c.deref.result.now) (sym c.image-image.ensures.image)
    (subst (λ (blocks : List ℕ). All (λ block. block < block_count c.args.salvage.now.image) blocks) (sym c.deref.ensures.value)
    (extensions_inside c.args.salvage.now c.in_ok-extensions.extensions.items c.in_ok-extensions.ensures))
