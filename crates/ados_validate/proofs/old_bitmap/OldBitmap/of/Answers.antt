use Rattle.ados_validate.proofs.Common.{ℕ, ◌+◌, ◌/◌, ap, ◌∙◌, long}
use Rattle.ados_validate.proofs.KeptLongs.{kept_more}
use Rattle.ados_validate.proofs.old_bitmap.OldBitmap.of.Goals as goal

pub loop-k-preserved : goal.loop-k-preserved
loop-k-preserved c =
    kept_more c.args.image.now c.loop-k.longs.items c.push.new.self.items c.loop-k.k c.long-page.result c.long.result c.loop-k.invariant c.in_ok-push.ensures.items
    (c.long-page.ensures ∙ ap (λ (root : ℕ). long c.args.image.now root (79 + c.loop-k.k / 128)) c.root.ensures) c.long.ensures
