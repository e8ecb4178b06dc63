use Rattle.ados_validate.proofs.Common.{List, ℕ, subst, arith, AreKeptLongs}
use Rattle.ados_validate.proofs.KeptLongs.{kept_long, within_kept}
use Rattle.ados_validate.proofs.old_bitmap.OldBitmap.long.Goals as goal

pub index-requires : goal.index-requires
index-requires c =
    let kept = subst (λ (image : List ℕ). AreKeptLongs image c.self.inside.longs.items) c.self.view_is c.self.invariant in
    let within = within_kept _ _ kept c.args.p c.args.i c.requires.page c.requires.place in
    omega (arith, within)

pub returns : goal.returns
returns c =
    let kept = subst (λ (image : List ℕ). AreKeptLongs image c.self.inside.longs.items) c.self.view_is c.self.invariant in
    kept_long _ _ kept c.args.p c.args.i c.requires.page c.requires.place c.index.result.now c.index.ensures
