use Rattle.ados_validate.proofs.Common.{List, ℕ, subst, arith, AreKeptLongs, few_pages}
use Rattle.ados_validate.proofs.KeptLongs.{kept_length}
use Rattle.ados_validate.proofs.old_bitmap.OldBitmap.pages.Goals as goal

pub overflow_cast-result : goal.overflow_cast-result
overflow_cast-result c = omega (arith, c.len.ensures, kept_length _ _ c.self.invariant, few_pages _ c.self.invariant.whole)

pub returns-clause-pages : goal.returns-clause-pages
returns-clause-pages c =
    let kept = subst (λ (image : List ℕ). AreKeptLongs image c.self.inside.longs.items) c.self.view_is c.self.invariant in
    omega (arith, c.len.ensures, kept_length _ _ kept)
