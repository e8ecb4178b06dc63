use Rattle.ados_check.proofs.Common.{◌≡◌, ℕ, ◌+◌, ◌-◌, List, take, drop, ap, ◌∙◌, subst, arith, AreKept}
use Rattle.ados_check.proofs.Reading.{stands_at, block_there}
use Rattle.ados_check.proofs.sketch.Sketch.block.Goals as goal

pub returns-clause-bytes : goal.returns-clause-bytes
returns-clause-bytes c =
    let self = c.self.inside in
    let start = c.in-Some.start in
    let are = subst (AreKept self.starts.items self.kept.items) c.self.view_is c.self.invariant.0 in
    let stands = stands_at self.starts.items self.kept.items c.args.self.now c.args.b start c.index.result.now are c.requires.inside c.index.ensures c.in-Some.is in
    let size : start + 512 - start ≡ 512 = omega arith in
    ap (λ (n : ℕ). take n (drop start c.deref.result.now)) size ∙ ap (λ (bytes : List ℕ). take 512 (drop start bytes)) c.deref.ensures.value
    ∙ block_there self.kept.items c.args.self.now c.args.b start stands c.requires.kept c.requires.inside
