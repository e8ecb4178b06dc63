use Rattle.ados_check.proofs.Common.{ℕ, ◌+◌, ◌*◌, List, drop, ap, ◌∙◌, subst, big_number, AreKept}
use Rattle.ados_check.proofs.Reading.{stands_at, long_there}
use Rattle.ados_check.proofs.sketch.Sketch.long.Goals as goal

pub returns : goal.returns
returns c =
    let self = c.self.inside in
    let are = subst (AreKept self.starts.items self.kept.items) c.self.view_is c.self.invariant.0 in
    let stands = stands_at self.starts.items self.kept.items c.args.self.now c.args.b c.in-Some.start c.index.result.now are c.requires.block c.index.ensures c.in-Some.is in
    c.read_long.ensures ∙ ap (λ (bytes : List ℕ). big_number 4 (drop (c.in-Some.start + 4 * c.args.i) bytes)) c.deref.ensures.value
    ∙ long_there self.kept.items c.args.self.now c.args.b c.in-Some.start c.args.i stands c.requires.kept c.requires.place
