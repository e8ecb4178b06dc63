use Rattle.ados_volume.proofs.Common.{HasFileKey, List, Shown, Stands, ap, bytes_in, drop, file_writable, length, min, readable, subst, sym, take, ℕ, ◌++◌, ◌-◌, ◌∙◌}
use Rattle.ados_volume.proofs.Staying.{with_places}
use Rattle.ados_volume.proofs.volume.Volume.read_on.Goals as goal

pub read_near-requires-clause-readable : goal.read_near-requires-clause-readable
read_near-requires-clause-readable c =
    readable c.self.inside.image c.args.key (file_writable c.self.inside.image c.args.key c.self.invariant.tree (subst (λ (w : Shown). HasFileKey w.image c.args.key) (sym c.self.view_is) c.requires)).lawful

pub invariant_of-self : goal.invariant_of-self
invariant_of-self c = with_places c.self.invariant _ c.at-place.ensures.known

pub returns-clause-count : goal.returns-clause-count
returns-clause-count c = λ t s.
    let key = subst (λ (w : Shown). HasFileKey w.image c.args.key) (sym c.self.view_is) c.requires in
    let stands = subst (λ (w : Shown). Stands w.image t) (sym c.self.view_is) s in
    c.read_near.ensures.count ∙ ap (λ (xs : List ℕ). min (length c.args.buffer.now) (length xs - c.args.pos)) (bytes_in c.self.inside.image t stands c.args.key key)

pub returns-clause-bytes : goal.returns-clause-bytes
returns-clause-bytes c = λ t s.
    let key = subst (λ (w : Shown). HasFileKey w.image c.args.key) (sym c.self.view_is) c.requires in
    let stands = subst (λ (w : Shown). Stands w.image t) (sym c.self.view_is) s in
    c.read_near.ensures.bytes
    ∙ ap (λ (xs : List ℕ). take c.read_near.result (drop c.args.pos xs) ++ drop c.read_near.result c.args.buffer.now) (bytes_in c.self.inside.image t stands c.args.key key)
