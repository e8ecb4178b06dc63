use Rattle.ados_volume.proofs.Common.{IsLowestFree, List, NoneFree, RefusesEntry, Shown, Some, Stands, [], entries_in, refl, subst, sym, ℕ, ◌≡◌}
use Rattle.ados_change.specs.Kinds.{Makes, content_of}
use Rattle.ados_change.specs.declared.node_kind.NodeKind.{NodeKind}
use Rattle.ados_change.specs.declared.node_kind.NodeKind.TheVariants as kinds
use Rattle.ados_change.proofs.Making.{unused}
use Rattle.ados_volume.proofs.Known.{none_known}
use Rattle.ados_volume.proofs.Looking.{no_child}
use Rattle.ados_volume.proofs.Moved.{made_child, made_from, made_stay}
use Rattle.ados_volume.proofs.Refilled.{refuses, still_shown}
use Rattle.ados_volume.proofs.Staying.{entered_sound, unchanged_sound}
use Rattle.ados_volume.proofs.volume.Volume.create.Goals as goal

no_entries : (kind : NodeKind) → entries_in (Some (content_of kind)) ≡ []
no_entries kinds.Directory = refl
no_entries kinds.File = refl

pub create-requires-clause-can : goal.create-requires-clause-can
create-requires-clause-can c = λ t s. c.requires t (subst (λ (shown : Shown). Stands shown.image t) c.self.view_is s)

pub invariant_of-self-2 : goal.invariant_of-self-2
invariant_of-self-2 c =
    let image = c.self.inside.image in
    let t = c.self.invariant.tree.0 in
    let s = c.self.invariant.tree.1 in
    let dir = c.args.dir in
    let name = c.args.name in
    let key = c.in_ok-key.key in
    let content = content_of c.args.kind in
    let can = c.requires t (subst (λ (shown : Shown). Stands shown.image t) c.self.view_is s) in
    let no_node = (unused image t s key c.in_ok-key.ensures.key).no_node in
    let stands = c.in_ok-key.ensures.stands t s in
    entered_sound c.self.invariant c.create.new.image _ stands (made_stay t s.proper c.args.moment dir key name content no_node) dir name key
    (no_child image t s dir name can.new_name)
    (made_child t s.proper c.args.moment dir key name content no_node (no_entries c.args.kind) can.directory c.create.new.image stands)
    (made_from t s.proper c.args.moment dir key name content no_node (no_entries c.args.kind) can.directory)
    _ _ c.enter.ensures _ (c.keep.ensures c.create.new.image) _ c.clear.ensures _ c.in_ok-key.ensures.below

pub invariant_of-self : goal.invariant_of-self
invariant_of-self c = unchanged_sound c.self.invariant _ c.in_err-key.ensures.full.1 _ (none_known c.self.inside.image _ c.clear.ensures)

pub returns-clause-done : goal.returns-clause-done
returns-clause-done c = (
  subst (λ (w : Shown). IsLowestFree w.image c.in_ok-key.key) c.self.view_is c.in_ok-key.ensures.key,
  λ t s. c.in_ok-key.ensures.stands t (subst (λ (w : Shown). Stands w.image t) (sym c.self.view_is) s),
)

pub returns-in_err-key-clause-done : goal.returns-in_err-key-clause-done
returns-in_err-key-clause-done c =
    refuses (λ key. Makes c.args.moment c.args.dir c.args.name c.args.kind key c.args.self.now.image c.create.new.image) (RefusesEntry c.args.self.now (record { image = c.create.new.image; was_validated = c.self.inside.was_validated }))
    c.from_residual.result c.in_err-key.field-0.0 c.from_residual.ensures.1 (
      subst (λ (w : Shown). NoneFree w.image) c.self.view_is c.in_err-key.ensures.full.0,
      still_shown c.self.inside.image c.create.new.image c.self.inside.was_validated c.args.self.now c.self.view_is c.in_err-key.ensures.full.1,
    )
