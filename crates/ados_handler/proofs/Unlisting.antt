-- Packets that remove an entry from its directory's list keep tree and session proper.
use Rattle.std.proofs.Common.{◌≡◌, ◌≢◌, ℕ, Bool, false, not, ◌==◌, List, ◌∷◌, filter, Option, Some, None, is_some, option_map, refl, sym, ap, ◌∙◌, subst}
use Rattle.ados_handler.proofs.Common.{not-false, Date3, IsPathText, Node, Tree, Proper, parent_of, changed, left, removed, renamed, with_node, directory_node, CanRename, IsDirectoryKey, DeviceNotMounted, InvalidLock, ObjectInUse, DeleteObject, RenameObject, is_held, is_held_exclusively, is_lock, object, spot_directory, spot_name, refuse, refusals, can_remove, none_refuses, not_refused, HoldNumber, hold_at, KeepsProper}
use Rattle.ados_model.specs.Tree.{entries}
use Rattle.ados_change.proofs.Loose.{left_is}
use Rattle.ados_change.proofs.ProperChanges.{into_directory, removed_is_proper, renamed_is_proper}
use Rattle.ados_volume.proofs.Refusing.{can_move}
use Rattle.ados_handler.proofs.Holding.{not_held}
use Rattle.ados_handler.proofs.Reading.{same_after, by_success}
use Rattle.ados_handler.proofs.Carrying.{Carried, carried_beside, carried_changed, carried_content, carried_on, carried_session}
use Rattle.ados_handler.proofs.Telling.{walked_node}
use Rattle.ados_handler.proofs.Making.{carried_listed, is_directory, spot_is}

module _ (t : Tree) (proper : Proper t) (key dir : ℕ) (below : parent_of t key ≡ Some dir) (moment : Date3) where
  holder : IsDirectoryKey t dir
  holder =
      let d = directory_node t proper dir key ((proper.listed dir key).1 below) in
      (d.1, ap (λ (o : Option Node). option_map (λ node. node.content) o) d.2 ∙ ap Some d.3)

  -- an entry that leaves its list leaves each object unchanged
  left_carried : (k : ℕ) → Carried (t.nodes k) ((left moment key t).nodes k)
  left_carried k =
      subst (λ (u : Tree). Carried (t.nodes k) (u.nodes k)) (sym (left_is t proper key dir below moment))
      (carried_listed t moment dir (filter (λ j. not (j == key)) (entries t dir)) holder k)

-- ---- DELETE_OBJECT

pub delete_keeps : (lock : ℕ) (path : List ℕ) → KeepsProper (DeleteObject lock path)
delete_keeps lock path = by_success (DeleteObject lock path) (λ t s now result proper session none w.
    let no = none_refuses (refuse DeviceNotMounted s.died ∷ refusals t s (DeleteObject lock path)) none in
    let key = object t s lock path in
    let n = walked_node t s proper session lock path (not-false (is_lock s lock) (not_refused InvalidLock _ no.1.0)) no.1.1.0 in
    let can = can_remove t proper key (ap is_some n.1) (is_held s key) false no.1.1.1 in
    let free = not_held s key (not_refused ObjectInUse _ no.1.1.1.1.0) in
    let others : (hold : HoldNumber) (k : ℕ) (e : Bool) → hold_at s hold ≡ Some (k, e) → k ≢ key = λ hold k e h same. free hold e (subst (λ (i : ℕ). hold_at s hold ≡ Some (i, e)) same h) in
    let gone = left now key t in
    same_after result _ w (
      removed_is_proper t now key proper can,
      carried_session t (removed now key t) s session (λ hold k e h.
          carried_on (t.nodes k) (gone.nodes k) ((with_node key None gone).nodes k) (left_carried t proper key can.dir can.listed now k) (carried_beside gone key None k (others hold k e h))),
    ))

-- ---- RENAME_OBJECT

module _ (t : Tree) (proper : Proper t) (moment : Date3) (key dir : ℕ) (name : List ℕ) (can : CanRename t key dir name) where
  abbrev loose : Tree
  loose = changed key (λ node. record node { name = name; parent = Some dir }) (left moment key t)

  target : IsDirectoryKey loose dir
  target =
      let d = into_directory t moment key dir name proper can in
      subst (λ (u : Tree). IsDirectoryKey (changed key (λ node. record node { name = name; parent = Some dir }) u) dir) (sym (left_is t proper key can.from can.listed moment))
      (d.1, ap (λ (o : Option Node). option_map (λ node. node.content) o) d.2 ∙ ap Some d.3)

  renamed_carried : (k : ℕ) → Carried (t.nodes k) ((renamed moment key dir name t).nodes k)
  renamed_carried k =
      carried_on (t.nodes k) (loose.nodes k) ((renamed moment key dir name t).nodes k)
      (carried_on (t.nodes k) ((left moment key t).nodes k) (loose.nodes k) (left_carried t proper key can.from can.listed moment k)
      (carried_changed (left moment key t) key (λ node. record node { name = name; parent = Some dir }) (λ a at. carried_content a (record a { name = name; parent = Some dir }) refl) k))
      (carried_listed loose moment dir _ target k)

pub rename_keeps : (from_lock : ℕ) (from : List ℕ) (to_lock : ℕ) (to : List ℕ) → IsPathText to → KeepsProper (RenameObject from_lock from to_lock to)
rename_keeps from_lock from to_lock to valid = by_success (RenameObject from_lock from to_lock to) (λ t s now result proper session none w.
    let no = none_refuses (refuse DeviceNotMounted s.died ∷ refusals t s (RenameObject from_lock from to_lock to)) none in
    let key = object t s from_lock from in
    let dir = spot_directory t s to_lock to in
    let name = spot_name t s to_lock to in
    let n = walked_node t s proper session from_lock from (not-false (is_lock s from_lock) (not_refused InvalidLock _ no.1.0)) no.1.1.1.0 in
    let is = spot_is t proper s session to_lock to valid (not-false (is_lock s to_lock) (not_refused InvalidLock _ no.1.1.0)) no.1.1.1.1.0 in
    let can = can_move t proper key (ap is_some n.1) (is_held_exclusively s key) dir name (is_directory t dir is.node is.no_file) is.name no.1.1.1.1.1 in
    same_after result _ w (
      renamed_is_proper t now key dir name proper can,
      carried_session t (renamed now key dir name t) s session (λ hold k e h. renamed_carried t proper now key dir name can k),
    ))
