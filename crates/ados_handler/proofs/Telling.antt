-- Packets that set an object's metadata keep tree and session proper.
use Rattle.std.proofs.Common.{◌≡◌, ◌≢◌, ℕ, true, false, inl, inr, List, Option, Some, None, option_map, refl, sym, ap, ◌∙◌, subst, eq-eqb}
use Rattle.std.specs.Prelude.{◌∷◌, ◌==◌}
use Rattle.ados_handler.proofs.Common.{result_err, cases_eq, true≢false, not-false, Date3, IsPathText, Node, Tree, Proper, root, changed, stamped, with_node, some_in, CommentTooBig, DeviceNotMounted, InvalidComponentName, InvalidLock, ObjectWrongType, SetProtect, SetComment, SetDate, RenameDisk, Session, is_lock, walk_error, object, found, refuse, refusals, is_name, is_comment, After, none_refuses, not_refused, IsProperSession, KeepsProper}
use Rattle.ados_change.proofs.Retells.{Retells, proper_after}
use Rattle.ados_change.proofs.Cases.{bits_case, comment_case, date_case, name_case}
use Rattle.ados_change.proofs.Loose.{stamped_is_proper}
use Rattle.ados_handler.proofs.Named.{text_is_name, text_is_comment}
use Rattle.ados_handler.proofs.Walked.{root_is_key, found_is_key, no_error}
use Rattle.ados_handler.proofs.Reading.{IsProperAfter, by_success}
use Rattle.ados_handler.proofs.Carrying.{carried_content, carried_changed, carried_session}

-- a tree with one node's metadata and the disk date replaced is proper
pub told_proper : (t : Tree) → Proper t → (key : ℕ) (node : Node) → t.nodes key ≡ Some node → (f : Node → Node) → Retells t key node (f node) t.disk_date → (now : Date3) → Proper (stamped now (changed key f t))
told_proper t proper key node at f retells now =
    stamped_is_proper now (changed key f t)
    (subst (λ (o : Option Node). Proper (with_node key o t)) (sym (ap (option_map f) at)) (proper_after t key node (f node) t.disk_date retells proper))

-- if the node keeps its content, the holds stay proper too
pub tells : (t : Tree) (now : Date3) (result : After) → Proper t → (key : ℕ) (f : Node → Node) → ((node : Node) → (f node).content ≡ node.content)
    → (node : Node) → t.nodes key ≡ Some node → Retells t key node (f node) t.disk_date → (u : Session) → IsProperSession t u → result.tree ≡ stamped now (changed key f t) → result.session ≡ u → IsProperAfter result
tells t now result proper key f same node at retells u holds tree is =
    let told : Tree = stamped now (changed key f t) in (
      subst Proper (sym tree) (told_proper t proper key node at f retells now),
      subst (λ (v : Tree). IsProperSession v result.session) (sym tree) (subst (IsProperSession told) (sym is)
          (carried_session t told u holds (λ hold k e h. carried_changed t key f (λ a at_a. carried_content a (f a) (same a)) k))),
    )

-- the object of the packet is a node other than the root
pub not_root : (key r : ℕ) → (key == r) ≡ false → key ≢ r
not_root key r h e = elim (cases_eq key r) [ inl d ↦ absurd (true≢false (sym (rw e (eq-eqb r r refl)) ∙ h)) | inr n ↦ n e ]

module _ (t : Tree) (s : Session) (proper : Proper t) (session : IsProperSession t s) where
  -- the node of a walk that is not refused
  pub walked_node : (lock : ℕ) (path : List ℕ) → is_lock s lock ≡ true → option_map walk_error (result_err (found t s lock path)) ≡ None → (node : Node) × (t.nodes (object t s lock path) ≡ Some node)
  walked_node lock path held walked = some_in (t.nodes (object t s lock path)) (found_is_key t proper s session lock path (object t s lock path) held (no_error walk_error (found t s lock path) 0 walked))

pub set_protect_keeps : (lock : ℕ) (path : List ℕ) (bits : ℕ) → KeepsProper (SetProtect lock path bits)
set_protect_keeps lock path bits = by_success (SetProtect lock path bits) (λ t s now result proper session none w.
    let no = none_refuses (refuse DeviceNotMounted s.died ∷ refusals t s (SetProtect lock path bits)) none in
    let key = object t s lock path in
    let n = walked_node t s proper session lock path (not-false (is_lock s lock) (not_refused InvalidLock _ no.1.0)) no.1.1.0 in
    let other = not_root key (root t) (not_refused ObjectWrongType _ no.1.1.1.0) in
    tells t now result proper key (λ node. record node { protection = bits }) (λ node. refl) n.0 n.1 (bits_case t proper key n.0 n.1 bits other).retells s session (ap (λ (r : After). r.tree) w) (ap (λ (r : After). r.session) w))

pub set_comment_keeps : (lock : ℕ) (path comment : List ℕ) → IsPathText comment → KeepsProper (SetComment lock path comment)
set_comment_keeps lock path comment valid = by_success (SetComment lock path comment) (λ t s now result proper session none w.
    let no = none_refuses (refuse DeviceNotMounted s.died ∷ refusals t s (SetComment lock path comment)) none in
    let key = object t s lock path in
    let n = walked_node t s proper session lock path (not-false (is_lock s lock) (not_refused InvalidLock _ no.1.0)) no.1.1.0 in
    let short = text_is_comment comment valid (not-false (is_comment comment) (not_refused CommentTooBig _ no.1.1.1.0)) in
    let other = not_root key (root t) (not_refused ObjectWrongType _ no.1.1.1.1.0) in
    tells t now result proper key (λ node. record node { comment = comment }) (λ node. refl) n.0 n.1 (comment_case t proper key n.0 n.1 comment short other).retells s session (ap (λ (r : After). r.tree) w) (ap (λ (r : After). r.session) w))

pub set_date_keeps : (lock : ℕ) (path : List ℕ) (date : Date3) → KeepsProper (SetDate lock path date)
set_date_keeps lock path date = by_success (SetDate lock path date) (λ t s now result proper session none w.
    let no = none_refuses (refuse DeviceNotMounted s.died ∷ refusals t s (SetDate lock path date)) none in
    let key = object t s lock path in
    let n = walked_node t s proper session lock path (not-false (is_lock s lock) (not_refused InvalidLock _ no.1.0)) no.1.1.0 in
    tells t now result proper key (λ node. record node { date = date }) (λ node. refl) n.0 n.1 (date_case t proper key n.0 n.1 date).retells s session (ap (λ (r : After). r.tree) w) (ap (λ (r : After). r.session) w))

pub rename_disk_keeps : (name : List ℕ) → IsPathText name → KeepsProper (RenameDisk name)
rename_disk_keeps name valid = by_success (RenameDisk name) (λ t s now result proper session none w.
    let no = none_refuses (refuse DeviceNotMounted s.died ∷ refusals t s (RenameDisk name)) none in
    let n = some_in (t.nodes (root t)) (root_is_key t proper) in
    let is = text_is_name name valid (not-false (is_name name) (not_refused InvalidComponentName _ no.1.0)) in
    tells t now result proper (root t) (λ node. record node { name = name }) (λ node. refl) n.0 n.1 (name_case t proper (root t) n.0 n.1 name is refl).retells s session (ap (λ (r : After). r.tree) w) (ap (λ (r : After). r.session) w))
