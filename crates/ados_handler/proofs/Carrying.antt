-- What a change of the tree must preserve for an object so that the holds on it stay proper.
use Rattle.std.proofs.Common.{◌≡◌, ◌≢◌, ℕ, ◌≤◌, inl, inr, Bool, true, Option, Some, None, IsSome, option_map, refl, sym, ap, ◌∙◌, subst, arith}
use Rattle.ados_handler.proofs.Common.{cases_eq, Content, Node, Tree, size_in, holds_file, changed, with_node, nodes_here, nodes_other, Session, HoldNumber, hold_at, IsProperSession, ByHandle}

-- the content of a node, if there is one
abbrev content_in : Option Node → Option Content
content_in o = option_map (λ node. node.content) o

-- a node is still a node, a file is still a file, and it is not shorter
pub record Carried (o p : Option Node) : Type 0 where
  pub node : IsSome o → IsSome p
  pub file : holds_file (content_in o) ≡ true → holds_file (content_in p) ≡ true
  pub size : size_in (content_in o) ≤ size_in (content_in p)

pub carried_same : (o p : Option Node) → p ≡ o → Carried o p
carried_same o p e = subst (Carried o) (sym e) (record { node = λ h. h; file = λ h. h; size = omega arith })

pub carried_on : (o p q : Option Node) → Carried o p → Carried p q → Carried o q
carried_on o p q first second = record { node = λ h. second.node (first.node h); file = λ h. second.file (first.file h); size = omega (arith, first.size, second.size) }

-- no node before needs none after
pub carried_new : (p : Option Node) → Carried None p
carried_new p = record { node = λ h. absurd (cc h); file = λ h. absurd (cc h); size = omega arith }

-- a node with the same content
pub carried_content : (a b : Node) → b.content ≡ a.content → Carried (Some a) (Some b)
carried_content a b e = record {
  node = λ h. h;
  file = λ h. ap (λ (c : Content). holds_file (Some c)) e ∙ h;
  size = let same = ap (λ (c : Content). size_in (Some c)) e in omega (arith, same);
}

-- one node is changed
pub carried_changed : (t : Tree) (key : ℕ) (f : Node → Node) → ((a : Node) → t.nodes key ≡ Some a → Carried (Some a) (Some (f a))) → (k : ℕ) → Carried (t.nodes k) ((changed key f t).nodes k)
carried_changed t key f here k = elim (cases_eq k key) [
  | inl e ↦ subst (λ (i : ℕ). Carried (t.nodes i) ((changed key f t).nodes i)) (sym e) (subst (Carried (t.nodes key)) (sym (nodes_here key (option_map f (t.nodes key)) t)) (go (t.nodes key) refl))
  | inr n ↦ carried_same (t.nodes k) _ (nodes_other key (option_map f (t.nodes key)) t k n)
]
  where
    go : (o : Option Node) → t.nodes key ≡ o → Carried o (option_map f o)
    go None e = carried_new None
    go (Some a) e = here a e

-- another node is added or removed
pub carried_beside : (t : Tree) (key : ℕ) (o : Option Node) (k : ℕ) → k ≢ key → Carried (t.nodes k) ((with_node key o t).nodes k)
carried_beside t key o k n = carried_same (t.nodes k) _ (nodes_other key o t k n)

-- the holds stay proper if each held object is carried
pub carried_session : (t u : Tree) (s : Session) → IsProperSession t s
    → ((hold : HoldNumber) (key : ℕ) (exclusive : Bool) → hold_at s hold ≡ Some (key, exclusive) → Carried (t.nodes key) (u.nodes key)) → IsProperSession u s
carried_session t u s session carried = record {
  on_keys = λ hold key exclusive h. (carried hold key exclusive h).node (session.on_keys hold key exclusive h);
  on_files = λ number h at.
      let was = session.on_files number h at in
      let here = carried (ByHandle number) h.key h.exclusive (ap (option_map (λ h. (h.key, h.exclusive))) at) in
      (here.file was.0, omega (arith, was.1, here.size));
  alone = session.alone;
}
