-- How much longer the files of a changed tree are: at most one is longer.
use Rattle.std.proofs.Common.{◌≡◌, ◌≢◌, ℕ, ◌≤◌, ◌==◌, List, [], filter, not, Option, None, Some, option_map, inl, inr, refl, sym, ap, ◌∙◌, arith}
use Rattle.std.proofs.lemmas.Bool.{cases_eq}
use Rattle.std.specs.Option.{option_map_or}
use Rattle.ados_model.specs.Tree.{Content, Date3, Node, Tree, entries, name_of, parent_of, size_of}
use Rattle.ados_model.specs.Parts.{size_in}
use Rattle.ados_model.specs.Change.{changed, enter, left, listed, made, removed, renamed, rewritten, with_node}
use Rattle.ados_name.specs.Name.{slot}
use Rattle.ados_change.specs.Laws.{OneGrows}
use Rattle.ados_change.proofs.Changed.{nodes_here, nodes_other, relisted}

-- no file but this one is longer
abbrev pub NoLongerBut : ℕ → Tree → Tree → Type 0
NoLongerBut key t u = (file : ℕ) → file ≢ key → size_of u file ≤ size_of t file

-- no file is longer
abbrev pub NoLonger : Tree → Tree → Type 0
NoLonger t u = (file : ℕ) → size_of u file ≤ size_of t file

pub one_grows : (key : ℕ) (t u : Tree) → NoLongerBut key t u → OneGrows t u
one_grows key t u h f g l m = elim (cases_eq f key) [
  | inr n ↦ absurd (omega (arith, l, h f n))
  | inl e ↦ elim (cases_eq g key) [ inr n ↦ absurd (omega (arith, m, h g n)) | inl d ↦ e ∙ sym d ]
]

pub none_grows : (t u : Tree) → NoLonger t u → OneGrows t u
none_grows t u h f g l m = absurd (omega (arith, l, h f))

-- the size of a node
abbrev pub node_size : Option Node → ℕ
node_size o = size_in (option_map (λ (node : Node). node.content) o)

pub replaced_size : (key : ℕ) (o : Option Node) (t : Tree) → NoLongerBut key t (with_node key o t)
replaced_size key o t file n = omega (arith, ap node_size (nodes_other key o t file n))

pub changed_size : (key : ℕ) (f : Node → Node) (t : Tree) → ((o : Option Node) → node_size (option_map f o) ≤ node_size o) → NoLonger t (changed key f t)
changed_size key f t keeps file = elim (cases_eq file key) [
  | inr n ↦ replaced_size key (option_map f (t.nodes key)) t file n
  | inl e ↦
      let here = ap (λ (k : ℕ). node_size ((changed key f t).nodes k)) e ∙ ap node_size (nodes_here key (option_map f (t.nodes key)) t) in
      omega (arith, here, keeps (t.nodes key), ap (λ (k : ℕ). node_size (t.nodes k)) e)
]

-- a change of a node that keeps its content
pub kept_size : (key : ℕ) (f : Node → Node) (t : Tree) → ((a : Node) → (f a).content ≡ a.content) → NoLonger t (changed key f t)
kept_size key f t same = changed_size key f t go
  where
    go : (o : Option Node) → node_size (option_map f o) ≤ node_size o
    go None = omega arith
    go (Some a) = omega (arith, ap (λ (c : Content). size_in (Some c)) (same a))

pub listed_size : (moment : Date3) (dir : ℕ) (keys : List ℕ) (t : Tree) → NoLonger t (listed moment dir keys t)
listed_size moment dir keys t = changed_size dir (relisted moment keys) t go
  where
    go : (o : Option Node) → node_size (option_map (relisted moment keys) o) ≤ node_size o
    go None = omega arith
    go (Some a) = omega arith

left_size : (moment : Date3) (key : ℕ) (t : Tree) → NoLonger t (left moment key t)
left_size moment key t = go (parent_of t key)
  where
    go : (o : Option ℕ) → NoLonger t (option_map_or (λ dir. listed moment dir (filter (λ k. not (k == key)) (entries t dir)) t) o t)
    go None file = omega arith
    go (Some dir) file = listed_size moment dir (filter (λ k. not (k == key)) (entries t dir)) t file

-- the list of a directory with one more key
abbrev entering : ℕ → ℕ → Tree → List ℕ
entering dir key t = enter (λ k. slot (name_of t k)) key (entries t dir)

pub made_size : (moment : Date3) (dir key : ℕ) (name : List ℕ) (content : Content) (t : Tree) → NoLongerBut key t (made moment dir key name content t)
made_size moment dir key name content t file n =
    let node : Node = record { name = name; parent = Some dir; protection = 0; date = moment; comment = []; content = content } in
    omega (arith, listed_size moment dir (entering dir key (with_node key (Some node) t)) (with_node key (Some node) t) file, replaced_size key (Some node) t file n)

pub removed_size : (moment : Date3) (key : ℕ) (t : Tree) → NoLongerBut key t (removed moment key t)
removed_size moment key t file n = omega (arith, replaced_size key None (left moment key t) file n, left_size moment key t file)

pub renamed_size : (moment : Date3) (key dir : ℕ) (name : List ℕ) (t : Tree) → NoLonger t (renamed moment key dir name t)
renamed_size moment key dir name t file =
    let titled : Node → Node = λ node. record node { name = name; parent = Some dir } in
    omega (arith, listed_size moment dir (entering dir key (changed key titled (left moment key t))) (changed key titled (left moment key t)) file, kept_size key titled (left moment key t) (λ a. refl) file, left_size moment key t file)

pub rewritten_size : (moment : Date3) (key : ℕ) (bytes : List ℕ) (t : Tree) → NoLongerBut key t (rewritten moment key bytes t)
rewritten_size moment key bytes t file n = replaced_size key _ t file n
