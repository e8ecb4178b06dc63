-- Changes of one field of a node.
use Rattle.std.specs.Prelude.{ℕ, List}
use Rattle.ados_name.specs.declared.stamp.Date3.{Date3}
use Rattle.ados_model.specs.Tree.{Tree, root}
use Rattle.ados_model.specs.Change.{changed}

-- a node's date is set
abbrev pub dated : ℕ → Date3 → Tree → Tree
dated key date t = changed key (λ node. record node { date = date }) t

-- a node's protection bits are set
abbrev pub protected : ℕ → ℕ → Tree → Tree
protected key bits t = changed key (λ node. record node { protection = bits }) t

-- a node's comment is set
abbrev pub commented : ℕ → List ℕ → Tree → Tree
commented key comment t = changed key (λ node. record node { comment = comment }) t

-- the volume's name is set
abbrev pub named : List ℕ → Tree → Tree
named name t = changed (root t) (λ node. record node { name = name }) t
