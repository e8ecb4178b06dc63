-- Operations on a tree that have a name of their own in contracts.
use Rattle.std.specs.Prelude.{ℕ, ◌+◌, ◌-◌, ◌++◌, List, [], length, take, drop, replicate, Some}
use Rattle.ados_name.specs.declared.stamp.Date3.{Date3}
use Rattle.ados_model.specs.Tree.{Content, Node, Tree, bytes_of, root}
use Rattle.ados_model.specs.Change.{changed, rewritten, stamped}

-- the list with ys over its elements from position pos; it grows if ys reach past its end
abbrev pub overlaid : List ℕ → ℕ → List ℕ → List ℕ
overlaid xs pos ys = take pos xs ++ ys ++ drop (pos + length ys) xs

-- a new entry: protection 0 and no comment
abbrev pub new_node : Date3 → ℕ → List ℕ → Content → Node
new_node moment dir name content = record { name = name; parent = Some dir; protection = 0; date = moment; comment = []; content = content }

-- a file is cut to a size
abbrev pub shortened : Date3 → ℕ → ℕ → Tree → Tree
shortened moment key size t = rewritten moment key (take size (bytes_of t key)) t

-- a file grows to a size, with zeros
abbrev pub grown : Date3 → ℕ → ℕ → Tree → Tree
grown moment key size t = rewritten moment key (bytes_of t key ++ replicate (size - length (bytes_of t key)) 0) t

-- the protection of a node is set
abbrev pub with_protection : Date3 → ℕ → ℕ → Tree → Tree
with_protection moment key bits t = stamped moment (changed key (λ node. record node { protection = bits }) t)

-- the comment of a node is set
abbrev pub with_comment : Date3 → ℕ → List ℕ → Tree → Tree
with_comment moment key comment t = stamped moment (changed key (λ node. record node { comment = comment }) t)

-- the date of a node is set
abbrev pub with_date : Date3 → ℕ → Date3 → Tree → Tree
with_date moment key date t = stamped moment (changed key (λ node. record node { date = date }) t)

-- the volume is renamed
abbrev pub disk_renamed : Date3 → List ℕ → Tree → Tree
disk_renamed moment name t = stamped moment (changed (root t) (λ node. record node { name = name }) t)
