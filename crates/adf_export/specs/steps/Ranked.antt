-- Entries and their ranks in an order.
use Rattle.std.specs.Prelude.{◌≡◌, ⊤, ℕ, List, [], ◌∷◌, map}
use Rattle.std.specs.Ordering.{nat_cmp, ordering_then}
use Rattle.std.specs.Cmp.Lexicographic.{slice_cmp}
use Rattle.std.specs.declared.cmp.Ordering.{Ordering}
use Rattle.ados_name.specs.Name.{upper}
use Rattle.ados_model.specs.Tree.{Tree, name_of}
use Rattle.adf_cli.specs.declared.query.ListOrder.{ListOrder}
use Rattle.adf_export.specs.declared.order.Rank.{Rank}
use Rattle.adf_export.specs.Ordered.{weight_of}

-- the rank of the entry with this key
pub record IsRank (t : Tree) (order : ListOrder) (entry : ℕ) (rank : Rank) : Type 0 where
  pub weight : rank.weight ≡ weight_of t order entry
  pub name : rank.name.items ≡ map upper (name_of t entry)
  pub own : rank.key ≡ entry

-- the order of ranks: by their weights, then by their names, then by their keys
abbrev pub rank_cmp : Rank → Rank → Ordering
rank_cmp a b =
    ordering_then (slice_cmp nat_cmp a.weight b.weight) (ordering_then (slice_cmp nat_cmp a.name.items b.name.items) (nat_cmp a.key b.key))

-- these keys, each with its rank
abbrev pub AreRanked : Tree → ListOrder → List ℕ → List (Rank × ℕ) → Type 0
AreRanked t order [] [] = ⊤
AreRanked t order (key ∷ keys) (e ∷ es) = IsRank t order key e.0 × (e.1 ≡ key) × AreRanked t order keys es
AreRanked t order keys es = ⊥
