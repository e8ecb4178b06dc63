-- The texts of entries, one after the other.
use Rattle.adf_export.proofs.Common.{◌≡◌, ℕ, List, [], ◌∷◌, ◌++◌, Some, append_assoc, append-nil, refl, sym, ap, ◌∙◌, subst, Node, Tree, file_info, Located, ListForm, AreEntries, IsEntry, entry_at}

pub entries_append : (t : Tree) (s : ListForm) (xs ys : List Located) (a b : List ℕ) → AreEntries t s xs a → AreEntries t s ys b → AreEntries t s (xs ++ ys) (a ++ b)
entries_append t s [] ys a b none more = subst (λ (l : List ℕ). AreEntries t s ys (l ++ b)) (sym none) more
entries_append t s (x ∷ xs) ys a b (node, is, first, later, line, rest, split) more =
    (node, is, first, later ++ b, line, entries_append t s xs ys later b rest more, ap (λ (l : List ℕ). l ++ b) split ∙ append_assoc first later b)

-- one entry alone
pub entry_alone : (t : Tree) (s : ListForm) (path : List ℕ) (key : ℕ) (node : Node) (line : List ℕ) → t.nodes key ≡ Some node → IsEntry s (file_info t.format key node) path line
    → AreEntries t s (entry_at path key ∷ []) line
entry_alone t s path key node line is h = (node, is, line, [], h, refl, sym (append-nil line))
