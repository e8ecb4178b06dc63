-- The entries of a directory, in an order.
use Rattle.std.specs.Prelude.{ℕ, ◌-◌, negsuc, Bool, if◌then◌else◌, List, [], ◌∷◌, map, fold}
use Rattle.std.specs.Option.{option_map_or}
use Rattle.std.specs.Ordering.{int_eq, is_lt, nat_cmp, ordering_then}
use Rattle.std.specs.Cmp.Lexicographic.{slice_cmp}
use Rattle.std.specs.declared.cmp.Ordering.{Ordering}
use Rattle.ados_name.specs.Name.{upper}
use Rattle.ados_name.specs.declared.stamp.Date3.{Date3}
use Rattle.ados_model.specs.declared.answer.FileInfo.{FileInfo}
use Rattle.ados_model.specs.Objects.{file_info}
use Rattle.ados_model.specs.Tree.{Tree, entries, name_of}
use Rattle.adf_cli.specs.declared.query.ListOrder.{ListOrder}
use Rattle.adf_cli.specs.declared.query.ListOrder.TheVariants.{Disk, Size, Date}

-- files before directories, and the largest file first
abbrev pub size_weight : FileInfo → List ℕ
size_weight info = if int_eq info.entry_type (negsuc 2) then 0 ∷ (4_294_967_295 - info.size) ∷ 0 ∷ [] else 1 ∷ 0 ∷ 0 ∷ []

-- the latest date first
abbrev pub date_weight : Date3 → List ℕ
date_weight date = (4_294_967_295 - date.days) ∷ (4_294_967_295 - date.minutes) ∷ (4_294_967_295 - date.ticks) ∷ []

-- what an order goes by before the name; the smaller come first
abbrev pub weight : ListOrder → FileInfo → List ℕ
weight Size info = size_weight info
weight Date info = date_weight info.date
weight order info = 0 ∷ 0 ∷ 0 ∷ []

abbrev pub weight_of : Tree → ListOrder → ℕ → List ℕ
weight_of t order key = option_map_or (λ node. weight order (file_info t.format key node)) (t.nodes key) []

-- the order of two entries: by weight, and with the same weight by the bytes of their names in upper case. No two entries
-- of a directory get past their names to their header blocks
abbrev pub compared : Tree → ListOrder → ℕ → ℕ → Ordering
compared t order j k =
    ordering_then (slice_cmp nat_cmp (weight_of t order j) (weight_of t order k))
    (ordering_then (slice_cmp nat_cmp (map upper (name_of t j)) (map upper (name_of t k))) (nat_cmp j k))

abbrev pub comes_before : Tree → ListOrder → ℕ → ℕ → Bool
comes_before t order j k = is_lt (compared t order j k)

-- a key among others: before the first that it comes before
unfoldable pub placed : (ℕ → ℕ → Bool) → ℕ → List ℕ → List ℕ
placed before key [] = key ∷ []
placed before key (k ∷ ks) = if before key k then key ∷ k ∷ ks else k ∷ placed before key ks

-- keys in order: each is placed among those before it
unfoldable pub sorted : (ℕ → ℕ → Bool) → List ℕ → List ℕ
sorted before keys = fold (λ done key. placed before key done) [] keys

-- the keys in a directory, as in the directory or sorted
unfoldable pub ordered : Tree → ListOrder → ℕ → List ℕ
ordered t Disk dir = entries t dir
ordered t order dir = sorted (comes_before t order) (entries t dir)
