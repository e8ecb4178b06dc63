-- A blank image represents the tree of an empty root.
use Rattle.ados_model.proofs.Common.{◌≡◌, ◌≢◌, ℕ, zero, suc, ◌+◌, ◌-◌, ◌<◌, ◌≤◌, ◌⊎◌, inl, inr, Bool, true, false, cond, ◌==◌, List, [], ◌∷◌, length, filter, slice_index, slice_get, Contains, AllPairs, Option, Some, None, IsSome, option_map, option_and_then, refl, sym, ap, ◌∙◌, subst, arith, eq-eqb, eqb-true, cases_order, cond_both, false≢true, get_or_default, Format, IsInside, root_key, page_count, long, block_sum, IsSize, HasFreeBit, Date3, slot, IsName, IsComment, Node, Tree, Proper, LeadsToRoot, name_of, entries, entries_in, parent_of, size_of, data_count, size_in, Directory, Layout, Fits, Duty, HasDuty, Named, Stands, HasNode, HasRoot, in_slot, BlankStands}
use Rattle.ados_model.specs.Blank.{blank_root, blank_tree, IsBlank}
use Rattle.ados_model.proofs.Counting.{no_data}

-- n numbers from a on
from : ℕ → ℕ → List ℕ
from a zero = []
from a (suc n) = a ∷ from (suc a) n

length-from : (a n : ℕ) → length (from a n) ≡ n
unfolding from
length-from a zero = refl
length-from a (suc n) = ap suc (length-from (suc a) n)

from-at : (a n i : ℕ) → i < n → slice_index (from a n) i ≡ a + i
unfolding from
from-at a zero i l = absurd (omega arith)
from-at a (suc n) zero l = omega arith
from-at a (suc n) (suc i) l = from-at (suc a) n i (omega arith) ∙ omega arith

from-get : (a n i b : ℕ) → slice_get (from a n) i ≡ Some b → (i < n) × (b ≡ a + i)
unfolding from
from-get a zero i b e = absurd (cc e)
from-get a (suc n) zero b e = (omega arith, let same : a ≡ b = cc e in omega (arith, same))
from-get a (suc n) (suc i) b e = let h = from-get (suc a) n i b e in (omega (arith, h.0), omega (arith, h.1))

get-from : (a n i : ℕ) → i < n → slice_get (from a n) i ≡ Some (a + i)
unfolding from
get-from a zero i l = absurd (omega arith)
get-from a (suc n) zero l = ap Some (omega arith)
get-from a (suc n) (suc i) l = get-from (suc a) n i (omega arith) ∙ ap Some (omega arith)

empty_comment : IsComment []
empty_comment = record { short = omega arith; bytes = λ k d l. absurd (omega (arith, l)) }

module _ (format : Format) (n : ℕ) (name : List ℕ) (moment : Date3) where
  abbrev t : Tree
  t = blank_tree format n name moment

  -- the only node is the root
  record OnlyRoot (key : ℕ) (node : Node) : Type 0 where
    key_is : key ≡ root_key n
    node_is : node ≡ blank_root name moment

  only_root : (key : ℕ) (node : Node) → t.nodes key ≡ Some node → OnlyRoot key node
  only_root key node e = go (key == root_key n) refl e
    where
      go : (b : Bool) → (key == root_key n) ≡ b → cond b (Some (blank_root name moment)) None ≡ Some node → OnlyRoot key node
      go true h e = record { key_is = eqb-true key (root_key n) h; node_is = cc e }
      go false h e = absurd (cc e)

  the_root : t.nodes (root_key n) ≡ Some (blank_root name moment)
  the_root = rw (eq-eqb (root_key n) (root_key n) refl) refl

  -- a key is the root, or is none
  at_most_root : (key : ℕ) (P : Option Node → Type 0) → P (Some (blank_root name moment)) → P None → P (t.nodes key)
  at_most_root key P some none = cond_both (key == root_key n) (Some (blank_root name moment)) None P (λ _. some) (λ _. none)

  no_entries : (dir : ℕ) → entries t dir ≡ []
  no_entries dir = at_most_root dir (λ o. entries_in (option_map (λ node. node.content) o) ≡ []) refl refl

  no_parent : (key : ℕ) → parent_of t key ≡ None
  no_parent key = at_most_root key (λ o. option_and_then (λ node. node.parent) o ≡ None) refl refl

  no_size : (key : ℕ) → size_of t key ≡ 0
  no_size key = at_most_root key (λ o. size_in (option_map (λ node. node.content) o) ≡ 0) refl refl

  no_pairs : (R : ℕ → ℕ → Type 0) (dir : ℕ) → AllPairs R (entries t dir)
  no_pairs R dir i j d l m = absurd (omega (arith, m, ap length (no_entries dir)))

  proper : IsSize n → IsName name → Proper t
  proper size valid = record {
    size = size;
    inside = λ key node e. let h = only_root key node e in omega (arith, size.0, h.key_is);
    root_node = (blank_root name moment, the_root, record { no_parent = refl; no_protection = refl; no_comment = refl; keys = []; directory = refl });
    listed = λ dir key. (λ h. absurd (omega (arith, h.1, ap length (no_entries dir))), λ e. absurd (cc (e, no_parent key)));
    once = no_pairs (λ j k. j ≢ k);
    unlike = λ dir j k h m same. absurd (omega (arith, h.1, ap length (no_entries dir)));
    rising = no_pairs (λ j k. slot (name_of t j) ≤ slot (name_of t k));
    rooted = λ key node e. LeadsToRoot.at_root (only_root key node e).key_is;
    name = λ key node e. subst (λ (m : Node). IsName m.name) (sym (only_root key node e).node_is) valid;
    comment = λ key node e. subst (λ (m : Node). IsComment m.comment) (sym (only_root key node e).node_is) empty_comment;
  }

  abbrev layout : Layout
  layout = record { pages = from (root_key n + 1) (page_count n); file_data = λ file. []; extensions = λ file. [] }

  -- the uses in a blank volume: its bitmap blocks and its root
  data OnlyDuty : ℕ → Duty → Type 0 where
    a_page : {i b : ℕ} → i < page_count n → b ≡ root_key n + 1 + i → OnlyDuty b (Duty.Page i)
    a_root : {b : ℕ} → b ≡ root_key n → OnlyDuty b Duty.Key

  only_duty : (b : ℕ) (duty : Duty) → HasDuty t layout b duty → OnlyDuty b duty
  only_duty b (Duty.Page i) h = let m = from-get (root_key n + 1) (page_count n) i b h in a_page m.0 m.1
  only_duty b Duty.Key h = go (b == root_key n) refl h
    where
      go : (c : Bool) → (b == root_key n) ≡ c → IsSome (cond c (Some (blank_root name moment)) None) → OnlyDuty b Duty.Key
      go true e h = a_root (eqb-true b (root_key n) e)
      go false e h = absurd (false≢true h)
  only_duty b (Duty.Data file i) h = absurd (cc h)
  only_duty b (Duty.Extension file i) h = absurd (cc h)
  only_duty b Duty.Lost h = absurd (false≢true h)

  one_duty : (b : ℕ) (duty other : Duty) → OnlyDuty b duty → OnlyDuty b other → duty ≡ other
  one_duty b duty other (a_page l e) (a_page m f) = ap Duty.Page (omega (arith, e, f))
  one_duty b duty other (a_page l e) (a_root f) = absurd (omega (arith, e, f))
  one_duty b duty other (a_root e) (a_page m f) = absurd (omega (arith, e, f))
  one_duty b duty other (a_root e) (a_root f) = refl

  inside : IsSize n → (b : ℕ) (duty : Duty) → OnlyDuty b duty → IsInside n b
  inside size b duty (a_page l e) = omega (arith, size.0, l, e)
  inside size b duty (a_root e) = omega (arith, size.0, e)

  fits : IsSize n → Fits t layout
  fits size = record {
    pages = length-from (root_key n + 1) (page_count n);
    file_data = λ file. sym (ap (data_count format) (no_size file) ∙ no_data format);
    extensions = λ file. refl;
    inside = λ b duty h. inside size b duty (only_duty b duty h);
    lost = λ block bytes e. absurd (cc e);
    one_duty = λ b duty other h m. one_duty b duty other (only_duty b duty h) (only_duty b other m);
  }

  module _ (image : List ℕ) (valid : IsName name) (h : IsBlank format n name moment image) where
    root_fields : HasRoot image t layout
    root_fields = record {
      table_size = h.table_size;
      valid = h.valid;
      pages = λ i l.
          let m : i < page_count n = omega (arith, l, length-from (root_key n + 1) (page_count n)) in
          h.pages i m ∙ sym (from-at (root_key n + 1) (page_count n) i m);
      disk_date = h.disk_date;
      creation_date = h.creation_date;
      parent = h.parent;
      secondary = h.secondary;
    }

    root_node_fields : HasNode image (root_key n) (blank_root name moment)
    root_node_fields = record { primary = h.primary; sum = h.root_sum; name = h.root_name; date = h.root_date }

    not_used_and_free : (b : ℕ) (duty : Duty) → IsInside n b → HasFreeBit image b → OnlyDuty b duty → ⊥
    not_used_and_free b duty i m (a_page l e) = h.used b i (omega (arith, e)) (omega (arith, e, l)) m
    not_used_and_free b duty i m (a_root e) = h.used b i (omega (arith, e)) (omega (arith, e)) m

    is_named : (b : ℕ) → IsInside n b → (HasFreeBit image b → ⊥) → (b ≡ root_key n) ⊎ ((b < root_key n) ⊎ (root_key n < b)) → (b ≤ root_key n + page_count n) ⊎ (root_key n + page_count n < b) → Named t layout b
    is_named b i m (inl e) k = (Duty.Key, rw (eq-eqb b (root_key n) e) refl)
    is_named b i m (inr (inl l)) k = absurd (m (h.free_below b i l))
    is_named b i m (inr (inr g)) (inr l) = absurd (m (h.free_above b i l))
    is_named b i m (inr (inr g)) (inl l) =
        (Duty.Page (b - (root_key n + 1)), get-from (root_key n + 1) (page_count n) (b - (root_key n + 1)) (omega (arith, g, l)) ∙ ap Some (omega (arith, g)))

    le_or_lt : (a b : ℕ) → (a ≤ b) ⊎ (b < a)
    le_or_lt a b = grind arith

    page_sum : (page : ℕ) → Contains layout.pages page → block_sum image page ≡ 0
    page_sum page c =
        let l : c.0 < page_count n = omega (arith, c.1, length-from (root_key n + 1) (page_count n)) in
        let is : page ≡ root_key n + 1 + c.0 = sym (get_or_default layout.pages c.0 0 page c.1 ∙ c.2) ∙ from-at (root_key n + 1) (page_count n) c.0 l in
        ap (block_sum image) is ∙ h.page_sum c.0 l

    stands : Stands image t
    stands = record {
      proper = proper h.size valid;
      layout = layout;
      fits = fits h.size;
      whole = h.whole;
      boot = h.boot;
      root_fields = root_fields;
      nodes = λ key node e.
          let only = only_root key node e in
          subst (λ (k : ℕ). HasNode image k node) (sym only.key_is) (subst (λ (m : Node). HasNode image (root_key n) m) (sym only.node_is) root_node_fields);
      entries = λ key dir node e p.
          let none : node.parent ≡ None = ap (λ (m : Node). m.parent) (only_root key node e).node_is in
          absurd (cc (none, p));
      pages = page_sum;
      lost = λ b bytes e. absurd (cc e);
      chains = λ dir node keys s e c l.
          let only = only_root dir node e in
          let none : in_slot t dir s ≡ [] = ap (filter (λ key. slot (name_of t key) == s)) (no_entries dir) in
          rw none (ap (λ (b : ℕ). long image b (6 + s)) only.key_is ∙ h.table s l);
      files = λ file node bytes e c.
          let directory : node.content ≡ Directory [] = ap (λ (m : Node). m.content) (only_root file node e).node_is in
          absurd (cc (directory, c));
      marked_free = λ b i m named. not_used_and_free b named.0 i m (only_duty b named.0 named.1);
      marked_used = λ b i m. is_named b i m (cases_order b (root_key n)) (le_or_lt b (root_key n + page_count n));
    }

pub blank_stands : BlankStands
blank_stands format n name moment image valid h = stands format n name moment image valid h
