-- What is left of the open directories, and what is left after one step.
use Rattle.adf_export.proofs.Common.{◌≡◌, ℕ, zero, suc, ◌+◌, ◌-◌, ◌*◌, ◌<◌, inl, inr, Bool, true, false, List, [], ◌∷◌, ◌++◌, length, take, Contains, Some, length-append, append_assoc, append-nil, refl, sym, ap, ap₂, ◌∙◌, subst, arith, flat_map, same_from_push, length_push, take_at, Contains-cases, Contains-here, Contains-later, Contains-nil, Node, Tree, Proper, LeadsToRoot, content_at, name_of, parent_of, by_parent, Level, Located, below, listed, ListOrder, ordered, IsOpen, IsLeft, IsSoFar, entry_at, first_keys, first_path, to_list, with_below, work, is_file}
use Rattle.adf_export.specs.steps.Levels.IsLeft.{none, more}
use Rattle.adf_export.proofs.Below.{listing_short, parent_of_entry}
use Rattle.adf_export.proofs.Files.{file_above, keys_if, listed_if, no_entries_in, path_if}
use Rattle.adf_export.proofs.Sorting.{ordered_none}

-- the last open directory, and what is left of those before it
record IsLast (t : Tree) (order : ListOrder) (lower : List Level) (level : Level) (path : List ℕ) (left : List Located) (depth : ℕ) : Type 0 where
  opened : IsOpen t level path
  later : List Located
  rest : IsLeft t order lower opened.before later (suc depth)
  split : left ≡ flat_map (with_below t order depth opened.before) (to_list level) ++ later

last_left : {t : Tree} {order : ListOrder} {levels : List Level} {path : List ℕ} {left : List Located} {depth : ℕ} (lower : List Level) (level : Level)
    → levels ≡ lower ++ level ∷ [] → IsLeft t order levels path left depth → IsLast t order lower level path left depth
last_left lower level e none = absurd (omega (arith, ap length e, length_push lower level))
last_left {t = t} {order = order} {path = path} {left = left} {depth = depth} lower level e (more {lower = low} {level = last} {later = later} f o rest split) =
    let same = same_from_push low lower last level (sym f ∙ e) in
    subst (λ (ls : List Level). IsLast t order ls level path left depth) same.0
    (subst (λ (l : Level). IsLast t order low l path left depth) same.1 (record { opened = o; later = later; rest = rest; split = split }))

-- a longer path starts the same
left_longer : {t : Tree} {order : ListOrder} {levels : List Level} {before : List ℕ} {left : List Located} {depth : ℕ} (tail : List ℕ)
    → IsLeft t order levels before left depth → IsLeft t order levels (before ++ tail) left depth
left_longer tail none = none
left_longer {before = before} tail (more e o rest split) =
    more e
    (record {
      before = o.before;
      tail = o.tail ++ tail;
      begins = ap (λ (p : List ℕ). p ++ tail) o.begins ∙ append_assoc o.before o.tail tail;
      place = o.place;
      dir = o.dir;
      inside = o.inside;
      rooted = o.rooted;
    })
    rest split

-- the depth left below a directory is the number of blocks without the open directories
levels_deep : {t : Tree} {order : ListOrder} {levels : List Level} {path : List ℕ} {left : List Located} {depth : ℕ} → IsLeft t order levels path left depth → depth + length levels ≡ t.blocks
levels_deep none = omega arith
levels_deep (more {lower = lower} {level = level} e o rest split) =
    let deep = levels_deep rest in omega (arith, deep, ap length e, length_push lower level)

-- nothing is below an object without entries
below_file : (t : Tree) (order : ListOrder) (depth : ℕ) (before : List ℕ) (key : ℕ) → ordered t order key ≡ [] → below t order depth before key ≡ []
unfolding below
below_file t order zero before key e = refl
below_file t order (suc depth) before key e = ap (flat_map (with_below t order depth before)) e

-- a directory is opened: everything below it is left, then what was left before
open_directory : {t : Tree} {order : ListOrder} (lower : List Level) (level : Level) (path : List ℕ) (later : List Located) (depth key : ℕ)
    → to_list level ≡ ordered t order key → level.path ≡ length path → ((k : ℕ) → Contains (ordered t order key) k → parent_of t k ≡ Some key) → LeadsToRoot t key
    → IsLeft t order lower path later (suc depth)
    → IsLeft t order (lower ++ level ∷ []) path (below t order (suc depth) path key ++ later) depth
unfolding below
open_directory {t = t} {order = order} lower level path later depth key keys place inside rooted rest =
    more refl
    (record {
      before = path;
      tail = [];
      begins = sym (append-nil path);
      place = place;
      dir = key;
      inside = λ k m. inside k (subst (λ (ks : List ℕ). Contains ks k) keys m);
      rooted = rooted;
    })
    rest
    (ap (λ (ks : List ℕ). flat_map (with_below t order depth path) ks ++ later) (sym keys))

-- the next entry of the current directory: what is left after it, and the new path
record IsNext (t : Tree) (order : ListOrder) (lower : List Level) (level after_level : Level) (path : List ℕ) (left : List Located) (depth key : ℕ) : Type 0 where
  before : List ℕ
  place : take level.path path ≡ before
  rooted : LeadsToRoot t key
  after : List Located
  split : left ≡ entry_at (before ++ name_of t key) key ∷ (below t order depth (before ++ name_of t key ++ 47 ∷ []) key ++ after)
  goes_on : (tail : List ℕ) → IsLeft t order (lower ++ after_level ∷ []) (before ++ tail) after depth

-- the listing after a step that listed this entry
pub record Lists (t : Tree) (order : ListOrder) (dir : ℕ) (levels new : List Level) (path : List ℕ) (first left : List Located) (own : List ℕ) (key : ℕ) : Type 0 where
  pub rest : List Located
  pub split : left ≡ entry_at own key ∷ rest
  pub so_far : IsSoFar t order dir new path (first ++ entry_at own key ∷ []) rest
  pub less : work new rest < work levels left

-- one key of a level is taken: the next one, and these are left
pub record Takes (level after_level : Level) (key : ℕ) (keys : List ℕ) : Type 0 where
  pub next : to_list level ≡ key ∷ keys
  pub after : to_list after_level ≡ keys
  pub place : after_level.path ≡ level.path

module _ (t : Tree) (order : ListOrder) (proper : Proper t) where
  -- the first entries of a list are open, and all of them are left
  abbrev Begins : (top : ℕ) (levels : List Level) (path : List ℕ) → Type 0
  Begins top levels path = IsSoFar t order top levels path [] (listed t order top) × (work levels (listed t order top) < 2 * t.blocks)

  module _ (top : ℕ) (node : Node) (level : Level) (levels : List Level) (path : List ℕ) (is : t.nodes top ≡ Some node) (e : levels ≡ level ∷ []) (at : path ≡ first_path t top)
      (keys : to_list level ≡ first_keys t order top) (place : level.path ≡ length path) where
    of_directory : is_file t top ≡ false → Begins top levels path
    of_directory directory =
        let short = listing_short t order proper top node is in
        let depth = t.blocks - 1 in
        let deep : t.blocks ≡ suc depth = omega (arith, short) in
        let opened = open_directory [] level path [] depth top (keys ∙ keys_if t top false directory order) place (parent_of_entry t order proper top) (proper.rooted top node is) (subst (IsLeft t order [] path []) deep none) in
        let all = listed_if t top false directory order in
        let whole : below t order (suc depth) path top ++ [] ≡ listed t order top =
        append-nil (below t order (suc depth) path top)
        ∙ ap (λ (n : ℕ). below t order n path top) (sym deep)
        ∙ ap (λ (p : List ℕ). below t order t.blocks p top) (at ∙ path_if t top false directory)
        ∙ sym all in (
          record {
            depth = depth;
            few = omega (arith, short, ap length all);
            split = refl;
            is_left = subst (λ (ls : List Level). IsLeft t order ls path (listed t order top) depth) (sym e)
                (subst (λ (ls : List Located). IsLeft t order (level ∷ []) path ls depth) whole opened);
            high = omega (arith, ap length e);
          },
          omega (arith, short, ap length e, ap length all),
        )

    of_file : is_file t top ≡ true → Begins top levels path
    of_file file =
        let depth = t.blocks - 1 in
        let deep : t.blocks ≡ suc depth = omega (arith, proper.size.0) in
        let above = file_above t proper top file (proper.rooted top node is) in
        let own = keys ∙ keys_if t top true file order in
        let all = listed_if t top true file order in
        let nothing = below_file t order depth (path ++ name_of t top ++ 47 ∷ []) top (ordered_none t order top (no_entries_in (content_at t top) file)) in
        let whole : listed t order top ≡ flat_map (with_below t order depth path) (to_list level) ++ [] =
        all
        ∙ ap (λ (p : List ℕ). entry_at (p ++ name_of t top) top ∷ []) (sym (at ∙ path_if t top true file))
        ∙ sym (ap (λ (ls : List Located). (entry_at (path ++ name_of t top) top ∷ (ls ++ [])) ++ []) nothing)
        ∙ sym (ap (λ (ks : List ℕ). flat_map (with_below t order depth path) ks ++ []) own) in (
          record {
            depth = depth;
            few = omega (arith, ap length all, proper.size.0);
            split = refl;
            is_left = more e
                (record {
                  before = path;
                  tail = [];
                  begins = sym (append-nil path);
                  place = place;
                  dir = above.0;
                  inside = λ k m. only above.0 k above.1 (subst (λ (ks : List ℕ). Contains ks k) own m);
                  rooted = above.2;
                })
                (subst (IsLeft t order [] path []) deep none) whole;
            high = omega (arith, ap length e);
          },
          omega (arith, ap length e, ap length all, proper.size.0),
        )
      where
        only : (dir k : ℕ) → parent_of t top ≡ Some dir → Contains (top ∷ []) k → parent_of t k ≡ Some dir
        only dir k up m = elim (Contains-cases top [] k m) [ inl same ↦ subst (λ (i : ℕ). parent_of t i ≡ Some dir) same up | inr later ↦ absurd (Contains-nil k later) ]

    pub starts : Begins top levels path
    starts = by (is_file t top) refl
      where
        by : (b : Bool) → is_file t top ≡ b → Begins top levels path
        by true file = of_file file
        by false directory = of_directory directory

  -- the current directory has no entries left
  pub ends : (top : ℕ) (levels lower : List Level) (level : Level) (path : List ℕ) (first left : List Located) → levels ≡ lower ++ level ∷ []
      → to_list level ≡ [] → IsSoFar t order top levels path first left
      → IsSoFar t order top lower path first left × (work lower left < work levels left)
  ends top levels lower level path first left e no_keys so =
      let last = last_left lower level e so.is_left in
      let o = last.opened in
      let same : left ≡ last.later = last.split ∙ ap (λ (ks : List ℕ). flat_map (with_below t order so.depth o.before) ks ++ last.later) no_keys in (
        record {
          depth = suc so.depth;
          few = so.few;
          split = so.split;
          is_left = subst (λ (p : List ℕ). IsLeft t order lower p left (suc so.depth)) (sym o.begins)
              (left_longer o.tail (subst (λ (ls : List Located). IsLeft t order lower o.before ls (suc so.depth)) (sym same) last.rest));
          high = omega (arith, so.high, ap length e, length_push lower level);
        },
        omega (arith, ap length e, length_push lower level),
      )

  next_entry : (levels lower : List Level) (level after_level : Level) (path : List ℕ) (left : List Located) (depth key : ℕ) (keys : List ℕ) → levels ≡ lower ++ level ∷ []
      → Takes level after_level key keys → IsLeft t order levels path left depth → IsNext t order lower level after_level path left depth key
  next_entry levels lower level after_level path left depth key keys e takes is_left =
      let last = last_left lower level e is_left in
      let o = last.opened in
      let after = flat_map (with_below t order depth o.before) keys ++ last.later in
      record {
        before = o.before;
        place = ap₂ (λ (n : ℕ) (p : List ℕ). take n p) o.place o.begins ∙ take_at o.before o.tail (length o.before) refl;
        rooted = by_parent (o.inside key (subst (λ (ks : List ℕ). Contains ks key) (sym takes.next) (Contains-here key keys))) o.rooted;
        after = after;
        split = last.split
            ∙ ap (λ (ks : List ℕ). flat_map (with_below t order depth o.before) ks ++ last.later) takes.next
            ∙ append_assoc (with_below t order depth o.before key) (flat_map (with_below t order depth o.before) keys) last.later;
        goes_on = λ tail. more refl
            (record {
              before = o.before;
              tail = tail;
              begins = refl;
              place = takes.place ∙ o.place;
              dir = o.dir;
              inside = λ k m. o.inside k (subst (λ (ks : List ℕ). Contains ks k) (sym takes.next) (Contains-later key keys k (subst (λ (ks : List ℕ). Contains ks k) takes.after m)));
              rooted = o.rooted;
            })
            last.rest
            (ap (λ (ks : List ℕ). flat_map (with_below t order depth o.before) ks ++ last.later) (sym takes.after));
      }

  -- the next entry is in the current directory
  pub next_inside : (top : ℕ) (levels lower : List Level) (level : Level) (path : List ℕ) (first left : List Located) (key : ℕ) (keys : List ℕ) → levels ≡ lower ++ level ∷ []
      → to_list level ≡ key ∷ keys → IsSoFar t order top levels path first left → (dir : ℕ) × (parent_of t key ≡ Some dir)
  next_inside top levels lower level path first left key keys e next so =
      let last = last_left lower level e so.is_left in
      let o = last.opened in
      (o.dir, o.inside key (subst (λ (ks : List ℕ). Contains ks key) (sym next) (Contains-here key keys)))

  -- the next entry is a file
  pub lists_file : (top : ℕ) (levels lower new : List Level) (level after_level : Level) (path own : List ℕ) (first left : List Located) (key : ℕ) (keys : List ℕ) → levels ≡ lower ++ level ∷ []
      → Takes level after_level key keys → ordered t order key ≡ [] → IsSoFar t order top levels path first left
      → own ≡ take level.path path ++ name_of t key → new ≡ lower ++ after_level ∷ [] → Lists t order top levels new own first left own key
  lists_file top levels lower new level after_level path own first left key keys e takes no_keys so own_is new_is =
      let x = next_entry levels lower level after_level path left so.depth key keys e takes so.is_left in
      let own_at : own ≡ x.before ++ name_of t key = own_is ∙ ap (λ (b : List ℕ). b ++ name_of t key) x.place in
      let nothing = below_file t order so.depth (x.before ++ name_of t key ++ 47 ∷ []) key no_keys in
      let split : left ≡ entry_at own key ∷ x.after =
      x.split
      ∙ ap (λ (ls : List Located). entry_at (x.before ++ name_of t key) key ∷ (ls ++ x.after)) nothing
      ∙ ap (λ (p : List ℕ). entry_at p key ∷ x.after) (sym own_at) in
      record {
        rest = x.after;
        split = split;
        so_far = record {
          depth = so.depth;
          few = so.few;
          split = so.split ∙ ap (λ (ls : List Located). first ++ ls) split ∙ sym (append_assoc first (entry_at own key ∷ []) x.after);
          is_left = subst (λ (ls : List Level). IsLeft t order ls own x.after so.depth) (sym new_is)
              (subst (λ (p : List ℕ). IsLeft t order (lower ++ after_level ∷ []) p x.after so.depth) (sym own_at) (x.goes_on (name_of t key)));
          high = omega (arith, so.high, ap length e, ap length new_is, length_push lower level, length_push lower after_level, length-append first (entry_at own key ∷ []));
        };
        less = omega (arith, ap length split, ap length e, ap length new_is, length_push lower level, length_push lower after_level);
      }

  -- the next entry is a directory, which is now open
  pub lists_directory : (top : ℕ) (levels lower new : List Level) (level after_level child : Level) (path own longer : List ℕ) (first left : List Located) (key : ℕ) (keys : List ℕ)
      → levels ≡ lower ++ level ∷ [] → Takes level after_level key keys → IsSoFar t order top levels path first left
      → own ≡ take level.path path ++ name_of t key → longer ≡ own ++ 47 ∷ []
      → to_list child ≡ ordered t order key → child.path ≡ length longer
      → new ≡ lower ++ after_level ∷ [] ++ child ∷ [] → Lists t order top levels new longer first left own key
  lists_directory top levels lower new level after_level child path own longer first left key keys e takes so own_is longer_is own_keys place new_is =
      let x = next_entry levels lower level after_level path left so.depth key keys e takes so.is_left in
      let own_at : own ≡ x.before ++ name_of t key = own_is ∙ ap (λ (b : List ℕ). b ++ name_of t key) x.place in
      let longer_at : longer ≡ x.before ++ name_of t key ++ 47 ∷ [] = longer_is ∙ ap (λ (p : List ℕ). p ++ 47 ∷ []) own_at in
      let open_levels = lower ++ after_level ∷ [] in
      let depth = so.depth - 1 in
      let deep : so.depth ≡ suc depth =
      omega (arith, levels_deep so.is_left, so.high, so.few, ap length so.split, length-append first left, ap length x.split) in
      let rest = below t order (suc depth) longer key ++ x.after in
      let split : left ≡ entry_at own key ∷ rest =
      x.split
      ∙ ap (λ (p : List ℕ). entry_at p key ∷ (below t order so.depth (x.before ++ name_of t key ++ 47 ∷ []) key ++ x.after)) (sym own_at)
      ∙ ap (λ (n : ℕ). entry_at own key ∷ (below t order n (x.before ++ name_of t key ++ 47 ∷ []) key ++ x.after)) deep
      ∙ ap (λ (p : List ℕ). entry_at own key ∷ (below t order (suc depth) p key ++ x.after)) (sym longer_at) in
      let lower_left : IsLeft t order open_levels longer x.after (suc depth) =
      subst (IsLeft t order open_levels longer x.after) deep
      (subst (λ (p : List ℕ). IsLeft t order open_levels p x.after so.depth) (sym (append_assoc x.before (name_of t key) (47 ∷ [])) ∙ sym longer_at) (x.goes_on (name_of t key ++ 47 ∷ []))) in
      record {
        rest = rest;
        split = split;
        so_far = record {
          depth = depth;
          few = so.few;
          split = so.split ∙ ap (λ (ls : List Located). first ++ ls) split ∙ sym (append_assoc first (entry_at own key ∷ []) rest);
          is_left = subst (λ (ls : List Level). IsLeft t order ls longer rest depth) (sym new_is)
              (open_directory open_levels child longer x.after depth key own_keys place (parent_of_entry t order proper key) x.rooted lower_left);
          high = omega (arith, so.high, ap length e, ap length new_is, length_push lower level, length_push lower after_level, length_push open_levels child, length-append first (entry_at own key ∷ []));
        };
        less = omega (arith, ap length split, ap length e, ap length new_is, length_push lower level, length_push lower after_level, length_push open_levels child);
      }
