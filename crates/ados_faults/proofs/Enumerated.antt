-- Lists of blocks with a cell for each block: those of a type, and the entries of a directory.
use Rattle.ados_faults.proofs.Common.{◌≡◌, ℕ, ◌+◌, ◌<◌, ◌≤◌, inl, inr, Bool, true, false, List, [], ◌∷◌, ◌++◌, length, get_or, slice_index, replicate, Some, set, refl, sym, ap, ◌∙◌, subst, arith, length-set, get_or-set_same, get_or-set_other, All, Contains, cases_eq, cases_lt, false≢true, slice_get_within, get_or_append_left, get_or_default, length-replicate, All-pop, All-push, Contains-append_left, Contains-push, Contains-push_cases, block_count, long, FIRST_SLOT, NEXT_IN_CHAIN, TABLE_LONGS, Role, Root, Entry, InImage, IsPlace, LeadsInside, Reached, root_of, root_page, root_slot, directory_slot, next_entry, start, named, AreEntriesOf, AreMet, AreNextMet, AreSlotsMet, AreTypesMet, HasTypeAs, HoldsEntries, IsEntryIn, IsGrown, IsOfType, Step, AreCovered, IsListed, step_of, only_root}
use Rattle.ados_faults.proofs.Covering.{entry_listed}
use Rattle.ados_faults.proofs.Firsts.{each_same}

-- ---- a list of blocks

pub met_none : (image : List ℕ) (has : List Bool) → has ≡ replicate (block_count image) false → AreMet image has []
met_none image has none = record {
  size = ap length none ∙ length-replicate {A = Bool} (block_count image) false;
  inside = λ k d l. absurd (omega (arith, l));
  listed = λ block e. absurd (false≢true (sym (each_same (block_count image) block false) ∙ ap (λ (bs : List Bool). get_or bs block false) (sym none) ∙ e));
  held = λ block c. absurd (omega (arith, c.1));
}

pub met_more : (image : List ℕ) (has : List Bool) (blocks : List ℕ) (next : ℕ) → AreMet image has blocks → InImage image next → AreMet image (set has next true) (blocks ++ next ∷ [])
met_more image has blocks next m inside = record {
  size = length-set has next true ∙ m.size;
  inside = All-push (InImage image) blocks next m.inside inside;
  listed = λ block e. elim (cases_eq block next) [
    | inl here ↦ subst (Contains (blocks ++ next ∷ [])) (sym here) (Contains-push blocks next)
    | inr apart ↦ Contains-append_left blocks (next ∷ []) block (m.listed block (sym (get_or-set_other has next block true false apart) ∙ e))
  ];
  held = λ block c. elim (cases_eq block next) [
    | inl is ↦ subst (λ (b : ℕ). get_or (set has next true) b false ≡ true) (sym is) here
    | inr apart ↦ elim (Contains-push_cases blocks next block c) [
      | inl old ↦ get_or-set_other has next block true false apart ∙ m.held block old
      | inr is ↦ absurd (apart (sym is))
    ]
  ];
}
  where
    here : get_or (set has next true) next false ≡ true
    here = get_or-set_same has next true false (omega (arith, inside.1, m.size))

pub cell_read : (has : List Bool) (block : ℕ) (x : Bool) → block < length has → x ≡ get_or has block x → get_or has block false ≡ x
cell_read has block x l e = get_or_default has block false x l ∙ sym e

-- each block with a set cell is in the list
pub record AreLeft (image : List ℕ) (has : List Bool) (blocks : List ℕ) : Type 0 where
  pub size : length has ≡ block_count image
  pub inside : All (InImage image) blocks
  pub listed : (block : ℕ) → get_or has block false ≡ true → Contains blocks block

pub left_all : {image : List ℕ} {has : List Bool} {blocks : List ℕ} → AreMet image has blocks → AreLeft image has blocks
left_all m = record { size = m.size; inside = m.inside; listed = m.listed }

-- without the last one
pub left_less : {image : List ℕ} {has : List Bool} (blocks rest : List ℕ) (block : ℕ) → blocks ≡ rest ++ block ∷ [] → AreLeft image has blocks → AreLeft image (set has block false) rest
left_less {image = image} {has = has} blocks rest block is l = record {
  size = length-set has block false ∙ l.size;
  inside = parts.0;
  listed = λ other e. elim (cases_eq other block) [
    | inl here ↦ absurd (false≢true (sym (get_or-set_same has block false false within) ∙ ap (λ (i : ℕ). get_or (set has block false) i false) (sym here) ∙ e))
    | inr apart ↦ elim (Contains-push_cases rest block other (subst (λ (xs : List ℕ). Contains xs other) is (l.listed other (sym (get_or-set_other has block other false false apart) ∙ e)))) [
      | inl before ↦ before
      | inr last ↦ absurd (apart (sym last))
    ]
  ];
}
  where
    parts : All (InImage image) rest × InImage image block
    parts = All-pop (InImage image) blocks rest (Some block) is l.inside

    within : block < length has
    within = omega (arith, parts.1.1, l.size)

pub left_none : {image : List ℕ} {has : List Bool} {blocks later : List ℕ} → AreLeft image has blocks → blocks ≡ [] → later ≡ [] → AreMet image has later
left_none {image = image} {has = has} l none now = subst (AreMet image has) (sym now) (record {
  size = l.size;
  inside = λ k d m. absurd (omega (arith, m));
  listed = λ block e. subst (λ (xs : List ℕ). Contains xs block) none (l.listed block e);
  held = λ block c. absurd (omega (arith, c.1));
})

-- ---- a list that may have grown

module _ (image : List ℕ) (block : ℕ) (blocks later : List ℕ) (grown : IsGrown image block blocks later) where
  pub grown_all : (P : ℕ → Type 0) → All P blocks → (InImage image block → P block) → All P later
  grown_all P all this = elim grown [
    | inl same ↦ subst (All P) (sym same) all
    | inr more ↦ subst (All P) (sym more.1) (All-push P blocks block all (this more.0))
  ]

  pub grown_contains : (x : ℕ) → Contains blocks x → Contains later x
  grown_contains x c = elim grown [
    | inl same ↦ subst (λ (xs : List ℕ). Contains xs x) (sym same) c
    | inr more ↦ subst (λ (xs : List ℕ). Contains xs x) (sym more.1) (Contains-append_left blocks (block ∷ []) x c)
  ]

  pub grown_index : (k : ℕ) → k < length blocks → slice_index later k ≡ slice_index blocks k
  grown_index k l = elim grown [
    | inl same ↦ ap (λ (xs : List ℕ). slice_index xs k) same
    | inr more ↦ ap (λ (xs : List ℕ). slice_index xs k) more.1 ∙ get_or_append_left blocks (block ∷ []) 0 k l
  ]

-- into an empty list
pub only_one : (image : List ℕ) (block : ℕ) (blocks later : List ℕ) → blocks ≡ [] → IsGrown image block blocks later → Contains later block → later ≡ block ∷ []
only_one image block blocks later none (inl same) there = absurd (omega (arith, there.1, ap length same, ap length none))
only_one image block blocks later none (inr more) there = more.1 ∙ ap (λ (xs : List ℕ). xs ++ block ∷ []) none

-- ---- the blocks of a type

-- each block of a type is in the list
pub all_of_type : (image : List ℕ) (kind : ℕ) (steps : List Step) (blocks : List ℕ) (n : ℕ) → AreTypesMet image kind steps blocks n → length steps ≤ n → AreCovered image steps → (block : ℕ) → IsOfType image kind block → Contains blocks block
all_of_type image kind steps blocks n m all covered block typed = elim typed [
  | inl root ↦ subst (Contains blocks) (sym root.0) (there (root_of image) Root covered.root root.1)
  | inr entry ↦ (let at = entry_listed steps block entry.0 entry.1 (covered.covered block (Entry entry.0 entry.1) entry.2) in there block (Entry at.0 at.1) at.2 entry.3)
]
  where
    there : (b : ℕ) (r : Role) → IsListed steps (step_of b r) → HasTypeAs image kind b r → Contains blocks b
    there b r at t = m.met at.0 (step_of b r) (omega (arith, slice_get_within steps at.0 (step_of b r) at.1, all)) at.1 t

-- ---- the entries of a directory

pub slot_entry : (image : List ℕ) (dir s : ℕ) → HoldsEntries image dir → s < TABLE_LONGS → LeadsInside image dir (FIRST_SLOT + s) → IsEntryIn image dir (long image dir (FIRST_SLOT + s))
slot_entry image dir s (inl root) l inside =
    (s, named (subst (λ (b : ℕ). Reached image b Root) (sym root) start) (root_slot l (λ z. omega (arith, z, inside.0))) inside)
slot_entry image dir s (inr d) l inside = (s, named d.reached (directory_slot d.secondary l (λ z. omega (arith, z, inside.0))) inside)

pub next_is_entry : (image : List ℕ) (dir entry : ℕ) → IsEntryIn image dir entry → LeadsInside image entry NEXT_IN_CHAIN → IsEntryIn image dir (long image entry NEXT_IN_CHAIN)
next_is_entry image dir entry h inside = (h.0, named h.1 (next_entry (λ z. omega (arith, z, inside.0))) inside)

pub slots_more : (image : List ℕ) (dir : ℕ) (blocks later : List ℕ) (n : ℕ) → AreSlotsMet image dir blocks n → IsGrown image (long image dir (FIRST_SLOT + n)) blocks later
    → (LeadsInside image dir (FIRST_SLOT + n) → Contains later (long image dir (FIRST_SLOT + n))) → AreSlotsMet image dir later (n + 1)
slots_more image dir blocks later n m grown this = record { met = go }
  where
    go : (s : ℕ) → s < n + 1 → LeadsInside image dir (FIRST_SLOT + s) → Contains later (long image dir (FIRST_SLOT + s))
    go s l inside = elim (cases_lt s n) [
      | inl less ↦ grown_contains image (long image dir (FIRST_SLOT + n)) blocks later grown (long image dir (FIRST_SLOT + s)) (m.met s less inside)
      | inr past ↦
          let here : n ≡ s = omega (arith, l, past) in
          subst (λ (i : ℕ). LeadsInside image dir (FIRST_SLOT + i) → Contains later (long image dir (FIRST_SLOT + i))) here this inside
    ]

pub slots_on : (image : List ℕ) (dir block : ℕ) (blocks later : List ℕ) (n : ℕ) → AreSlotsMet image dir blocks n → IsGrown image block blocks later → AreSlotsMet image dir later n
slots_on image dir block blocks later n m grown = record { met = λ s l inside. grown_contains image block blocks later grown (long image dir (FIRST_SLOT + s)) (m.met s l inside) }

pub next_more : (image : List ℕ) (blocks later : List ℕ) (n entry : ℕ) → entry ≡ slice_index blocks n → n < length blocks → AreNextMet image blocks n → IsGrown image (long image entry NEXT_IN_CHAIN) blocks later
    → (LeadsInside image entry NEXT_IN_CHAIN → Contains later (long image entry NEXT_IN_CHAIN)) → AreNextMet image later (n + 1)
next_more image blocks later n entry is within m grown this = record { met = go }
  where
    same : (k : ℕ) → k < length blocks → slice_index later k ≡ slice_index blocks k
    same k l = grown_index image (long image entry NEXT_IN_CHAIN) blocks later grown k l

    go : (k : ℕ) → k < n + 1 → k < length later → LeadsInside image (slice_index later k) NEXT_IN_CHAIN → Contains later (long image (slice_index later k) NEXT_IN_CHAIN)
    go k l m' inside = elim (cases_lt k n) [
      | inl less ↦
          let e = same k (omega (arith, less, within)) in
          subst (λ (b : ℕ). Contains later (long image b NEXT_IN_CHAIN)) (sym e)
          (grown_contains image (long image entry NEXT_IN_CHAIN) blocks later grown (long image (slice_index blocks k) NEXT_IN_CHAIN)
          (m.met k less (omega (arith, less, within)) (subst (λ (b : ℕ). LeadsInside image b NEXT_IN_CHAIN) e inside)))
      | inr past ↦
          let here : k ≡ n = omega (arith, l, past) in
          let e : slice_index later k ≡ entry = same k (omega (arith, here, within)) ∙ ap (slice_index blocks) here ∙ sym is in
          subst (λ (b : ℕ). Contains later (long image b NEXT_IN_CHAIN)) (sym e) (this (subst (λ (b : ℕ). LeadsInside image b NEXT_IN_CHAIN) e inside))
    ]

same_dir : (x y s t : ℕ) → Entry x s ≡ Entry y t → x ≡ y
same_dir x y s t e = cc e

-- a list with the first entry of each chain, and with each next one, has all entries of a directory
pub each_entry : (image : List ℕ) (dir : ℕ) (blocks : List ℕ) (n : ℕ) → AreSlotsMet image dir blocks 72 → AreNextMet image blocks n → length blocks ≤ n → (block s : ℕ) → Reached image block (Entry dir s) → Contains blocks block
each_entry image dir blocks n slots next all block s h = complete h s refl
  where
    here : (h t : ℕ) → h ≡ dir → t < 72 → LeadsInside image h (FIRST_SLOT + t) → Contains blocks (long image h (FIRST_SLOT + t))
    here h t e l inside =
        subst (λ (b : ℕ). Contains blocks (long image b (FIRST_SLOT + t))) (sym e) (slots.met t l (subst (λ (b : ℕ). LeadsInside image b (FIRST_SLOT + t)) e inside))

    next_there : (h : ℕ) → Contains blocks h → LeadsInside image h NEXT_IN_CHAIN → Contains blocks (long image h NEXT_IN_CHAIN)
    next_there h c inside =
        let e : slice_index blocks c.0 ≡ h = get_or_default blocks c.0 0 h c.1 ∙ c.2 in
        subst (λ (b : ℕ). Contains blocks (long image b NEXT_IN_CHAIN)) e (next.met c.0 (omega (arith, c.1, all)) c.1 (subst (λ (b : ℕ). LeadsInside image b NEXT_IN_CHAIN) (sym e) inside))

    placed : {h i : ℕ} {role next : Role} → IsPlace image h role i next → LeadsInside image h i → ((t : ℕ) → role ≡ Entry dir t → Contains blocks h) → (s : ℕ) → next ≡ Entry dir s → Contains blocks (long image h i)
    placed {h = h} (root_slot {s = t} l n) inside before s e = here h t (same_dir h dir t s e) l inside
    placed {h = h} (directory_slot {s = t} d l n) inside before s e = here h t (same_dir h dir t s e) l inside
    placed {h = h} (next_entry n) inside before s e = next_there h (before s e) inside
    placed _ inside before s e = absurd (cc e)

    complete : {block : ℕ} {role : Role} → Reached image block role → (s : ℕ) → role ≡ Entry dir s → Contains blocks block
    complete start s e = absurd (cc e)
    complete (named h place inside) s e = placed place inside (λ t f. complete h t f) s e

pub all_entries : (image : List ℕ) (dir : ℕ) (blocks : List ℕ) (n : ℕ) → All (IsEntryIn image dir) blocks → AreSlotsMet image dir blocks 72 → AreNextMet image blocks n → length blocks ≤ n → AreEntriesOf image dir blocks
all_entries image dir blocks n entries slots next all = record { entries = entries; each = each_entry image dir blocks n slots next all }

-- what holds an entry is a directory
pub dir_of : (image : List ℕ) (dir : ℕ) {block : ℕ} {role : Role} → Reached image block role → (s : ℕ) → role ≡ Entry dir s → HoldsEntries image dir
dir_of image dir start s e = absurd (cc e)
dir_of image dir (named h place inside) s e = held h place (λ t f. dir_of image dir h t f) s e
  where
    held : {h i : ℕ} {role next : Role} → Reached image h role → IsPlace image h role i next → ((t : ℕ) → role ≡ Entry dir t → HoldsEntries image dir) → (s : ℕ) → next ≡ Entry dir s → HoldsEntries image dir
    held r (root_page l) before s e = absurd (cc e)
    held {h = h} r (root_slot {s = t} l n) before s e = inl (sym (same_dir h dir t s e) ∙ only_root r refl)
    held {h = h} r (directory_slot {dir = d} {r = q} {s = t} y l n) before s e =
        subst (HoldsEntries image) (same_dir h dir t s e) (inr (record { dir = d; slot_of_chain = q; reached = r; secondary = y }))
    held r (next_entry n) before s e = before s e
    held r _ before s e = absurd (cc e)
