-- Marks and steps of a walk; that each block a marked one names is marked in the end, and that the steps cover each
-- role in which a block is reached.
use Rattle.ados_faults.proofs.Common.{◌≡◌, ◌≢◌, ℕ, ◌+◌, ◌-◌, ◌<◌, ◌≤◌, ◌⊎◌, inl, inr, Bool, List, [], ◌∷◌, ◌++◌, length, Some, None, set, refl, sym, ap, ◌∙◌, subst, arith, All, slice_get, cases_eq, cases_lt, length_push, get_or_push, get_or_append_left, All-push, same_Some, slice_get-get_or, slice_get_within, IsImage, block_count, long, page_count, FIRST_POINTER, NEXT_IN_CHAIN, NEXT_EXTENSION, Role, Root, Page, Entry, Data, Extension, BadPointer, BlockUsedTwice, InImage, IsPlace, IsUsedTwice, LeadsInside, PlaceNames, Reached, root_of, root_page, root_slot, directory_slot, next_entry, header_pointer, first_extension, extension_pointer, further_extension, two_holders, two_longs, root_named, start, named, Mark, mark_at, IsMarkedMore, marked_more, place_not_root, Part, Directory, Slot, DataFile, ExtensionFile, Taken, Step, AreClosed, IsMarked, IsNamedAs, Marks, root_mark, IsNoted, cell_of, AreBacked, AreCovered, AreCoveredBy, IsCovered, IsListed, number_of, root_step, step_of, AreKept, AreOutsideNoted, AreTwiceNoted, AreVisited, IsMarkedBy, IsMetBy, IsPassed, IsStep, IsVisited, IsWalked}
use Rattle.ados_check.proofs.PlaceLemmas.{place_within}
use Rattle.ados_faults.specs.declared.walk.Walk.{Walk}
use Rattle.ados_faults.proofs.Covering.{backed_on, carried, covered_on, data_covered, directory_role, entry_covered, entry_listed, extension_covered, extension_listed, extension_role, none_of_root, slot_role}
use Rattle.ados_faults.proofs.Firsts.{one_more}
use Rattle.ados_faults.proofs.Insides.{root_inside}

-- ---- one more step in a list

pub pushed_stays : (steps : List Step) (step : Step) (k : ℕ) → k < length steps → slice_get (steps ++ step ∷ []) k ≡ slice_get steps k
pushed_stays steps step k l =
    slice_get-get_or (steps ++ step ∷ []) k step (omega (arith, l, length_push steps step))
    ∙ ap (λ (s : Step). Some s) (get_or_append_left steps (step ∷ []) step k l) ∙ sym (slice_get-get_or steps k step l)

pub pushed_there : (steps : List Step) (step : Step) → IsListed (steps ++ step ∷ []) step
pushed_there steps step = (
  length steps,
  slice_get-get_or (steps ++ step ∷ []) (length steps) step (omega (arith, length_push steps step)) ∙ ap (λ (s : Step). Some s) (get_or_push steps step step (length steps) refl),
)

pub listed_on : (steps : List Step) (step other : Step) → IsListed steps other → IsListed (steps ++ step ∷ []) other
listed_on steps step other at = (at.0, pushed_stays steps step at.0 (slice_get_within steps at.0 other at.1) ∙ at.1)

pub all_steps : (image : List ℕ) (steps : List Step) (step : Step) → All (IsStep image) steps → IsStep image step → All (IsStep image) (steps ++ step ∷ [])
all_steps image steps step old new = All-push (IsStep image) steps step old new

-- ---- one more step, one more mark

module _ (image : List ℕ) (cells : List Bool) (marks : Marks) (roles : List Taken) (steps : List Step) (w : IsWalked image cells marks roles steps) (block : ℕ) where
  pub took : (later : List Taken) (role : Role) → InImage image block → Reached image block role → length later ≡ length roles → AreBacked later (steps ++ step_of block role ∷ [])
      → IsWalked image cells marks later (steps ++ step_of block role ∷ [])
  took later role inside reached size back = record {
    whole = w.whole;
    noted = w.noted;
    size = w.size;
    root = w.root;
    met = w.met;
    marked = w.marked;
    reached = all_steps image steps (step_of block role) w.reached (record { inside = inside; reached = reached });
    first = listed_on steps (step_of block role) (root_step (root_of image)) w.first;
    role_size = size ∙ w.role_size;
    backed = back;
  }

  pub backed_push : (step : Step) → AreBacked roles (steps ++ step ∷ [])
  backed_push step = backed_on steps (steps ++ step ∷ []) (λ other. listed_on steps step other) roles w.backed

  module _ (mark : Mark) (inside : InImage image block) (none : mark_at marks block ≡ None) where
    more : IsMarkedMore marks (set marks block (Some mark)) block mark
    more = marked_more marks block mark (omega (arith, inside.1, w.size)) none

    pub mark_stays : (other : ℕ) (old : Mark) → mark_at marks other ≡ Some old → mark_at (set marks block (Some mark)) other ≡ Some old
    mark_stays other old e = elim (cases_eq other block) [
      | inl here ↦ let h : None ≡ Some old = sym none ∙ ap (mark_at marks) (sym here) ∙ e in absurd (cc h)
      | inr apart ↦ more.others other apart ∙ e
    ]

    -- of a block without a mark
    pub marked_first : Reached image block mark.role → IsNamedAs image block mark → IsWalked image cells (set marks block (Some mark)) roles steps
    marked_first reached is_named = record {
      whole = w.whole;
      noted = w.noted;
      size = more.same_size ∙ w.size;
      root = mark_stays (root_of image) root_mark w.root;
      met = λ other m e. elim (cases_eq other block) [
        | inl here ↦ inr (subst (λ (b : ℕ). IsNamedAs image b m) (sym here) (subst (IsNamedAs image block) (is_new other m here e) is_named))
        | inr apart ↦ w.met other m (sym (more.others other apart) ∙ e)
      ];
      marked = λ other m e. elim (cases_eq other block) [
        | inl here ↦ subst (λ (b : ℕ). Reached image b m.role) (sym here) (subst (λ (x : Mark). Reached image block x.role) (is_new other m here e) reached)
        | inr apart ↦ w.marked other m (sym (more.others other apart) ∙ e)
      ];
      reached = w.reached;
      first = w.first;
      role_size = w.role_size;
      backed = w.backed;
    }
      where
        is_new : (other : ℕ) (m : Mark) → other ≡ block → mark_at (set marks block (Some mark)) other ≡ Some m → mark ≡ m
        is_new other m here e = let h : Some mark ≡ Some m = sym more.is ∙ ap (mark_at (set marks block (Some mark))) (sym here) ∙ e in cc h

    pub marked_here : mark_at (set marks block (Some mark)) block ≡ Some mark
    marked_here = more.is

-- ---- a walk that goes on

pub kept_same : (walk : Walk) → AreKept walk walk
kept_same walk = record { notes_stay = λ cell e. e; marks_stay = λ block mark e. e; longer = omega arith; steps_stay = λ k l. refl }

pub kept_on : {walk later last : Walk} → AreKept walk later → AreKept later last → AreKept walk last
kept_on a b = record {
  notes_stay = λ cell e. b.notes_stay cell (a.notes_stay cell e);
  marks_stay = λ block mark e. b.marks_stay block mark (a.marks_stay block mark e);
  longer = omega (arith, a.longer, b.longer);
  steps_stay = λ k l. b.steps_stay k (omega (arith, l, a.longer)) ∙ a.steps_stay k l;
}

pub kept_push : (walk later : Walk) (step : Step) → later.steps.items ≡ walk.steps.items ++ step ∷ [] → ((cell : ℕ) → IsNoted walk.notes.cells.items cell → IsNoted later.notes.cells.items cell)
    → ((block : ℕ) (mark : Mark) → mark_at walk.marks.items block ≡ Some mark → mark_at later.marks.items block ≡ Some mark) → AreKept walk later
kept_push walk later step is notes marks = record {
  notes_stay = notes;
  marks_stay = marks;
  longer = omega (arith, ap length is, length_push walk.steps.items step);
  steps_stay = λ k l. ap (λ (xs : List Step). slice_get xs k) is ∙ pushed_stays walk.steps.items step k l;
}

listed_kept : (walk later : Walk) (step : Step) → AreKept walk later → IsListed walk.steps.items step → IsListed later.steps.items step
listed_kept walk later step kept at = (at.0, kept.steps_stay at.0 (slice_get_within walk.steps.items at.0 step at.1) ∙ at.1)

pub marked_on : (walk later : Walk) (block holder i : ℕ) → AreKept walk later → IsMarkedBy walk block holder i → IsMarkedBy later block holder i
marked_on walk later block holder i kept m = record {
  first = m.first;
  marked = kept.marks_stay block m.first m.marked;
  twice = λ apart. kept.notes_stay (cell_of BlockUsedTwice block) (m.twice apart);
}

met_on : (walk later : Walk) (block holder i : ℕ) (next : Role) → AreKept walk later → IsMetBy walk block holder i next → IsMetBy later block holder i next
met_on walk later block holder i next kept m = record {
  placed = marked_on walk later block holder i kept m.placed;
  covered = covered_on walk.steps.items later.steps.items (λ step. listed_kept walk later step kept) block next m.covered;
}

pub passed_on : (image : List ℕ) (walk later : Walk) (step : Step) (i : ℕ) → AreKept walk later → IsPassed image walk step i → IsPassed image later step i
passed_on image walk later step i kept p = record {
  met = λ next place inside. met_on walk later (long image step.block i) step.block i next kept (p.met next place inside);
  outside = λ next place out. kept.notes_stay (cell_of BadPointer step.block) (p.outside next place out);
}

-- by the place in the mark itself
pub marked_by_it : (walk : Walk) (block : ℕ) (mark : Mark) → mark_at walk.marks.items block ≡ Some mark → IsMarkedBy walk block mark.holder mark.long
marked_by_it walk block mark marked = record {
  first = mark;
  marked = marked;
  twice = λ apart. elim apart [ inl holder ↦ absurd (holder refl) | inr long ↦ absurd (long refl) ];
}

-- ---- the places of a step

pub few_pages : (image : List ℕ) → IsImage image → page_count (block_count image) ≤ 25
few_pages image im = omega (arith, im.whole, im.size.0, im.size.1)

module _ (image : List ℕ) (walk : Walk) (step : Step) (whole : IsImage image) where
  pub passed_below : (i : ℕ) → i < 6 → IsPassed image walk step i
  passed_below i l = record {
    met = λ next place inside. absurd (omega (arith, l, (place_within place (few_pages image whole)).0));
    outside = λ next place out. absurd (omega (arith, l, (place_within place (few_pages image whole)).0));
  }

  pub visited_by : ((i : ℕ) → i < 127 → IsPassed image walk step i) → IsVisited image walk step
  visited_by below = record { passed = λ i. elim (cases_lt i 127) [ inl l ↦ below i l | inr past ↦ passed_past i past ] }
    where
      passed_past : (i : ℕ) → 127 ≤ i → IsPassed image walk step i
      passed_past i past = record {
        met = λ next place inside. absurd (omega (arith, past, (place_within place (few_pages image whole)).1));
        outside = λ next place out. absurd (omega (arith, past, (place_within place (few_pages image whole)).1));
      }

-- ---- the steps that were visited

pub visited_more : (image : List ℕ) (walk later : Walk) (n : ℕ) (step : Step) → slice_get walk.steps.items n ≡ Some step → AreVisited image walk n → AreKept walk later → IsVisited image later step
    → AreVisited image later (n + 1)
visited_more image walk later n step at before kept this = record {
  visited = λ k other l e.
      one_more walk.steps.items (IsVisited image walk) (IsVisited image later) n step at (λ s v. record { passed = λ i. passed_on image walk later s i kept (v.passed i) }) this before.visited k other l
      (sym (kept.steps_stay k (omega (arith, l, slice_get_within walk.steps.items n step at))) ∙ e);
}

-- a place of a step in a role of the same kind
pub record IsLikePlace (image : List ℕ) (steps : List Step) (block i : ℕ) : Type 0 where
  pub role : Role
  pub next : Role
  pub listed : IsListed steps (step_of block role)
  pub place : IsPlace image block role i next

-- what is known of a reached block and its role
pub record IsStanding (image : List ℕ) (walk : Walk) (block : ℕ) (role : Role) : Type 0 where
  pub marked : IsMarked walk.marks.items block
  pub covered : AreCoveredBy walk.steps.items block role
  pub first : role ≡ Root → IsListed walk.steps.items (step_of block Root)

-- after all steps
module _ (image : List ℕ) (walk : Walk) (n : ℕ) (w : IsWalked image walk.notes.cells.items walk.marks.items walk.roles.cells.items walk.steps.items) (v : AreVisited image walk n)
    (all : length walk.steps.items ≤ n) where
  visit_of : (block : ℕ) (role : Role) → IsListed walk.steps.items (step_of block role) → IsVisited image walk (step_of block role)
  visit_of block role at = v.visited at.0 (step_of block role) (omega (arith, slice_get_within walk.steps.items at.0 (step_of block role) at.1, all)) at.1

  met_of : (block i : ℕ) (role next : Role) → IsListed walk.steps.items (step_of block role) → IsPlace image block role i next → LeadsInside image block i → IsMetBy walk (long image block i) block i next
  met_of block i role next at place inside = ((visit_of block role at).passed i).met next place inside

  -- a step has each place of a reached block
  like_place : {block i : ℕ} {role next : Role} → IsStanding image walk block role → IsPlace image block role i next → IsLikePlace image walk.steps.items block i
  like_place s (root_page l) = record { role = Root; next = Page; listed = s.first refl; place = root_page l }
  like_place {block = b} s (root_slot {s = r} l n) = record { role = Root; next = Entry b r; listed = s.first refl; place = root_slot l n }
  like_place {block = b} s (directory_slot {dir = d} {r = r} {s = t} e l n) =
      let at = entry_listed walk.steps.items b d r s.covered in
      record { role = Entry at.0 at.1; next = Entry b t; listed = at.2; place = directory_slot e l n }
  like_place {block = b} s (next_entry {dir = d} {s = r} n) =
      let at = entry_listed walk.steps.items b d r s.covered in
      record { role = Entry at.0 at.1; next = Entry at.0 at.1; listed = at.2; place = next_entry n }
  like_place {block = b} s (header_pointer {dir = d} {s = r} e p) =
      let at = entry_listed walk.steps.items b d r s.covered in
      record { role = Entry at.0 at.1; next = Data b; listed = at.2; place = header_pointer e p }
  like_place {block = b} s (first_extension {dir = d} {s = r} e n) =
      let at = entry_listed walk.steps.items b d r s.covered in
      record { role = Entry at.0 at.1; next = Extension b; listed = at.2; place = first_extension e n }
  like_place {block = b} s (extension_pointer {file = f} p) =
      let at = extension_listed walk.steps.items b f s.covered in
      record { role = Extension at.0; next = Data at.0; listed = at.1; place = extension_pointer p }
  like_place {block = b} s (further_extension {file = f} n) =
      let at = extension_listed walk.steps.items b f s.covered in
      record { role = Extension at.0; next = Extension at.0; listed = at.1; place = further_extension n }

  -- in each of these roles the block that the place names is met
  met_by_entry : (block i target : ℕ) → target ≡ long image block i → LeadsInside image block i → ((d t : ℕ) → IsPlace image block (Entry d t) i (Entry d t)) → (d s : ℕ)
      → AreCoveredBy walk.steps.items block (Entry d s) → AreCoveredBy walk.steps.items target (Entry d s)
  met_by_entry block i target is inside place d s c =
      let there : (x t : ℕ) → IsListed walk.steps.items (step_of block (Entry x t)) → AreCoveredBy walk.steps.items target (Entry x t) = λ x t at.
      subst (λ (b : ℕ). AreCoveredBy walk.steps.items b (Entry x t)) (sym is) (met_of block i (Entry x t) (Entry x t) at (place x t) inside).covered in
      entry_covered walk.steps.items target d s
      (carried walk.steps.items block target Directory Directory (λ role m at e.
      let r = directory_role role m e in
      (there m r.0 (subst (λ (x : Role). IsListed walk.steps.items (step_of block x)) r.1 at)).covered Directory m refl) d (c.covered Directory d refl))
      (carried walk.steps.items block target Slot Slot (λ role m at e.
      let r = slot_role role m e in
      (there r.0 m (subst (λ (x : Role). IsListed walk.steps.items (step_of block x)) r.1 at)).covered Slot m refl) s (c.covered Slot s refl))

  met_by_extension : (block i : ℕ) (part : Part) (next : ℕ → Role) → LeadsInside image block i → ((f : ℕ) → IsPlace image block (Extension f) i (next f)) → ((f : ℕ) → number_of part (next f) ≡ Some f) → (f : ℕ)
      → AreCoveredBy walk.steps.items block (Extension f) → IsCovered walk.steps.items (long image block i) part f
  met_by_extension block i part next inside place is f c =
      carried walk.steps.items block (long image block i) ExtensionFile part (λ role m at e.
      let at_it = subst (λ (x : Role). IsListed walk.steps.items (step_of block x)) (extension_role role m e) at in
      (met_of block i (Extension m) (next m) at_it (place m) inside).covered.covered part m (is m)) f (c.covered ExtensionFile f refl)

  next_covered : {block i : ℕ} {role next : Role} → IsStanding image walk block role → IsPlace image block role i next → LeadsInside image block i → AreCoveredBy walk.steps.items (long image block i) next
  next_covered {block = b} {i = i} s (root_page l) inside = (met_of b i Root Page (s.first refl) (root_page l) inside).covered
  next_covered {block = b} {i = i} s (root_slot {s = r} l n) inside = (met_of b i Root (Entry b r) (s.first refl) (root_slot l n) inside).covered
  next_covered {block = b} {i = i} s (directory_slot {dir = d} {r = r} {s = t} e l n) inside =
      let at = entry_listed walk.steps.items b d r s.covered in
      (met_of b i (Entry at.0 at.1) (Entry b t) at.2 (directory_slot e l n) inside).covered
  next_covered {block = b} {i = i} s (next_entry {dir = d} {s = r} n) inside = met_by_entry b NEXT_IN_CHAIN (long image b NEXT_IN_CHAIN) refl inside (λ x t. next_entry n) d r s.covered
  next_covered {block = b} {i = i} s (header_pointer {dir = d} {s = r} e p) inside =
      let at = entry_listed walk.steps.items b d r s.covered in
      (met_of b i (Entry at.0 at.1) (Data b) at.2 (header_pointer e p) inside).covered
  next_covered {block = b} {i = i} s (first_extension {dir = d} {s = r} e n) inside =
      let at = entry_listed walk.steps.items b d r s.covered in
      (met_of b i (Entry at.0 at.1) (Extension b) at.2 (first_extension e n) inside).covered
  next_covered {block = b} {i = i} s (extension_pointer {file = f} {i = k} p) inside =
      data_covered walk.steps.items (long image b (FIRST_POINTER - k)) f (met_by_extension b (FIRST_POINTER - k) DataFile (λ (x : ℕ). Data x) inside (λ x. extension_pointer p) (λ x. refl) f s.covered)
  next_covered {block = b} {i = i} s (further_extension {file = f} n) inside =
      extension_covered walk.steps.items (long image b NEXT_EXTENSION) f (met_by_extension b NEXT_EXTENSION ExtensionFile (λ (x : ℕ). Extension x) inside (λ x. further_extension n) (λ x. refl) f s.covered)

  standing : {block : ℕ} {role : Role} → Reached image block role → IsStanding image walk block role
  standing start = record { marked = (root_mark, w.root); covered = record { covered = λ part m e. absurd (none_of_root part m e) }; first = λ e. w.first }
  standing (named {block = b} {i = i} {role = r} {next = x} h place inside) =
      let s = standing h in
      let like = like_place s place in
      let m = met_of b i like.role like.next like.listed like.place inside in
      record { marked = (m.placed.first, m.placed.marked); covered = next_covered s place inside; first = λ e. absurd (place_not_root place e) }

  pub closed : AreClosed image walk.marks.items
  closed block i mark next e place inside = (standing (named (w.marked block mark e) place inside)).marked

  pub all_covered : AreCovered image walk.steps.items
  all_covered = record { root = w.first; covered = λ block role h. (standing h).covered }

  pub outside_noted : AreOutsideNoted image walk.notes.cells.items
  outside_noted = record {
    noted = λ block i role next h place out.
        let like = like_place (standing h) place in
        ((visit_of block like.role like.listed).passed i).outside like.next like.place out;
  }

  met_at : (holder i block : ℕ) → InImage image block → PlaceNames image holder i block → IsMarkedBy walk block holder i
  met_at holder i block inside h =
      let like = like_place (standing h.reached) h.place in
      let m = met_of holder i like.role like.next like.listed like.place (subst (InImage image) (sym h.names) inside) in
      subst (λ (b : ℕ). IsMarkedBy walk b holder i) h.names m.placed

  -- of two places that differ, one is not that of the mark
  two_noted : (block holder i other j : ℕ) → IsMarkedBy walk block holder i → IsMarkedBy walk block other j → (holder ≢ other) ⊎ (i ≢ j) → IsNoted walk.notes.cells.items (cell_of BlockUsedTwice block)
  two_noted block holder i other j m o apart =
      let same : m.first ≡ o.first = same_Some m.first o.first (sym m.marked ∙ o.marked) in
      elim (cases_eq m.first.holder holder) [
        | inr ne ↦ m.twice (inl ne)
        | inl e ↦ elim (cases_eq m.first.long i) [
          | inr ne ↦ m.twice (inr ne)
          | inl f ↦ elim apart [
            | inl ne ↦ o.twice (inl (λ z. ne (sym e ∙ ap (λ (k : Mark). k.holder) same ∙ z)))
            | inr ne ↦ o.twice (inr (λ z. ne (sym f ∙ ap (λ (k : Mark). k.long) same ∙ z)))
          ]
        ]
      ]

  -- no place of a reached block is that of the root's mark
  root_noted : (block holder i : ℕ) → block ≡ root_of image → PlaceNames image holder i block → IsNoted walk.notes.cells.items (cell_of BlockUsedTwice block)
  root_noted block holder i e h =
      let m = met_at holder i block (subst (InImage image) (sym e) (root_inside image w.whole)) h in
      let same : m.first ≡ root_mark = same_Some m.first root_mark (sym m.marked ∙ ap (mark_at walk.marks.items) e ∙ w.root) in
      let none : m.first.long ≡ 0 = ap (λ (k : Mark). k.long) same in
      let from = (place_within h.place (few_pages image w.whole)).0 in
      m.twice (inr (λ z. omega (arith, z, none, from)))

  pub twice_noted : AreTwiceNoted image walk.notes.cells.items
  twice_noted = record { noted = go }
    where
      go : (block : ℕ) → IsUsedTwice image block → IsNoted walk.notes.cells.items (cell_of BlockUsedTwice block)
      go block (two_holders {holder = h} {other = o} inside m k apart) = two_noted block h m.0 o k.0 (met_at h m.0 block inside m.1) (met_at o k.0 block inside k.1) (inl apart)
      go block (two_longs {holder = h} {i = i} {j = j} inside m k apart) = two_noted block h i h j (met_at h i block inside m) (met_at h j block inside k) (inr apart)
      go block (root_named {holder = h} {i = i} e m) = root_noted block h i e m
