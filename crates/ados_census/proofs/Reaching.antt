-- Reached blocks while a walk finds them, and that it finds all.
use Rattle.std.proofs.Common.{◌≡◌, ℕ, ◌+◌, ◌*◌, ◌-◌, ◌<◌, ◌≤◌, inl, inr, Bool, true, false, MatchBool, List, [], ◌∷◌, ◌++◌, length, get_or, Some, set, refl, sym, ap, ap₂, ◌∙◌, subst, arith}
use Rattle.std.specs.List.{slice_get}
use Rattle.std.proofs.lemmas.Bool.{cases_lt}
use Rattle.std.proofs.lemmas.List.{get_or_append_left, get_or_push, length_push}
use Rattle.std.proofs.lemmas.Option.{same_Some, slice_get-get_or, slice_get_within}
use Rattle.adf_block.specs.declared.layout.TheConstants.{FIRST_PAGE, FIRST_POINTER, FIRST_SLOT, NEXT_EXTENSION, NEXT_IN_CHAIN}
use Rattle.adf_block.specs.Image.{long}
use Rattle.adf_block.specs.Whole.{IsImage}
use Rattle.ados_model.specs.declared.role.Role.{Role}
use Rattle.ados_model.specs.declared.role.Role.TheVariants.{Data, Entry, Extension, Page, Root}
use Rattle.ados_model.specs.Faults.{InImage, IsPlace, LeadsInside, Reached, root_of}
use Rattle.ados_model.specs.Faults.IsPlace.{directory_slot, extension_pointer, first_extension, further_extension, header_pointer, next_entry, root_page, root_slot}
use Rattle.ados_model.specs.Faults.Reached.{named, start}
use Rattle.ados_check.proofs.PlaceLemmas.{place_within}
use Rattle.ados_census.specs.Places.{kind_of}
use Rattle.ados_census.specs.Reached.{IsReached}
unfoldable use Rattle.ados_census.specs.steps.Marks.{unmarked}
use Rattle.ados_census.specs.steps.Marks.{IsMarked}
use Rattle.ados_census.specs.steps.Reaching.{AreCells, AreKept, AreVisited, AreWalked, IsPassed, IsReachedIn, IsStep, cell, form}
use Rattle.ados_census.specs.declared.reached.Step.{Step}
use Rattle.ados_census.specs.declared.reached.Walk.{Walk}
use Rattle.ados_census.proofs.Insides.{few_pages, root_inside}
use Rattle.ados_census.proofs.Marking.{fewer_unmarked, still_marked}

-- ---- the forms of roles

is_root : (role : Role) → form role ≡ 0 → role ≡ Root
is_root Root e = refl
is_root (Entry dir s) e = absurd (omega (arith, e))
is_root (Extension file) e = absurd (omega (arith, e))
is_root (Data file) e = absurd (omega (arith, e))
is_root Page e = absurd (omega (arith, e))

is_entry : (role : Role) → form role ≡ 1 → (dir : ℕ) × (s : ℕ) × (role ≡ Entry dir s)
is_entry Root e = absurd (omega (arith, e))
is_entry (Entry dir s) e = (dir, s, refl)
is_entry (Extension file) e = absurd (omega (arith, e))
is_entry (Data file) e = absurd (omega (arith, e))
is_entry Page e = absurd (omega (arith, e))

is_extension : (role : Role) → form role ≡ 2 → (file : ℕ) × (role ≡ Extension file)
is_extension Root e = absurd (omega (arith, e))
is_extension (Entry dir s) e = absurd (omega (arith, e))
is_extension (Extension file) e = (file, refl)
is_extension (Data file) e = absurd (omega (arith, e))
is_extension Page e = absurd (omega (arith, e))

pub form_small : (role : Role) → form role < 4
form_small Root = omega arith
form_small (Entry dir s) = omega arith
form_small (Extension file) = omega arith
form_small (Data file) = omega arith
form_small Page = omega arith

-- a block and a form have their own cell
same_cell : (block other : ℕ) (role next : Role) → cell block role ≡ cell other next → (block ≡ other) × (form role ≡ form next)
same_cell block other role next e =
    let few = form_small role in
    let small = form_small next in
    (omega (arith, e, few, small), omega (arith, e, few, small))

-- a place of a block in a role is one in each role of this form, gives a role of the same form, and makes the same of the
-- block that it names
module _ (image : List ℕ) where
  pub same_place : {block i : ℕ} {role next : Role} → IsPlace image block role i next → (other : Role) → form other ≡ form role
      → (last : Role) × IsPlace image block other i last × (form last ≡ form next) × (kind_of last i ≡ kind_of next i)
  same_place (root_page {block = b} {i = p} l) other e = (Page, subst (λ (r : Role). IsPlace image b r (FIRST_PAGE + p) Page) (sym (is_root other e)) (root_page l), refl, refl)
  same_place (root_slot {block = b} {s = s} l h) other e = (Entry b s, subst (λ (r : Role). IsPlace image b r (FIRST_SLOT + s) (Entry b s)) (sym (is_root other e)) (root_slot l h), refl, refl)
  same_place (directory_slot {block = b} {s = s} y l h) other e =
      let is = is_entry other e in (Entry b s, subst (λ (r : Role). IsPlace image b r (FIRST_SLOT + s) (Entry b s)) (sym is.2) (directory_slot y l h), refl, refl)
  same_place (next_entry {block = b} h) other e =
      let is = is_entry other e in (Entry is.0 is.1, subst (λ (r : Role). IsPlace image b r NEXT_IN_CHAIN (Entry is.0 is.1)) (sym is.2) (next_entry h), refl, refl)
  same_place (header_pointer {block = b} {i = i} y p) other e =
      let is = is_entry other e in (Data b, subst (λ (r : Role). IsPlace image b r (FIRST_POINTER - i) (Data b)) (sym is.2) (header_pointer y p), refl, refl)
  same_place (first_extension {block = b} y h) other e =
      let is = is_entry other e in (Extension b, subst (λ (r : Role). IsPlace image b r NEXT_EXTENSION (Extension b)) (sym is.2) (first_extension y h), refl, refl)
  same_place (extension_pointer {block = b} {i = i} p) other e =
      let is = is_extension other e in (Data is.0, subst (λ (r : Role). IsPlace image b r (FIRST_POINTER - i) (Data is.0)) (sym is.1) (extension_pointer p), refl, refl)
  same_place (further_extension {block = b} h) other e =
      let is = is_extension other e in (Extension is.0, subst (λ (r : Role). IsPlace image b r NEXT_EXTENSION (Extension is.0)) (sym is.1) (further_extension h), refl, refl)

pub root_step : (image : List ℕ) (root : ℕ) → IsImage image → root ≡ root_of image → IsStep image (record { block = root; role = Root })
root_step image root im e = record {
  inside = subst (InImage image) (sym e) (root_inside image im);
  reached = subst (λ (b : ℕ). Reached image b Root) (sym e) start;
}

-- ---- one more step

pushed_stays : (steps : List Step) (step : Step) (k : ℕ) → k < length steps → slice_get (steps ++ step ∷ []) k ≡ slice_get steps k
pushed_stays steps step k l =
    slice_get-get_or (steps ++ step ∷ []) k step (omega (arith, l, length_push steps step))
    ∙ ap (λ (s : Step). Some s) (get_or_append_left steps (step ∷ []) step k l) ∙ sym (slice_get-get_or steps k step l)

pushed_there : (steps : List Step) (step : Step) → slice_get (steps ++ step ∷ []) (length steps) ≡ Some step
pushed_there steps step =
    slice_get-get_or (steps ++ step ∷ []) (length steps) step (omega (arith, length_push steps step)) ∙ ap (λ (s : Step). Some s) (get_or_push steps step step (length steps) refl)

-- ---- a walk that goes on

pub kept_same : (walk : Walk) → AreKept walk walk
kept_same walk = record { marks_stay = λ c is. is; longer = omega arith; steps_stay = λ k l. refl; room = omega arith }

pub kept_on : {walk later last : Walk} → AreKept walk later → AreKept later last → AreKept walk last
kept_on a b = record {
  marks_stay = λ c is. b.marks_stay c (a.marks_stay c is);
  longer = omega (arith, a.longer, b.longer);
  steps_stay = λ k l. b.steps_stay k (omega (arith, l, a.longer)) ∙ a.steps_stay k l;
  room = omega (arith, a.room, b.room);
}

pub kept_more : (walk later : Walk) (step : Step) (c : ℕ) → c < length walk.cells.items → get_or walk.cells.items c false ≡ false → later.cells.items ≡ set walk.cells.items c true → later.steps.items ≡ walk.steps.items ++ step ∷ []
    → AreKept walk later
kept_more walk later step c within free cells steps = record {
  marks_stay = λ d is. subst (λ (xs : List Bool). IsMarked xs d) (sym cells) (still_marked walk.cells.items c within d is);
  longer = omega (arith, ap length steps, length_push walk.steps.items step);
  steps_stay = λ k l. ap (λ (xs : List Step). slice_get xs k) steps ∙ pushed_stays walk.steps.items step k l;
  room = omega (arith, ap length steps, length_push walk.steps.items step, ap unmarked cells, fewer_unmarked walk.cells.items c within free);
}

-- ---- the places of a step

module _ (image : List ℕ) (cells : List Bool) (step : Step) (whole : IsImage image) where
  pub passed_below : (i : ℕ) → i < 6 → IsPassed image cells step i
  passed_below i l next place inside = absurd (omega (arith, l, (place_within place (few_pages image whole)).0))

  pub all_passed : ((i : ℕ) → i < 127 → IsPassed image cells step i) → (i : ℕ) → IsPassed image cells step i
  all_passed below i next place inside = below i (place_within place (few_pages image whole)).1 next place inside

pub visited_more : (image : List ℕ) (walk later : Walk) (n : ℕ) (step : Step) → slice_get walk.steps.items n ≡ Some step → AreVisited image walk.cells.items walk.steps.items n → AreKept walk later
    → ((i : ℕ) → IsPassed image later.cells.items step i) → AreVisited image later.cells.items later.steps.items (n + 1)
visited_more image walk later n step at before kept this k other l e i next place inside =
    let within : n < length walk.steps.items = slice_get_within walk.steps.items n step at in
    let was : slice_get walk.steps.items k ≡ Some other = sym (kept.steps_stay k (omega (arith, l, within))) ∙ e in
    elim (cases_lt k n) [
      | inl less ↦ kept.marks_stay (cell (long image other.block i) next) (before k other less was i next place inside)
      | inr past ↦
          (let here : k ≡ n = omega (arith, l, past) in
          let h : Some step ≡ Some other = sym at ∙ ap (slice_get walk.steps.items) (sym here) ∙ was in
          let same : step ≡ other = same_Some step other h in
          subst (λ (s : Step). (j : ℕ) → IsPassed image later.cells.items s j) same this i next place inside)
    ]

-- after all steps
module _ (image : List ℕ) (cells : List Bool) (steps : List Step) (n : ℕ) (w : AreWalked image cells steps) (v : AreVisited image cells steps n) (all : length steps ≤ n)
    (root : IsMarked cells (cell (root_of image) Root)) where
  next_marked : (block i : ℕ) (role next : Role) → IsMarked cells (cell block role) → IsPlace image block role i next → LeadsInside image block i → IsMarked cells (cell (long image block i) next)
  next_marked block i role next marked place inside =
      let has = w.listed (cell block role) marked in
      let parts = same_cell has.step.block block has.step.role role has.is in
      let other = same_place image (subst (λ (b : ℕ). IsPlace image b role i next) (sym parts.0) place) has.step.role parts.1 in
      let there : LeadsInside image has.step.block i = subst (λ (b : ℕ). LeadsInside image b i) (sym parts.0) inside in
      let same : cell (long image has.step.block i) other.0 ≡ cell (long image block i) next = ap₂ (λ (b : ℕ) (f : ℕ). 4 * long image b i + f) parts.0 other.2 in
      subst (IsMarked cells) same (v has.k has.step (omega (arith, slice_get_within steps has.k has.step has.at, all)) has.at i other.0 other.1 there)

  reached_marked : {block : ℕ} {role : Role} → Reached image block role → IsMarked cells (cell block role)
  reached_marked start = root
  reached_marked (named {block = b} {i = i} {role = r} {next = x} h place inside) = next_marked b i r x (reached_marked h) place inside

  step_reached : (k : ℕ) (step : Step) → slice_get steps k ≡ Some step → IsStep image step
  step_reached k step at =
      let l = slice_get_within steps k step at in
      subst (IsStep image) (same_Some (get_or steps k step) step (sym (slice_get-get_or steps k step l) ∙ at)) (w.reached k step l)

  pub all_cells : AreCells image cells
  all_cells = record {
    size = w.size;
    all = λ block role h. reached_marked h;
    only = λ c marked.
        let has = w.listed c marked in
        record { block = has.step.block; role = has.step.role; reached = (step_reached has.k has.step has.at).reached; is = has.is };
  }

-- the cells of a block
module _ (image : List ℕ) (cells : List Bool) (block : ℕ) (a : AreCells image cells) where
  pub cell_told : (number : ℕ) → number < 4 → (r : Bool) → r ≡ get_or cells (4 * block + number) false → MatchBool r (IsReachedIn image block number) (¬ IsReachedIn image block number)
  cell_told number few true e =
      let of = a.only (4 * block + number) (sym e) in
      let small = form_small of.role in
      let here : of.block ≡ block = omega (arith, of.is, small, few) in
      record { role = of.role; of_form = omega (arith, of.is, small, few); reached = subst (λ (b : ℕ). Reached image b of.role) here of.reached }
  cell_told number few false e = λ h.
      let both : true ≡ false = sym (a.all block h.role h.reached) ∙ ap (λ (f : ℕ). get_or cells (4 * block + f) false) h.of_form ∙ sym e in
      absurd (cc both)

-- a block that is reached in no form
pub unreached : (image : List ℕ) (block : ℕ) → ((k : ℕ) → k < 4 → ¬ IsReachedIn image block k) → ¬ IsReached image block
unreached image block none (role, reached) = none (form role) (form_small role) (record { role = role; of_form = refl; reached = reached })
