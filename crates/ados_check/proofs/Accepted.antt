-- A checked image is accepted, as it is or with a rebuilt bitmap.
use Rattle.ados_check.proofs.Common.{◌≡◌, ℕ, ◌+◌, ◌-◌, ◌*◌, ◌/◌, ◌%◌, ◌<◌, ◌≤◌, inl, inr, true, false, not, List, length, map, Option, Some, None, is_some, refl, sym, ap, ◌∙◌, subst, arith, false≢true, get_or-map, get_or_past, length-map, IsImage, HasFreeBit, has_free_bit, block_count, page_count, root_key, long, block_sum, SameBut, AtLong, InBlock, OnlyBlock, same_trans, same_weaken, same_count, other_long, other_block_long, other_block_sum, LawfulPages, HasBit, page_block, pages_of, InPages, Role, Root, Page, InImage, Reached, root_of, root_page, start, named, HasValidBitmap, IsOfBitmap, Rebuilt, Accepts, HasNoLost, faults_have_no_tree, Mark, mark_at, IsChecked, AreInUse, IsMended, mark_of}
use Rattle.ados_map.specs.Bits.{is_unnamed}
use Rattle.ados_check.proofs.MarkLemmas.{mark_got}
use Rattle.ados_check.proofs.Roles.{reached_marked, marked_inside}
use Rattle.ados_check.proofs.RolePlaces.{length-pages_of, page-at, reached_stands}
use Rattle.ados_check.proofs.Untouched.{root_same, root_longs}
use Rattle.ados_check.proofs.TreeOf.{tree_of, lost_of, lost_view}
use Rattle.ados_check.proofs.Standing.{stands}
use Rattle.ados_check.proofs.Carried.{is_checked}
use Rattle.ados_check.proofs.NoFaults.{shows_no_fault}

module _ (image : List ℕ) (marks : List (Option Mark)) (c : IsChecked image marks) where
  -- bitmap block p is marked with its long of the root
  page_marked : (p : ℕ) → p < pages_of image → mark_at marks (page_block image p) ≡ Some (mark_of Page (root_of image) (79 + p))
  page_marked p l = c.reached.marked (root_of image) (79 + p) (mark_of Root 0 0) Page c.reached.root (root_page l)

  page_inside : (p : ℕ) → p < pages_of image → InImage image (page_block image p)
  page_inside p l = c.reached.inside (root_of image) (79 + p) (mark_of Root 0 0) Page c.reached.root (root_page l)

  pub lawful_pages : LawfulPages image
  lawful_pages = record {
    inside = page_inside;
    apart = λ p q l m e.
        let one = page_marked p l in
        let other = page_marked q m in
        let blocks = ap (mark_at marks) e in
        let same : mark_of Page (root_of image) (79 + p) ≡ mark_of Page (root_of image) (79 + q) = cc (one, other, blocks) in
        let longs : 79 + p ≡ 79 + q = ap (λ (m : Mark). m.long) same in
        omega (arith, longs);
    beside_root = λ p l e.
        let one = page_marked p l in
        let root = ap (mark_at marks) e ∙ c.reached.root in
        let same : mark_of Page (root_of image) (79 + p) ≡ mark_of Root 0 0 = cc (one, root) in
        let role : Page ≡ Root = ap (λ (m : Mark). m.role) same in
        cc role;
  }

  page_reached : (p : ℕ) → p < pages_of image → Reached image (page_block image p) Page
  page_reached p l = named start (root_page l) (page_inside p l)

  -- a reached bitmap block is one of them
  reached_page : IsImage image → (page : ℕ) → Reached image page Page → (p : ℕ) × (p < pages_of image) × (page ≡ page_block image p)
  reached_page im page h =
      let at = reached_stands image marks im c h in
      let l : at.0 < pages_of image = omega (arith, at.1.within, length-pages_of image) in
      (at.0, l, sym at.1.here ∙ page-at image at.0 l)

-- with a valid bitmap it is accepted as it is, if no marked block is free
pub checked_is_accepted : (image : List ℕ) (marks : List (Option Mark)) → IsImage image → IsChecked image marks → HasValidBitmap image → AreInUse image marks → Accepts image false image
checked_is_accepted image marks im c valid used =
    let t = tree_of image marks in
    let s = stands image marks im c valid used in
    (λ kind block shows. faults_have_no_tree image t kind block shows s, valid, refl, (t, s))

-- ---- which blocks are in use

-- a block of the volume is out of use if it is not marked
unnamed_is : (marks : List (Option Mark)) (k : ℕ) → k < length marks → is_unnamed (map is_some marks) k ≡ not (is_some (mark_at marks k))
unfolding is_unnamed
unnamed_is marks k l = ap not (get_or-map is_some marks k None true l ∙ ap is_some (sym (mark_got marks k)))

unnamed_past : (marks : List (Option Mark)) (k : ℕ) → length marks ≤ k → is_unnamed (map is_some marks) k ≡ false
unfolding is_unnamed
unnamed_past marks k l = ap not (get_or_past (map is_some marks) k true (omega (arith, l, length-map marks is_some)))

-- the bit of a block in two images with the same bitmap block and the same long in it
free_agrees : (old new : List ℕ) (b page : ℕ) → long old (root_of old) (79 + (b - 2) / 4064) ≡ page → long new (root_of new) (79 + (b - 2) / 4064) ≡ page
    → long new page (1 + (b - 2) % 4064 / 32) ≡ long old page (1 + (b - 2) % 4064 / 32) → has_free_bit new b ≡ has_free_bit old b
unfolding has_free_bit
free_agrees old new b page e f same = rw (e, f, same) refl

module _ (old new : List ℕ) (marks : List (Option Mark)) (im : IsImage old) (c : IsChecked old marks) (mended : IsMended old marks new) where
  -- ---- what changed

  of_pages : (b i : ℕ) → InPages old b i → IsOfBitmap old b i
  of_pages b i h = inl (subst (λ (x : ℕ). Reached old x Page) (sym h.2) (page_reached old marks c h.0 h.1))

  paged : SameBut (IsOfBitmap old) old mended.paged
  paged = same_weaken (InPages old) (IsOfBitmap old) old mended.paged of_pages mended.pages.rest

  rest : SameBut (IsOfBitmap old) old new
  rest =
      same_trans (IsOfBitmap old) old mended.paged new paged
      (same_trans (IsOfBitmap old) mended.paged mended.flagged new
      (same_weaken (AtLong (root_of old) 78) (IsOfBitmap old) mended.paged mended.flagged (λ b i at. inr (at.0, inr at.1)) mended.flag)
      (same_weaken (AtLong (root_of old) 5) (IsOfBitmap old) mended.flagged new (λ b i at. inr (at.0, inl at.1)) mended.settled))

  -- only the root, after the bitmap blocks
  last : OnlyBlock (root_of old) mended.paged new
  last =
      same_trans (InBlock (root_of old)) mended.paged mended.flagged new
      (same_weaken (AtLong (root_of old) 78) (InBlock (root_of old)) mended.paged mended.flagged (λ b i at. at.0) mended.flag)
      (same_weaken (AtLong (root_of old) 5) (InBlock (root_of old)) mended.flagged new (λ b i at. at.0) mended.settled)

  count : block_count new ≡ block_count old
  count = same_count (IsOfBitmap old) old new rest

  root_is : root_of new ≡ root_of old
  root_is = ap root_key count

  valid : HasValidBitmap new
  valid =
      ap (λ (b : ℕ). long new b 78) root_is
      ∙ other_long (root_of old) 5 mended.flagged new mended.settled (root_of old) 78 (omega arith) (inr (λ z. omega (arith, z)))
      ∙ mended.valid

  page_sum : (page : ℕ) → Reached old page Page → block_sum new page ≡ 0
  page_sum page h =
      let at = reached_page old marks c im page h in
      let beside = (lawful_pages old marks c).beside_root at.0 at.1 in
      other_block_sum (root_of old) mended.paged new last page (λ z. beside (sym at.2 ∙ z))
      ∙ ap (block_sum mended.paged) at.2 ∙ mended.pages.sums at.0 at.1

  -- ---- the bits

  has_bit : (b : ℕ) → InImage old b → HasBit old b
  has_bit b h = (h.0, omega (arith, h.0, h.1))

  page_long : (image : List ℕ) → SameBut (IsOfBitmap old) old image → (p : ℕ) → p < pages_of old → long image (root_of image) (79 + p) ≡ page_block old p
  page_long image same p l =
      let few : pages_of old ≤ 25 = omega (arith, im.whole, im.size.1) in
      ap (λ (b : ℕ). long image b (79 + p)) (root_same old image marks im c.reached same)
      ∙ root_longs old image marks im c.reached same (79 + p) (omega arith) (λ z. omega (arith, z)) (λ z. omega (arith, z))

  free_kept : (b : ℕ) → HasBit old b → has_free_bit new b ≡ has_free_bit mended.paged b
  free_kept b h =
      let p : (b - 2) / 4064 < pages_of old = omega (arith, h.0, h.1) in
      let beside = (lawful_pages old marks c).beside_root ((b - 2) / 4064) p in
      free_agrees mended.paged new b (page_block old ((b - 2) / 4064))
      (page_long mended.paged paged ((b - 2) / 4064) p)
      (page_long new rest ((b - 2) / 4064) p)
      (other_block_long (root_of old) mended.paged new last (page_block old ((b - 2) / 4064)) (1 + (b - 2) % 4064 / 32) beside (omega arith))

  free_is : (b : ℕ) → HasBit old b → has_free_bit new b ≡ is_unnamed (map is_some marks) b
  free_is b h = free_kept b h ∙ mended.pages.marks b h

  free_unmarked : (b : ℕ) → InImage old b → has_free_bit new b ≡ not (is_some (mark_at marks b))
  free_unmarked b h = free_is b (has_bit b h) ∙ unnamed_is marks b (omega (arith, h.1, c.reached.size))

  free_past : (b : ℕ) → block_count old ≤ b → b < 2 + 4064 * page_count (block_count old) → has_free_bit new b ≡ false
  free_past b from below =
      let two : 2 ≤ b = omega (arith, im.whole, im.size.0) in
      free_is b (two, below) ∙ unnamed_past marks b (omega (arith, from, c.reached.size))

  free_marked : (b : ℕ) (m : Mark) → mark_at marks b ≡ Some m → has_free_bit new b ≡ false
  free_marked b m e = free_unmarked b (marked_inside old marks c.reached im b m e) ∙ ap (λ (o : Option Mark). not (is_some o)) e

  in_use : AreInUse new marks
  in_use b m e free = false≢true (sym (free_marked b m e) ∙ free)

  -- ---- the image is rebuilt

  used_reached : (b : ℕ) → InImage old b → ¬ HasFreeBit new b → (role : Role) × Reached old b role
  used_reached b h used = go (mark_at marks b) refl
    where
      go : (o : Option Mark) → mark_at marks b ≡ o → (role : Role) × Reached old b role
      go None e = absurd (used (free_unmarked b h ∙ ap (λ (o : Option Mark). not (is_some o)) e))
      go (Some m) e = (m.role, c.reached.reached b m e)

  rebuilt : ¬ HasValidBitmap old → Rebuilt old new
  rebuilt was = record {
    was_not_valid = was;
    is_valid = valid;
    rest = rest;
    root_sum = ap (block_sum new) root_is ∙ mended.sum;
    page_sums = page_sum;
    free = λ b h free role reached. let at = reached_marked old marks c.reached reached in in_use b at.0 at.1 free;
    in_use = used_reached;
    past_end = λ b from below free. false≢true (sym (free_past b from below) ∙ free);
  }

  checked_new : IsChecked new marks
  checked_new = is_checked old new marks im c rest mended.sum page_sum

  no_lost : HasNoLost (tree_of new marks)
  no_lost b = go (lost_of new marks b) refl
    where
      go : (o : Option (List ℕ)) → lost_of new marks b ≡ o → lost_of new marks b ≡ None
      go None e = e
      go (Some bytes) e =
          let lost = (lost_view new marks b bytes e).0 in
          let free : has_free_bit new b ≡ true = free_unmarked b (lost.inside.0, omega (arith, lost.inside.1, count)) ∙ ap (λ (o : Option Mark). not (is_some o)) lost.unmarked in
          absurd (false≢true (sym lost.used ∙ free))

-- without a valid bitmap it is accepted with a rebuilt one
pub mended_is_accepted : (old new : List ℕ) (marks : List (Option Mark)) → IsImage old → IsImage new → IsChecked old marks → ¬ HasValidBitmap old → IsMended old marks new → Accepts old true new
mended_is_accepted old new marks im new_im c was mended = (
  shows_no_fault old marks im c was,
  rebuilt old new marks im c mended was,
  (tree_of new marks, stands new marks new_im (checked_new old new marks im c mended) (valid old new marks im c mended) (in_use old new marks im c mended), no_lost old new marks im c mended),
)
