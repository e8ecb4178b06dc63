-- The bitmap after a change outside the root and the bitmap blocks, and the number of blocks marked free.
use Rattle.ados_data.proofs.Common.{◌≡◌, ℕ, ◌+◌, ◌-◌, ◌/◌, ◌<◌, ◌≤◌, List, ap, ◌∙◌, arith, ◌≢◌, zero, suc, Bool, true, false, cond, refl, sym, ap₂, block_count, root_key, has_free_bit, total, IsInside, SameBut, same_count, LawfulPages, pages_of, page_block, HasBit, NoneFree, IsInUse, LawfulMap, bit_of_inside, free_bit_count, total-one, total-same}
use Rattle.ados_map.proofs.PageLemmas.{lawful_kept, same_page}
use Rattle.ados_map.proofs.MarkLemmas as marks

module _ (changed : ℕ → ℕ → Type 0) (old new : List ℕ) (h : SameBut changed old new) (small : block_count old ≤ 101602) (root_free : (k : ℕ) → ¬ changed (root_key (block_count old)) k) where
  count : block_count new ≡ block_count old
  count = same_count changed old new h

  pub page_kept : (p : ℕ) → p < pages_of old → page_block new p ≡ page_block old p
  page_kept p l = same_page changed old new h (λ k low high. root_free k) p (omega (arith, l))

  -- the bitmap blocks and the blocks in use stay so if the marks are unchanged
  pub pages_kept : pages_of new ≡ pages_of old
  pages_kept = ap (λ (n : ℕ). (n - 2 + 4063) / 4064) count

  pub in_use_kept : (c : ℕ) → has_free_bit new c ≡ has_free_bit old c → IsInUse old c → IsInUse new c
  in_use_kept c same u = record {
    marked = same ∙ u.marked;
    beside_root = λ e. u.beside_root (e ∙ ap root_key count);
    beside_pages = λ p l e. u.beside_pages p (omega (arith, pages_kept, l)) (e ∙ page_kept p (omega (arith, pages_kept, l)));
  }

  -- the bitmap is lawful if its blocks are, and they and the root keep their marks
  pub map_after : LawfulPages new → has_free_bit new (root_key (block_count old)) ≡ has_free_bit old (root_key (block_count old)) → ((p : ℕ) → p < pages_of old → has_free_bit new (page_block old p) ≡ has_free_bit old (page_block old p)) → LawfulMap old → LawfulMap new
  map_after pages root page m = record {
    pages = pages;
    root_marked = ap (λ (n : ℕ). has_free_bit new (root_key n)) count ∙ root ∙ m.root_marked;
    pages_marked = λ p l. let a : p < pages_of old = omega (arith, pages_kept, l) in ap (has_free_bit new) (page_kept p a) ∙ page p a ∙ m.pages_marked p a;
  }

  module _ (pages_free : (p k : ℕ) → p < pages_of old → ¬ changed (page_block old p) k) where
    pub mark_kept : (c : ℕ) → HasBit old c → has_free_bit new c ≡ has_free_bit old c
    mark_kept = marks.mark_kept changed old new h page_kept (λ p k within l. pages_free p k within)

    pub lawful_pages_kept : LawfulPages old → LawfulPages new
    lawful_pages_kept m = lawful_kept old new m count page_kept

    pub map_kept : 16 ≤ block_count old → LawfulMap old → LawfulMap new
    map_kept many m =
        map_after (lawful_pages_kept m.pages) (mark_kept (root_key (block_count old)) (bit_of_inside old (root_key (block_count old)) (omega arith, omega arith)))
        (λ p l. mark_kept (page_block old p) (bit_of_inside old (page_block old p) (m.pages.inside p l))) m

none_total : (n : ℕ) → total (λ k. 0) n ≡ 0
none_total zero = refl
none_total (suc n) = omega (arith, none_total n)

-- no block is free
pub none_counted : (image : List ℕ) → NoneFree image → free_bit_count image ≡ 0
none_counted image none =
    total-same (λ k. 0) (λ k. cond (has_free_bit image (k + 2)) 1 0) (block_count image - 2) (λ k l. ap (λ (v : Bool). cond v 1 0) (none (k + 2) (omega arith, omega arith)))
    ∙ none_total (block_count image - 2)

-- the marks are equal
pub as_many : (old new : List ℕ) → block_count new ≡ block_count old → ((j : ℕ) → IsInside (block_count old) j → has_free_bit new j ≡ has_free_bit old j) → free_bit_count new ≡ free_bit_count old
as_many old new same marks =
    ap (λ (n : ℕ). total (λ k. cond (has_free_bit new (k + 2)) 1 0) (n - 2)) same
    ∙ total-same (λ k. cond (has_free_bit old (k + 2)) 1 0) (λ k. cond (has_free_bit new (k + 2)) 1 0) (block_count old - 2) (λ k l. ap (λ (v : Bool). cond v 1 0) (marks (k + 2) (omega arith, omega arith)))

-- the marks are equal except for one block
module _ (old new : List ℕ) (b : ℕ) (inside : IsInside (block_count old) b) (same : block_count new ≡ block_count old) (others : (j : ℕ) → IsInside (block_count old) j → j ≢ b → has_free_bit new j ≡ has_free_bit old j) where
  one_mark : free_bit_count new + cond (has_free_bit old b) 1 0 ≡ free_bit_count old + cond (has_free_bit new b) 1 0
  one_mark =
      let place : b - 2 + 2 ≡ b = omega (arith, inside.0) in
      let count : free_bit_count new ≡ total (λ k. cond (has_free_bit new (k + 2)) 1 0) (block_count old - 2) = ap (λ (n : ℕ). total (λ k. cond (has_free_bit new (k + 2)) 1 0) (n - 2)) same in
      let one = total-one (λ k. cond (has_free_bit old (k + 2)) 1 0) (λ k. cond (has_free_bit new (k + 2)) 1 0) (b - 2) (block_count old - 2) (omega (arith, inside.0, inside.1))
      (λ j l ne. ap (λ (v : Bool). cond v 1 0) (others (j + 2) (omega arith, omega arith) (omega (arith, ne)))) in
      ap₂ (λ (n : ℕ) (v : Bool). n + cond v 1 0) count (ap (has_free_bit old) (sym place))
      ∙ one
      ∙ ap (λ (v : Bool). free_bit_count old + cond v 1 0) (ap (has_free_bit new) place)

  pub one_less : has_free_bit old b ≡ true → has_free_bit new b ≡ false → free_bit_count new + 1 ≡ free_bit_count old
  one_less was is =
      let one : ◌≡◌ {A = ℕ} (cond (has_free_bit old b) 1 0) 1 = ap (λ (v : Bool). cond v 1 0) was in
      let none : ◌≡◌ {A = ℕ} (cond (has_free_bit new b) 1 0) 0 = ap (λ (v : Bool). cond v 1 0) is in
      omega (arith, one_mark, none, one)

  pub one_more : has_free_bit old b ≡ false → has_free_bit new b ≡ true → free_bit_count new ≡ free_bit_count old + 1
  one_more was is =
      let none : ◌≡◌ {A = ℕ} (cond (has_free_bit old b) 1 0) 0 = ap (λ (v : Bool). cond v 1 0) was in
      let one : ◌≡◌ {A = ℕ} (cond (has_free_bit new b) 1 0) 1 = ap (λ (v : Bool). cond v 1 0) is in
      omega (arith, one_mark, none, one)
