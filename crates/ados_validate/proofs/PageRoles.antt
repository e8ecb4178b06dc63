-- The reached bitmap blocks are those that the root names.
use Rattle.ados_validate.proofs.Common.{◌≡◌, ℕ, ◌+◌, ◌<◌, List, refl, sym, ap₂, subst, Page, block_count, long, page_count, LawfulPages, Role, Root, IsPlace, Reached, root_of, directory_slot, extension_pointer, first_extension, further_extension, header_pointer, next_entry, root_page, root_slot, named, start, only_root, IsPage}

-- a place that names a bitmap block
record PageLong (image : List ℕ) (i : ℕ) (role : Role) : Type 0 where
  is_root : role ≡ Root
  p : ℕ
  within : p < page_count (block_count image)
  at : i ≡ 79 + p

page_long : {image : List ℕ} {block i : ℕ} {role next : Role} → IsPlace image block role i next → next ≡ Page → PageLong image i role
page_long (root_page {i = p} l) z = record { is_root = refl; p = p; within = l; at = refl }
page_long (root_slot l n) z = absurd (cc z)
page_long (directory_slot e l n) z = absurd (cc z)
page_long (next_entry n) z = absurd (cc z)
page_long (header_pointer e p) z = absurd (cc z)
page_long (first_extension e n) z = absurd (cc z)
page_long (extension_pointer p) z = absurd (cc z)
page_long (further_extension n) z = absurd (cc z)

pub page_of_reached : {image : List ℕ} {block : ℕ} {role : Role} → Reached image block role → role ≡ Page → IsPage image block
page_of_reached start z = absurd (cc z)
page_of_reached {image = image} (named {block = b} {i = i} h q inside) z =
    let at = page_long q z in
    let root : b ≡ root_of image = only_root h at.is_root in
    (at.p, at.within, ap₂ (λ (c j : ℕ). long image c j) (sym root) (sym at.at))

pub reached_of_page : (image : List ℕ) → LawfulPages image → (block : ℕ) → IsPage image block → Reached image block Page
reached_of_page image pages block h = subst (λ (b : ℕ). Reached image b Page) h.2 (named start (root_page h.1) (pages.inside h.0 h.1))
