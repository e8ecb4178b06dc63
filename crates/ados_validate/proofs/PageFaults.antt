-- The bitmap blocks of an image that shows only faults which a new bitmap mends.
use Rattle.ados_validate.proofs.Common.{◌≡◌, ℕ, ◌+◌, ◌<◌, ◌⊎◌, inl, inr, Bool, true, false, List, refl, sym, ap, ◌∙◌, arith, Page, outside, cases_eq, cases_lt, IsInside, block_count, LawfulPages, page_block, pages_of, BadPointer, BadSum, BlockUsedTwice, MarkedFree, Root, InImage, PlaceNames, Shows, root_of, root_page, root_named, two_longs, start, ShowsOnlyMendable, MendableHasPages}
use Rattle.ados_model.specs.declared.fault.FaultKind.{FaultKind}

inside_or_not : (n b : ℕ) → IsInside n b ⊎ ¬ IsInside n b
inside_or_not n b = elim (cases_lt b 2) [
  | inl l ↦ inr (λ h. omega (arith, h.0, l))
  | inr l ↦ elim (cases_lt b n) [ inl m ↦ inl (l, m) | inr m ↦ inr (λ h. omega (arith, h.1, m)) ]
]

-- a new bitmap may mend a fault of the kind
abbrev pub is_mended_kind : FaultKind → Bool
is_mended_kind MarkedFree = true
is_mended_kind BadSum = true
is_mended_kind _ = false

module _ (image : List ℕ) (only : ShowsOnlyMendable image) where
  -- a fault of another kind is not shown
  pub not_shown : (kind : FaultKind) (block : ℕ) → is_mended_kind kind ≡ false → ¬ Shows image kind block
  not_shown kind block other h = elim (only kind block h) [
    | inl e ↦ let no : false ≡ true = sym other ∙ ap is_mended_kind e in cc no
    | inr e ↦ let no : false ≡ true = sym other ∙ ap is_mended_kind e.0 in cc no
  ]

  names_page : (p : ℕ) → p < pages_of image → PlaceNames image (root_of image) (79 + p) (page_block image p)
  names_page p l = record { role = Root; next = Page; reached = start; place = root_page l; names = refl }

  page_inside : (p : ℕ) → p < pages_of image → InImage image (page_block image p)
  page_inside p l = elim (inside_or_not (block_count image) (page_block image p)) [
    | inl h ↦ h
    | inr n ↦ absurd (not_shown BadPointer (root_of image) refl (outside {i = 79 + p} start (root_page l) n))
  ]

  -- two longs of the root that name one block are one long
  used_once : (p q : ℕ) → p < pages_of image → q < pages_of image → page_block image p ≡ page_block image q → p ≡ q
  used_once p q l m e = elim (cases_eq p q) [
    | inl same ↦ same
    | inr n ↦
        let other : PlaceNames image (root_of image) (79 + q) (page_block image p) = record { role = Root; next = Page; reached = start; place = root_page m; names = sym e } in
        absurd (not_shown BlockUsedTwice (page_block image p) refl (two_longs (page_inside p l) (names_page p l) other (λ z. n (omega (arith, z)))))
  ]

  pub mendable_pages : LawfulPages image
  mendable_pages = record {
    inside = page_inside;
    apart = used_once;
    beside_root = λ p l e. not_shown BlockUsedTwice (page_block image p) refl (root_named e (names_page p l));
  }

pub mendable_has_pages : MendableHasPages
mendable_has_pages image only = mendable_pages image only
