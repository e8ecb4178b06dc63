-- Longs that are namings, by the tests of the code.
use Rattle.std.proofs.Common.{ℕ, ◌+◌, ◌-◌, ◌*◌, ◌/◌, ◌%◌, ◌<◌, ◌≤◌, ◌≡◌, ◌≢◌, Bool, true, false, ◌&&◌, ◌||◌, ◌==◌, nat_le, not, nat_lt, if◌then◌else◌, List, refl, sym, ap, ap₂, ◌∙◌, subst, arith, inl, inr, Option, Some, None}
use Rattle.std.specs.Option.{option_map_or}
use Rattle.std.proofs.lemmas.Bool.{and_parts, cases_Bool, eqb-false, eqb-true, le-leb, leb-true, lt-ltb, ltb-true, not-true, or_cases, or_left, or_right}
use Rattle.std.proofs.lemmas.Option.{none-some, same_Some}
use Rattle.adf_block.specs.Image.{block_count, long, page_count}
use Rattle.adf_block.specs.Fields.{pointer_count, secondary_type}
use Rattle.ados_model.specs.declared.role.Role.{Role}
use Rattle.ados_model.specs.declared.role.Role.TheVariants.{Root, Page, Entry, Data, Extension}
use Rattle.ados_model.specs.Faults.{InImage, IsPlace, Reached, root_of}
use Rattle.ados_model.specs.Faults.IsPlace.{directory_slot, extension_pointer, first_extension, further_extension, header_pointer, next_entry, root_page, root_slot}
use Rattle.ados_check.proofs.Roles.{only_root}
use Rattle.ados_census.specs.Namings.{CouldBe, IsNaming, Names}
use Rattle.ados_census.specs.Namings.CouldBe.{as_entry, as_extension, as_root}
unfoldable use Rattle.ados_census.specs.steps.Below.{named_by}
use Rattle.ados_census.specs.steps.Below.{is_inside, is_link, is_page_long, is_pointer, is_slot, may_name, named_at, names}

both : (x y : Bool) → x ≡ true → y ≡ true → (x && y) ≡ true
both x y p q = ap₂ (λ (a b : Bool). a && b) p q

eqb_same : (a b : ℕ) → a ≡ b → (a == b) ≡ true
eqb_same a b e = elim (cases_Bool (a == b)) [
  | inl is ↦ is
  | inr not ↦ absurd (eqb-false a b not e)
]

module _ (image : List ℕ) where
  -- only the root could be the root
  root_only : {block : ℕ} {role : Role} → CouldBe image block role → role ≡ Root → block ≡ root_of image
  root_only as_root e = refl
  root_only as_entry e = absurd (cc e)
  root_only as_extension e = absurd (cc e)

  is_in : (block : ℕ) → is_inside image block ≡ true → InImage image block
  is_in block h =
      let parts = and_parts (nat_le 2 block) (nat_lt block (block_count image)) h in
      (leb-true 2 block parts.0, ltb-true block (block_count image) parts.1)

  in_is : (block : ℕ) → InImage image block → is_inside image block ≡ true
  in_is block h = both (nat_le 2 block) (nat_lt block (block_count image)) (le-leb 2 block h.0) (lt-ltb block (block_count image) h.1)

  -- a place that the block has in a role that it could have
  abbrev HasPlace : ℕ → ℕ → Type 0
  HasPlace block i = (role : Role) × (next : Role) × CouldBe image block role × IsPlace image block role i next

  not_zero : (block i j : ℕ) → j ≡ i → long image block i ≢ 0 → long image block j ≢ 0
  not_zero block i j e other z = other (sym (ap (long image block) e) ∙ z)

  pointer_place : (block i : ℕ) → is_pointer image block i ≡ true → HasPlace block i
  pointer_place block i h =
      let parts = and_parts (nat_le i 77) (nat_lt (77 - i) (pointer_count image block) && nat_le (pointer_count image block) 72) h in
      let more = and_parts (nat_lt (77 - i) (pointer_count image block)) (nat_le (pointer_count image block) 72) parts.1 in
      let at : 77 - (77 - i) ≡ i = omega (arith, leb-true i 77 parts.0) in (
        Extension 0,
        Data 0,
        as_extension,
        subst (λ (j : ℕ). IsPlace image block (Extension 0) j (Data 0)) at
            (extension_pointer (ltb-true (77 - i) (pointer_count image block) more.0, leb-true (pointer_count image block) 72 more.1)),
      )

  slot_place : (block i : ℕ) → is_slot image block i ≡ true → long image block i ≢ 0 → HasPlace block i
  slot_place block i h l =
      let parts = and_parts (nat_le 6 i) (nat_le i 77 && ((secondary_type image block == 2) || (block == root_of image))) h in
      let more = and_parts (nat_le i 77) ((secondary_type image block == 2) || (block == root_of image)) parts.1 in
      let low : 6 ≤ i = leb-true 6 i parts.0 in
      let high : i ≤ 77 = leb-true i 77 more.0 in
      let at : 6 + (i - 6) ≡ i = omega (arith, low) in
      let small : i - 6 < 72 = omega (arith, low, high) in
      elim (or_cases (secondary_type image block == 2) (block == root_of image) more.1) [
        | inl dir ↦ (
          Entry 0 0,
          Entry block (i - 6),
          as_entry,
          subst (λ (j : ℕ). IsPlace image block (Entry 0 0) j (Entry block (i - 6))) at
              (directory_slot {dir = 0} {r = 0} (eqb-true (secondary_type image block) 2 dir) small (not_zero block i (6 + (i - 6)) at l)),
        )
        | inr root ↦ (
          Root,
          Entry block (i - 6),
          subst (λ (b : ℕ). CouldBe image b Root) (sym (eqb-true block (root_of image) root)) as_root,
          subst (λ (j : ℕ). IsPlace image block Root j (Entry block (i - 6))) at (root_slot small (not_zero block i (6 + (i - 6)) at l)),
        )
      ]

  page_place : (block i : ℕ) → is_page_long image block i ≡ true → HasPlace block i
  page_place block i h =
      let parts = and_parts (block == root_of image) (nat_le 79 i && nat_lt (i - 79) (page_count (block_count image))) h in
      let more = and_parts (nat_le 79 i) (nat_lt (i - 79) (page_count (block_count image))) parts.1 in
      let at : 79 + (i - 79) ≡ i = omega (arith, leb-true 79 i more.0) in (
        Root,
        Page,
        subst (λ (b : ℕ). CouldBe image b Root) (sym (eqb-true block (root_of image) parts.0)) as_root,
        subst (λ (j : ℕ). IsPlace image block Root j Page) at (root_page (ltb-true (i - 79) (page_count (block_count image)) more.1)),
      )

  chain_place : (block i : ℕ) → i ≡ 124 → long image block i ≢ 0 → HasPlace block i
  chain_place block i e l = (
    Entry 0 0,
    Entry 0 0,
    as_entry,
    subst (λ (j : ℕ). IsPlace image block (Entry 0 0) j (Entry 0 0)) (sym e) (next_entry (not_zero block i 124 (sym e) l)),
  )

  extension_place : (block i : ℕ) → i ≡ 126 → long image block i ≢ 0 → HasPlace block i
  extension_place block i e l = (
    Extension 0,
    Extension 0,
    as_extension,
    subst (λ (j : ℕ). IsPlace image block (Extension 0) j (Extension 0)) (sym e) (further_extension (not_zero block i 126 (sym e) l)),
  )

  link_place : (block i : ℕ) → is_link image block i ≡ true → HasPlace block i
  link_place block i h =
      let parts = and_parts ((i == 124) || ((i == 126) || is_slot image block i)) (not (long image block i == 0)) h in
      let other : long image block i ≢ 0 = λ z. eqb-false (long image block i) 0 (not-true (long image block i == 0) parts.1) z in
      elim (or_cases (i == 124) ((i == 126) || is_slot image block i) parts.0) [
        | inl chain ↦ chain_place block i (eqb-true i 124 chain) other
        | inr h ↦ elim (or_cases (i == 126) (is_slot image block i) h) [
          | inl extension ↦ extension_place block i (eqb-true i 126 extension) other
          | inr slot ↦ slot_place block i slot other
        ]
      ]

  place_of : (block i : ℕ) → may_name image block i ≡ true → HasPlace block i
  place_of block i h = elim (or_cases (is_link image block i) (is_pointer image block i || is_page_long image block i) h) [
    | inl link ↦ link_place block i link
    | inr h ↦ elim (or_cases (is_pointer image block i) (is_page_long image block i) h) [
      | inl pointer ↦ pointer_place block i pointer
      | inr page ↦ page_place block i page
    ]
  ]

  by_link : (block i : ℕ) → ((i == 124) || ((i == 126) || is_slot image block i)) ≡ true → long image block i ≢ 0 → may_name image block i ≡ true
  by_link block i h other =
      let differs : (long image block i == 0) ≡ false =
      elim (cases_Bool (long image block i == 0)) [
        | inl zero ↦ absurd (other (eqb-true (long image block i) 0 zero))
        | inr is ↦ is
      ] in
      or_left (is_link image block i) (is_pointer image block i || is_page_long image block i)
      (both ((i == 124) || ((i == 126) || is_slot image block i)) (not (long image block i == 0)) h (ap (λ (b : Bool). not b) differs))

  by_slot : (block i : ℕ) → is_slot image block i ≡ true → long image block i ≢ 0 → may_name image block i ≡ true
  by_slot block i h = by_link block i (or_right (i == 124) ((i == 126) || is_slot image block i) (or_right (i == 126) (is_slot image block i) h))

  by_pointer : (block i : ℕ) → is_pointer image block i ≡ true → may_name image block i ≡ true
  by_pointer block i h =
      or_right (is_link image block i) (is_pointer image block i || is_page_long image block i) (or_left (is_pointer image block i) (is_page_long image block i) h)

  by_page : (block i : ℕ) → is_page_long image block i ≡ true → may_name image block i ≡ true
  by_page block i h =
      or_right (is_link image block i) (is_pointer image block i || is_page_long image block i) (or_right (is_pointer image block i) (is_page_long image block i) h)

  -- a pointer in use, counted from the end of the table
  pointer_is : (block i : ℕ) → (i < pointer_count image block) × (pointer_count image block ≤ 72) → is_pointer image block (77 - i) ≡ true
  pointer_is block i p =
      let at : 77 - (77 - i) < pointer_count image block = omega (arith, p.0, p.1) in
      both (nat_le (77 - i) 77) (nat_lt (77 - (77 - i)) (pointer_count image block) && nat_le (pointer_count image block) 72) (le-leb (77 - i) 77 (omega arith))
      (both (nat_lt (77 - (77 - i)) (pointer_count image block)) (nat_le (pointer_count image block) 72) (lt-ltb (77 - (77 - i)) (pointer_count image block) at) (le-leb (pointer_count image block) 72 p.1))

  slot_is : (block s : ℕ) → s < 72 → ((secondary_type image block == 2) || (block == root_of image)) ≡ true → is_slot image block (6 + s) ≡ true
  slot_is block s l h =
      both (nat_le 6 (6 + s)) (nat_le (6 + s) 77 && ((secondary_type image block == 2) || (block == root_of image))) (le-leb 6 (6 + s) (omega arith))
      (both (nat_le (6 + s) 77) ((secondary_type image block == 2) || (block == root_of image)) (le-leb (6 + s) 77 (omega (arith, l))) h)

  page_is : (block p : ℕ) → p < page_count (block_count image) → block ≡ root_of image → is_page_long image block (79 + p) ≡ true
  page_is block p l e =
      let at : 79 + p - 79 < page_count (block_count image) = omega (arith, l) in
      both (block == root_of image) (nat_le 79 (79 + p) && nat_lt (79 + p - 79) (page_count (block_count image))) (eqb_same block (root_of image) e)
      (both (nat_le 79 (79 + p)) (nat_lt (79 + p - 79) (page_count (block_count image))) (le-leb 79 (79 + p) (omega arith)) (lt-ltb (79 + p - 79) (page_count (block_count image)) at))

  place_may : {block i : ℕ} {role next : Role} → IsPlace image block role i next → CouldBe image block role → may_name image block i ≡ true
  place_may (root_page {block = b} {i = p} l) could = by_page b (79 + p) (page_is b p l (root_only could refl))
  place_may (root_slot {block = b} {s = s} l h) could =
      by_slot b (6 + s) (slot_is b s l (or_right (secondary_type image b == 2) (b == root_of image) (eqb_same b (root_of image) (root_only could refl)))) h
  place_may (directory_slot {block = b} {s = s} y l h) could =
      by_slot b (6 + s) (slot_is b s l (or_left (secondary_type image b == 2) (b == root_of image) (eqb_same (secondary_type image b) 2 y))) h
  place_may (next_entry {block = b} h) could = by_link b 124 refl h
  place_may (header_pointer {block = b} {i = i} y p) could = by_pointer b (77 - i) (pointer_is b i p)
  place_may (first_extension {block = b} y h) could = by_link b 126 refl h
  place_may (extension_pointer {block = b} {i = i} p) could = by_pointer b (77 - i) (pointer_is b i p)
  place_may (further_extension {block = b} h) could = by_link b 126 refl h

  abbrev holds : ℕ → ℕ → Bool
  holds holder i = nat_lt (long image holder i) (block_count image) && (is_inside image holder && may_name image holder i)

  -- a naming names the block whose number it has
  pub naming_names : (holder i : ℕ) → IsNaming image holder i → named_by image holder i ≡ Some (long image holder i)
  unfolding named_by
  naming_names holder i n =
      let is : holds holder i ≡ true =
      both (nat_lt (long image holder i) (block_count image)) (is_inside image holder && may_name image holder i) (lt-ltb (long image holder i) (block_count image) n.leads)
      (both (is_inside image holder) (may_name image holder i) (in_is holder n.inside) (place_may n.is_place n.could_be)) in
      ap (λ (b : Bool). if b then Some (long image holder i) else None) is

  -- what is named is the number of a naming
  pub named_is : (holder i block : ℕ) → named_by image holder i ≡ Some block → IsNaming image holder i × (long image holder i ≡ block)
  unfolding named_by
  named_is holder i block h = go (holds holder i) refl h
    where
      go : (b : Bool) → holds holder i ≡ b → (if b then Some (long image holder i) else None) ≡ Some block → IsNaming image holder i × (long image holder i ≡ block)
      go false e h = absurd (none-some block h)
      go true e h =
          let parts = and_parts (nat_lt (long image holder i) (block_count image)) (is_inside image holder && may_name image holder i) e in
          let more = and_parts (is_inside image holder) (may_name image holder i) parts.1 in
          let leads = ltb-true (long image holder i) (block_count image) parts.0 in
          let place = place_of holder i more.1 in
          (record { inside = is_in holder more.0; role = place.0; could_be = place.2; next = place.1; is_place = place.3; leads = leads }, same_Some (long image holder i) block h)

  -- the namings of a block, by the test
  pub names_is : (block number : ℕ) → names image block number ≡ true → Names image block number
  names_is block number h = go (named_at image number) refl h
    where
      go : (o : Option ℕ) → named_at image number ≡ o → option_map_or (λ (named : ℕ). named == block) o false ≡ true → Names image block number
      go None e h = absurd (cc h)
      go (Some other) e h =
          let is = named_is (number / 128) (number % 128) other e in
          record { is_naming = is.0; names = is.1 ∙ eqb-true other block h }

  pub is_names : (block number : ℕ) → Names image block number → names image block number ≡ true
  is_names block number n =
      ap (λ (o : Option ℕ). option_map_or (λ (named : ℕ). named == block) o false) (naming_names (number / 128) (number % 128) n.is_naming)
      ∙ eqb_same (long image (number / 128) (number % 128)) block n.names

  -- what a number names
  pub names_one : (block number : ℕ) → named_at image number ≡ Some block → names image block number ≡ true
  names_one block number h = ap (λ (o : Option ℕ). option_map_or (λ (named : ℕ). named == block) o false) h ∙ eqb_same block block refl

  pub names_no_other : (block other number : ℕ) → named_at image number ≡ Some block → other ≢ block → names image other number ≡ false
  names_no_other block other number h apart =
      ap (λ (o : Option ℕ). option_map_or (λ (named : ℕ). named == other) o false) h
      ∙ elim (cases_Bool (block == other)) [
        | inl same ↦ absurd (apart (sym (eqb-true block other same)))
        | inr differs ↦ differs
      ]

  pub names_none : (block number : ℕ) → named_at image number ≡ None → names image block number ≡ false
  names_none block number h = ap (λ (o : Option ℕ). option_map_or (λ (named : ℕ). named == block) o false) h

  pub named_inside : (block number : ℕ) → named_at image number ≡ Some block → block < block_count image
  named_inside block number h =
      let is = named_is (number / 128) (number % 128) block h in
      subst (λ (b : ℕ). b < block_count image) is.1 is.0.leads

  -- the numbers of namings have holders in the image
  pub number_small : (block number : ℕ) → Names image block number → number < 128 * block_count image
  number_small block number n = omega (arith, n.is_naming.inside.1)

-- a reached block could have its role, if the role has places
could_be : {image : List ℕ} {block i : ℕ} {role next : Role} → Reached image block role → IsPlace image block role i next → CouldBe image block role
could_be {image} reached (root_page {block = b} l) = subst (λ (c : ℕ). CouldBe image c Root) (sym (only_root reached refl)) as_root
could_be {image} reached (root_slot {block = b} l h) = subst (λ (c : ℕ). CouldBe image c Root) (sym (only_root reached refl)) as_root
could_be reached (directory_slot y l h) = as_entry
could_be reached (next_entry h) = as_entry
could_be reached (header_pointer y p) = as_entry
could_be reached (first_extension y h) = as_entry
could_be reached (extension_pointer p) = as_extension
could_be reached (further_extension h) = as_extension

pub places_are_namings : (image : List ℕ) (block i : ℕ) (role next : Role)
    → InImage image block → Reached image block role → IsPlace image block role i next → long image block i < block_count image → IsNaming image block i
places_are_namings image block i role next inside reached place leads =
    record { inside = inside; role = role; could_be = could_be reached place; next = next; is_place = place; leads = leads }
