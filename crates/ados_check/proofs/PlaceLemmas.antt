-- The places of each role, by the index of the long.
use Rattle.ados_check.proofs.Common.{◌≡◌, ◌↔◌, Some, ℕ, ◌+◌, ◌-◌, ◌<◌, ◌≤◌, List, refl, sym, ap, ◌∙◌, subst, arith, same_Some, block_count, page_count, secondary_type, Role, Root, Page, Entry, Data, Extension, IsPlace, root_page, root_slot, directory_slot, next_entry, header_pointer, first_extension, extension_pointer, further_extension, cond, ltb, cond_above, cond_below}

-- a place of a root
pub data OfRoot (image : List ℕ) (block i : ℕ) (next : Role) : Type 0 where
  of_page : 79 ≤ i → next ≡ Page → OfRoot image block i next
  of_slot : 6 ≤ i → i < 78 → next ≡ Entry block (i - 6) → OfRoot image block i next

pub of_root : {image : List ℕ} {block i : ℕ} {next : Role} → IsPlace image block Root i next → OfRoot image block i next
of_root (root_page l) = of_page (omega arith) refl
of_root {block = b} (root_slot {s = s} l n) = of_slot (omega arith) (omega arith) (ap (Entry b) (omega arith))

-- the last long of a block is no place
pub place_within : {image : List ℕ} {block i : ℕ} {role next : Role} → IsPlace image block role i next → page_count (block_count image) ≤ 25 → (6 ≤ i) × (i < 127)
place_within (root_page l) h = (omega arith, omega arith)
place_within (root_slot l n) h = (omega arith, omega arith)
place_within (directory_slot e l n) h = (omega arith, omega arith)
place_within (next_entry n) h = (omega arith, omega arith)
place_within (header_pointer e p) h = (omega arith, omega arith)
place_within (first_extension e n) h = (omega arith, omega arith)
place_within (extension_pointer p) h = (omega arith, omega arith)
place_within (further_extension n) h = (omega arith, omega arith)

-- the role that a place gives, by the type of its block and the index of the long
abbrev named_as : Role → ℕ → ℕ → ℕ → Role
named_as Root block kind i = cond (ltb i 78) (Entry block (i - 6)) Page
named_as (Entry dir s) block kind i = cond (ltb i 78) (cond (ltb kind 3) (Entry block (i - 6)) (Data block)) (cond (ltb i 125) (Entry dir s) (Extension block))
named_as (Extension file) block kind i = cond (ltb i 78) (Data file) (Extension file)
named_as role block kind i = role

named_is : {image : List ℕ} {block i : ℕ} {role next : Role} → IsPlace image block role i next → next ≡ named_as role block (secondary_type image block) i
named_is {block = b} (root_page {i = i} l) = cond_above (79 + i) 78 (Entry b (79 + i - 6)) Page Page (omega arith) refl
named_is {block = b} (root_slot {s = s} l n) = let e : s ≡ 6 + s - 6 = omega arith in ap (Entry b) e ∙ cond_below (6 + s) 78 (Entry b (6 + s - 6)) Page (omega (arith, l))
named_is {image} {block = b} (directory_slot {dir = dir} {r = r} {s = s} e l n) =
    let slot : s ≡ 6 + s - 6 = omega arith in
    ap (Entry b) slot ∙ cond_below (secondary_type image b) 3 (Entry b (6 + s - 6)) (Data b) (omega (arith, e))
    ∙ cond_below (6 + s) 78 (cond (ltb (secondary_type image b) 3) (Entry b (6 + s - 6)) (Data b)) (cond (ltb (6 + s) 125) (Entry dir r) (Extension b)) (omega (arith, l))
named_is (next_entry n) = refl
named_is {image} {block = b} (header_pointer {dir = dir} {s = s} {i = i} e p) =
    cond_above (secondary_type image b) 3 (Entry b (77 - i - 6)) (Data b) (Data b) (omega (arith, e)) refl
    ∙ cond_below (77 - i) 78 (cond (ltb (secondary_type image b) 3) (Entry b (77 - i - 6)) (Data b)) (cond (ltb (77 - i) 125) (Entry dir s) (Extension b)) (omega arith)
named_is (first_extension e n) = refl
named_is (extension_pointer {file = file} {i = i} p) = cond_below (77 - i) 78 (Data file) (Extension file) (omega arith)
named_is (further_extension n) = refl

-- a place gives one role
pub is_only : {image : List ℕ} {block i j : ℕ} {role next : Role} → j ≡ i → IsPlace image block role j next → (other : Role) → (Some next ≡ Some other) ↔ IsPlace image block role i other
is_only {image} {block} {i} {j} {role} {next} e place other =
    let here : IsPlace image block role i next = subst (λ (k : ℕ). IsPlace image block role k next) e place in
    (λ same. subst (IsPlace image block role i) (same_Some next other same) here, λ p. ap (λ (r : Role). Some r) (named_is here ∙ sym (named_is p)))
