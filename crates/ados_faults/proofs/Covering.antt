-- The numbers in the roles of a block that a walk takes, and the roles that its steps cover.
use Rattle.ados_faults.proofs.Common.{◌≡◌, ◌≢◌, ℕ, ◌+◌, ◌*◌, ◌<◌, ◌==◌, inl, inr, true, false, List, [], ◌∷◌, length, get_or, replicate, Some, set, refl, sym, ap, ◌∙◌, subst, arith, get_or-set_same, get_or-set_other, cases_eq, eqb-true, eqb-false, false≢true, not-true, not-false, get_or_default, none-some, same_Some, Role, Root, Page, Entry, Data, Extension, Part, Bitmap, Directory, Slot, DataFile, ExtensionFile, Taken, Step, AreBacked, AreCoveredBy, HasNumber, HasTwo, IsBacked, IsCovered, IsListed, lacks, number_of, part_rank, step_of, taken_at, with_number, Nothing, One, Two}
use Rattle.ados_faults.proofs.Firsts.{each_same}

-- ---- the cells of the parts

all_parts : List Part
all_parts = Bitmap ∷ Directory ∷ Slot ∷ DataFile ∷ ExtensionFile ∷ []

ranked : (part : Part) → (part_rank part < 5) × (get_or all_parts (part_rank part) Bitmap ≡ part)
unfolding all_parts
ranked Bitmap = (omega arith, refl)
ranked _ = (omega arith, refl)

pub part_small : (part : Part) → part_rank part < 5
part_small part = (ranked part).0

-- a cell belongs to one part of one block
one_cell : (part other : Part) (block b : ℕ) → 5 * block + part_rank part ≡ 5 * b + part_rank other → (part ≡ other) × (block ≡ b)
one_cell part other block b e =
    let k = part_small part in
    let o = part_small other in
    let blocks : block ≡ b = omega (arith, k, o, e) in
    let ranks : part_rank part ≡ part_rank other = omega (arith, e, blocks) in
    (sym (ranked part).1 ∙ ap (λ (r : ℕ). get_or all_parts r Bitmap) ranks ∙ (ranked other).1, blocks)

-- ---- one number more

new_number : (steps : List Step) (block : ℕ) (part : Part) (n : ℕ) (taken : Taken) → lacks n taken ≡ true → IsBacked steps block part taken → HasNumber steps block part n → IsBacked steps block part (with_number n taken)
new_number steps block part n Nothing new back has = has
new_number steps block part n (One m) new back has = record {
  first = m;
  second = n;
  apart = λ e. eqb-false m n (not-true (m == n) new) e;
  one = back;
  other = has;
}
new_number steps block part n Two new back has = absurd (false≢true new)

old_number : (steps : List Step) (block : ℕ) (part : Part) (n : ℕ) (taken : Taken) → lacks n taken ≡ false → IsBacked steps block part taken → IsCovered steps block part n
old_number steps block part n Nothing old back = absurd (false≢true (sym old))
old_number steps block part n (One m) old back = inl (subst (HasNumber steps block part) (eqb-true m n (not-false (m == n) old)) back)
old_number steps block part n Two old back = inr back

pub backed_set : (cells : List Taken) (steps : List Step) (block : ℕ) (part : Part) (n : ℕ) → 5 * block + part_rank part < length cells → lacks n (taken_at cells block part) ≡ true → AreBacked cells steps
    → HasNumber steps block part n → AreBacked (set cells (5 * block + part_rank part) (with_number n (taken_at cells block part))) steps
backed_set cells steps block part n within new back has = record { backed = go }
  where
    go : (b : ℕ) (p : Part) → IsBacked steps b p (taken_at (set cells (5 * block + part_rank part) (with_number n (taken_at cells block part))) b p)
    go b p = elim (cases_eq (5 * b + part_rank p) (5 * block + part_rank part)) [
      | inl here ↦
          let same = one_cell p part b block here in
          subst (λ (q : Part). IsBacked steps b q (taken_at (set cells (5 * block + part_rank part) (with_number n (taken_at cells block part))) b q)) (sym same.0)
          (subst (λ (x : ℕ). IsBacked steps x part (taken_at (set cells (5 * block + part_rank part) (with_number n (taken_at cells block part))) x part)) (sym same.1)
          (subst (IsBacked steps block part) (sym (get_or-set_same cells (5 * block + part_rank part) (with_number n (taken_at cells block part)) Nothing within))
          (new_number steps block part n (taken_at cells block part) new (back.backed block part) has)))
      | inr apart ↦
          subst (IsBacked steps b p) (sym (get_or-set_other cells (5 * block + part_rank part) (5 * b + part_rank p) (with_number n (taken_at cells block part)) Nothing apart)) (back.backed b p)
    ]

pub taken_read : (cells : List Taken) (block : ℕ) (part : Part) (r : ℕ) (x : Taken) → r ≡ part_rank part → 5 * block + r < length cells → x ≡ get_or cells (5 * block + r) x → taken_at cells block part ≡ x
taken_read cells block part r x is l e = ap (λ (n : ℕ). get_or cells (5 * block + n) Nothing) (sym is) ∙ get_or_default cells (5 * block + r) Nothing x l ∙ sym e

pub covered_old : (cells : List Taken) (steps : List Step) (block : ℕ) (part : Part) (n : ℕ) → lacks n (taken_at cells block part) ≡ false → AreBacked cells steps → IsCovered steps block part n
covered_old cells steps block part n old back = old_number steps block part n (taken_at cells block part) old (back.backed block part)

pub none_backed : (n : ℕ) (steps : List Step) → AreBacked (replicate n Nothing) steps
none_backed n steps = record { backed = λ block part. subst (IsBacked steps block part) (sym (each_same n (5 * block + part_rank part) Nothing)) tt }

-- ---- the numbers of each kind of role

pub number_here : (steps : List Step) (block : ℕ) (role : Role) (part : Part) (n : ℕ) → IsListed steps (step_of block role) → number_of part role ≡ Some n → HasNumber steps block part n
number_here steps block role part n at is = record { role = role; listed = at; number = is }

-- a listed role covers itself
pub covered_here : (steps : List Step) (block : ℕ) (role : Role) → IsListed steps (step_of block role) → AreCoveredBy steps block role
covered_here steps block role at = record { covered = λ part n is. inl (number_here steps block role part n at is) }

pub none_of_root : (part : Part) (n : ℕ) → number_of part Root ≡ Some n → ⊥
none_of_root Bitmap n h = none-some n h
none_of_root _ n h = none-some n h

module _ (steps : List Step) (block : ℕ) where
  pub root_covered : AreCoveredBy steps block Root
  root_covered = record { covered = λ part n h. absurd (none_of_root part n h) }

  pub page_covered : IsCovered steps block Bitmap 0 → AreCoveredBy steps block Page
  page_covered c = record { covered = go }
    where
      go : (part : Part) (n : ℕ) → number_of part Page ≡ Some n → IsCovered steps block part n
      go Bitmap n h = subst (IsCovered steps block Bitmap) (same_Some 0 n h) c
      go _ n h = absurd (none-some n h)

  pub entry_covered : (dir s : ℕ) → IsCovered steps block Directory dir → IsCovered steps block Slot s → AreCoveredBy steps block (Entry dir s)
  entry_covered dir s c d = record { covered = go }
    where
      go : (part : Part) (n : ℕ) → number_of part (Entry dir s) ≡ Some n → IsCovered steps block part n
      go Directory n h = subst (IsCovered steps block Directory) (same_Some dir n h) c
      go Slot n h = subst (IsCovered steps block Slot) (same_Some s n h) d
      go _ n h = absurd (none-some n h)

  pub data_covered : (file : ℕ) → IsCovered steps block DataFile file → AreCoveredBy steps block (Data file)
  data_covered file c = record { covered = go }
    where
      go : (part : Part) (n : ℕ) → number_of part (Data file) ≡ Some n → IsCovered steps block part n
      go DataFile n h = subst (IsCovered steps block DataFile) (same_Some file n h) c
      go _ n h = absurd (none-some n h)

  pub extension_covered : (file : ℕ) → IsCovered steps block ExtensionFile file → AreCoveredBy steps block (Extension file)
  extension_covered file c = record { covered = go }
    where
      go : (part : Part) (n : ℕ) → number_of part (Extension file) ≡ Some n → IsCovered steps block part n
      go ExtensionFile n h = subst (IsCovered steps block ExtensionFile) (same_Some file n h) c
      go _ n h = absurd (none-some n h)

-- the role with a number in a part
pub directory_role : (role : Role) (n : ℕ) → number_of Directory role ≡ Some n → (s : ℕ) × (role ≡ Entry n s)
directory_role (Entry d s) n h = (s, ap (λ (x : ℕ). Entry x s) (same_Some d n h))
directory_role _ n h = absurd (none-some n h)

pub slot_role : (role : Role) (n : ℕ) → number_of Slot role ≡ Some n → (d : ℕ) × (role ≡ Entry d n)
slot_role (Entry d s) n h = (d, ap (λ (x : ℕ). Entry d x) (same_Some s n h))
slot_role _ n h = absurd (none-some n h)

pub data_role : (role : Role) (n : ℕ) → number_of DataFile role ≡ Some n → role ≡ Data n
data_role (Data f) n h = ap (λ (x : ℕ). Data x) (same_Some f n h)
data_role _ n h = absurd (none-some n h)

pub extension_role : (role : Role) (n : ℕ) → number_of ExtensionFile role ≡ Some n → role ≡ Extension n
extension_role (Extension f) n h = ap (λ (x : ℕ). Extension x) (same_Some f n h)
extension_role _ n h = absurd (none-some n h)

pub page_role : (role : Role) (n : ℕ) → number_of Bitmap role ≡ Some n → role ≡ Page
page_role Page n h = refl
page_role _ n h = absurd (none-some n h)

-- ---- what covers a number

module _ (steps : List Step) where
  -- some step has a number in the part
  pub some_number : (block : ℕ) (part : Part) (n : ℕ) → IsCovered steps block part n → (m : ℕ) × HasNumber steps block part m
  some_number block part n (inl has) = (n, has)
  some_number block part n (inr two) = (two.first, two.one)

  -- some step has another number in the part than a field has
  pub other_number : (block : ℕ) (part : Part) (n field : ℕ) → field ≢ n → IsCovered steps block part n → (m : ℕ) × (HasNumber steps block part m × (field ≢ m))
  other_number block part n field apart (inl has) = (n, (has, apart))
  other_number block part n field apart (inr two) = elim (cases_eq field two.first) [
    | inr ne ↦ (two.first, (two.one, ne))
    | inl is ↦ (two.second, (two.other, λ e. two.apart (sym is ∙ e)))
  ]

  -- from a block to one that its places name in the same roles
  pub carried : (block target : ℕ) (part other : Part) → ((role : Role) (m : ℕ) → IsListed steps (step_of block role) → number_of part role ≡ Some m → IsCovered steps target other m)
      → (n : ℕ) → IsCovered steps block part n → IsCovered steps target other n
  carried block target part other next n (inl has) = next has.role n has.listed has.number
  carried block target part other next n (inr two) = both (next two.one.role two.first two.one.listed two.one.number) (next two.other.role two.second two.other.listed two.other.number)
    where
      both : IsCovered steps target other two.first → IsCovered steps target other two.second → IsCovered steps target other n
      both (inr t) c = inr t
      both (inl a) (inr t) = inr t
      both (inl a) (inl b) = inr (record { first = two.first; second = two.second; apart = two.apart; one = a; other = b })

  pub entry_listed : (block dir s : ℕ) → AreCoveredBy steps block (Entry dir s) → (d : ℕ) × (t : ℕ) × IsListed steps (step_of block (Entry d t))
  entry_listed block dir s c =
      let some = some_number block Directory dir (c.covered Directory dir refl) in
      let is = directory_role some.1.role some.0 some.1.number in
      (some.0, is.0, subst (λ (r : Role). IsListed steps (step_of block r)) is.1 some.1.listed)

  pub data_listed : (block file : ℕ) → AreCoveredBy steps block (Data file) → (f : ℕ) × IsListed steps (step_of block (Data f))
  data_listed block file c =
      let some = some_number block DataFile file (c.covered DataFile file refl) in
      (some.0, subst (λ (r : Role). IsListed steps (step_of block r)) (data_role some.1.role some.0 some.1.number) some.1.listed)

  pub extension_listed : (block file : ℕ) → AreCoveredBy steps block (Extension file) → (f : ℕ) × IsListed steps (step_of block (Extension f))
  extension_listed block file c =
      let some = some_number block ExtensionFile file (c.covered ExtensionFile file refl) in
      (some.0, subst (λ (r : Role). IsListed steps (step_of block r)) (extension_role some.1.role some.0 some.1.number) some.1.listed)

  pub page_listed : (block : ℕ) → AreCoveredBy steps block Page → IsListed steps (step_of block Page)
  page_listed block c =
      let some = some_number block Bitmap 0 (c.covered Bitmap 0 refl) in
      subst (λ (r : Role). IsListed steps (step_of block r)) (page_role some.1.role some.0 some.1.number) some.1.listed

-- more steps
module _ (steps later : List Step) (on : (step : Step) → IsListed steps step → IsListed later step) where
  number_on : (block : ℕ) (part : Part) (n : ℕ) → HasNumber steps block part n → HasNumber later block part n
  number_on block part n has = record { role = has.role; listed = on (step_of block has.role) has.listed; number = has.number }

  two_on : (block : ℕ) (part : Part) → HasTwo steps block part → HasTwo later block part
  two_on block part two = record { first = two.first; second = two.second; apart = two.apart; one = number_on block part two.first two.one; other = number_on block part two.second two.other }

  pub covered_on : (block : ℕ) (role : Role) → AreCoveredBy steps block role → AreCoveredBy later block role
  covered_on block role c = record {
    covered = λ part n is. elim (c.covered part n is) [
      | inl has ↦ inl (number_on block part n has)
      | inr two ↦ inr (two_on block part two)
    ];
  }

  backed_by : (block : ℕ) (part : Part) (taken : Taken) → IsBacked steps block part taken → IsBacked later block part taken
  backed_by block part Nothing back = tt
  backed_by block part (One n) back = number_on block part n back
  backed_by block part Two back = two_on block part back

  pub backed_on : (cells : List Taken) → AreBacked cells steps → AreBacked cells later
  backed_on cells back = record { backed = λ block part. backed_by block part (taken_at cells block part) (back.backed block part) }
