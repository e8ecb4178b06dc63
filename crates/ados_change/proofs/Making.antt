-- The free block of a new entry.
use Rattle.ados_change.proofs.Common.{◌≡◌, ℕ, ◌+◌, ◌*◌, ◌<◌, ◌≤◌, true, List, Option, Some, None, refl, ◌∙◌, arith, IsInside, byte_at, has_free_bit, long, long-bytes, IsLowestFree, Node, Tree, IsUnused, Duty, Layout, HasDuty, Stands, ◌≢◌, ◌/◌, ◌⊎◌, inl, inr, nat_le, cond, [], length, slice_index, sym, ap, subst, cases_eq, cases_lt, cases_order, false≢true, NAME_BYTE, NEXT_IN_CHAIN, HasFreeBit, secondary_type, SameBut, same_long, same_weaken, AtLinks, Relinks, Date3, made, InImage, Reached, first_pointers, IsField, NamesFirstData, entry_name, type_of, IsTaken, TakesLowest, Content, root, Role, StandsAt, duty_of, reached_stands, root_at, serves_at, IsNewEntry, IsNewField, Dated}
use Rattle.ados_change.proofs.Loose.{Spells, spells}
use Rattle.ados_change.proofs.Unchanged.{AtDate, AtLongs, dated_longs}
use Rattle.ados_model.specs.declared.role.Role.TheVariants as roles
use Rattle.ados_change.proofs.EntriesKept.{entry_longs}
use Rattle.ados_change.proofs.FilesStay.{data_serves, extension_serves, file_of_key}
use Rattle.ados_change.proofs.Changed.{made_here}
use Rattle.ados_change.proofs.Relisted.{IsLinkPlace}
use Rattle.ados_change.proofs.Relisted.IsLinkPlace.{in_table, in_entry}

-- a long of zeros
pub zero_long : (image : List ℕ) (b i : ℕ) → ((k : ℕ) → 4 * i ≤ k → k < 4 * i + 4 → byte_at image b k ≡ 0) → long image b i ≡ 0
zero_long image b i h =
    long-bytes image b i ∙ rw (h (4 * i + 0) (omega arith) (omega arith), h (4 * i + 1) (omega arith) (omega arith), h (4 * i + 2) (omega arith) (omega arith), h (4 * i + 3) (omega arith) (omega arith)) refl

-- a block that is marked free has no use
pub no_duty : (image : List ℕ) (t : Tree) (l : Layout) (s : Spells image t l) (key : ℕ) → IsInside t.blocks key → has_free_bit image key ≡ true → (duty : Duty) → ¬ HasDuty t l key duty
no_duty image t l s key i free duty m = s.marked_free key i free (duty, m)

pub no_node : (t : Tree) (l : Layout) (key : ℕ) → ((duty : Duty) → ¬ HasDuty t l key duty) → (o : Option Node) → t.nodes key ≡ o → o ≡ None
no_node t l key none None e = refl
no_node t l key none (Some a) e = absurd (none Duty.Key (rw e refl))

-- the lowest free block is no node's key
pub unused : (image : List ℕ) (t : Tree) (s : Stands image t) (key : ℕ) → IsLowestFree image key → IsUnused t key
unused image t s key low =
    let i : IsInside t.blocks key = (low.inside.0, omega (arith, low.inside.1, s.whole)) in
    record { inside = i; no_node = no_node t s.layout key (no_duty image t s.layout (spells image t s) key i low.free) (t.nodes key) refl }

-- ---- a new entry gets the lowest free block, and its bytes outside fields are 0

-- ---- the bytes of the block

-- the bytes of all other blocks, and the checksum and next-in-chain long of a key
abbrev pub AtLink : ℕ → ℕ → ℕ → Type 0
AtLink key b i = (b ≢ key) ⊎ ((i / 4 ≡ 5) ⊎ (i / 4 ≡ NEXT_IN_CHAIN))

module _ (key dir : ℕ) (t : Tree) (apart : dir ≢ key) (no_root : key ≢ root t) where
  pub dated_there : (moment : Date3) (m m' : List ℕ) → Dated dir 105 moment m m' → SameBut (AtLink key) m m'
  dated_there moment m m' r = same_weaken (AtLongs (AtDate dir 105)) (AtLink key) m m' (λ b i w. inl (λ e. apart (sym w.0 ∙ e))) (dated_longs dir 105 moment m m' r)

  pub stamped_there : (moment : Date3) (m m' : List ℕ) → Dated (root t) 118 moment m m' → SameBut (AtLink key) m m'
  stamped_there moment m m' r = same_weaken (AtLongs (AtDate (root t) 118)) (AtLink key) m m' (λ b i w. inl (λ e. no_root (sym e ∙ w.0))) (dated_longs (root t) 118 moment m m' r)

  pub linked_there : (u : Tree) (b0 i0 next : ℕ) → IsLinkPlace u dir b0 i0 → (m m' : List ℕ) → Relinks b0 i0 next key m m' → SameBut (AtLink key) m m'
  linked_there u b0 i0 next place m m' r = same_weaken (AtLinks b0 i0 key) (AtLink key) m m' within r.rest
    where
      linked : IsLinkPlace u dir b0 i0 → (b i : ℕ) → b ≡ b0 → i / 4 ≡ i0 → AtLink key b i
      linked (in_table d x y) b i e f = inl (λ same. apart (sym (e ∙ d) ∙ same))
      linked (in_entry n g x d) b i e f = inr (inr (f ∙ d))

      within : (b i : ℕ) → AtLinks b0 i0 key b i → AtLink key b i
      within b i (inl (inl w)) = linked place b i w.0 w.1
      within b i (inl (inr w)) = inr (inl w.1)
      within b i (inr (inl w)) = inr (inr w.1)
      within b i (inr (inr w)) = inr (inl w.1)

module _ (filled new : List ℕ) (key dir : ℕ) (name : List ℕ) (content : Content) (moment : Date3) (entry : IsNewEntry filled key dir name content moment) (h : SameBut (AtLink key) filled new) where
  type_is : secondary_type new key ≡ type_of content
  type_is = same_long (AtLink key) filled new h key 127 (omega arith) (λ k e w. elim w [ inl n ↦ n refl | inr f ↦ omega (arith, e, f) ]) ∙ entry.secondary

  counted : byte_at new key NAME_BYTE ≡ length name
  counted = h.same_byte key NAME_BYTE (omega arith) (λ w. elim w [ inl n ↦ n refl | inr f ↦ omega (arith, f) ]) ∙ entry.named.counted

  -- the bytes that a new entry fills are in fields, as are its checksum and next-in-chain long
  new_field : (d s i : ℕ) → IsNewField (length name) i ⊎ ((i / 4 ≡ 5) ⊎ (i / 4 ≡ NEXT_IN_CHAIN)) → IsField new key (roles.Entry d s) i
  new_field d s i (inl (inl z)) = entry_longs content type_is (0, (0, 1), omega arith, refl, (omega arith, omega (arith, z))) (0, (0, 2), omega arith, refl, (omega arith, omega (arith, z)))
  new_field d s i (inl (inr (inl z))) = entry_longs content type_is (1, (5, 77), omega arith, refl, (omega (arith, z), omega (arith, z))) (1, (4, 5), omega arith, refl, (omega (arith, z), omega (arith, z)))
  new_field d s i (inl (inr (inr (inl z)))) = elim (cases_lt i 432) [
    | inl l ↦ entry_longs content type_is (3, (105, 107), omega arith, refl, (omega (arith, z.0), omega (arith, l))) (4, (105, 107), omega arith, refl, (omega (arith, z.0), omega (arith, l)))
    | inr l ↦ entry_name (l, omega (arith, z.1, counted))
  ]
  new_field d s i (inl (inr (inr (inr (inl z))))) = entry_longs content type_is (4, (124, 125), omega arith, refl, (omega (arith, z), omega (arith, z))) (5, (124, 127), omega arith, refl, (omega (arith, z), omega (arith, z)))
  new_field d s i (inl (inr (inr (inr (inr z))))) = entry_longs content type_is (5, (127, 127), omega arith, refl, (omega (arith, z), omega (arith, z))) (5, (124, 127), omega arith, refl, (omega (arith, z), omega (arith, z)))
  new_field d s i (inr (inl z)) = entry_longs content type_is (1, (5, 77), omega arith, refl, (omega (arith, z), omega (arith, z))) (1, (4, 5), omega arith, refl, (omega (arith, z), omega (arith, z)))
  new_field d s i (inr (inr z)) = entry_longs content type_is (4, (124, 125), omega arith, refl, (omega (arith, z), omega (arith, z))) (5, (124, 127), omega arith, refl, (omega (arith, z), omega (arith, z)))

  zero_else : (d s i : ℕ) → i < 512 → ¬ IsField new key (roles.Entry d s) i → byte_at new key i ≡ 0
  zero_else d s i l n = h.same_byte key i l (λ w. elim w [ inl m ↦ m refl | inr f ↦ n (new_field d s i (inr f)) ]) ∙ entry.zeros i l (λ f. n (new_field d s i (inl f)))

  -- it has no first data block
  zero_at : (j : ℕ) → (j ≡ 2) ⊎ (j ≡ 4) → long new key j ≡ 0
  zero_at j o =
      zero_long new key j (λ k p q. h.same_byte key k (omega (arith, o, q)) (λ w. elim w [ inl m ↦ m refl | inr f ↦ omega (arith, o, p, q, f) ]) ∙ entry.zeros k (omega (arith, o, q)) (λ f. omega (arith, o, p, q, f)))

  -- ---- which block it is

  module _ (old : List ℕ) (t : Tree) (low : IsLowestFree old key) (no_root : key ≢ root t)
      (still : (b : ℕ) → InImage old b → b ≢ key → has_free_bit new b ≡ has_free_bit old b) (after : Stands new (made moment dir key name content t)) where
    abbrev u : Tree
    u = made moment dir key name content t

    is_key : (b : ℕ) → IsTaken old new b → b ≡ key
    is_key b m = elim (cases_eq b key) [ inl e ↦ e | inr n ↦ absurd (m.in_use (still b m.inside n ∙ m.was_free)) ]

    lowest_of : (block other : ℕ) → IsTaken old new block → InImage old other → HasFreeBit old other → HasFreeBit new other → block < other
    lowest_of block other m i was is =
        let here = is_key block m in
        elim (cases_order block other) [
          | inl same ↦ absurd (m.in_use (subst (HasFreeBit new) (sym same) is))
          | inr (inl below) ↦ below
          | inr (inr above) ↦ absurd (false≢true (sym (low.lowest other i.0 (omega (arith, above, here))) ∙ was))
        ]

    key_serves : HasDuty u after.layout key Duty.Key
    key_serves = made_here moment dir key name content t

    zero_in : (role : Role) (i : ℕ) → Reached new key role → i < 512 → ¬ IsField new key role i → byte_at new key i ≡ 0
    zero_in role i r l n =
        let at = reached_stands new u after r in
        go role at.0 at.1 n (after.fits.one_duty key (duty_of new u after role at.0) Duty.Key (serves_at new u after role at.0 key at.1) key_serves)
      where
        go : (role : Role) (k : ℕ) → StandsAt new u after role k key → ¬ IsField new key role i → duty_of new u after role k ≡ Duty.Key → byte_at new key i ≡ 0
        go roles.Root k at n e = absurd (no_root (root_at new u after k key at))
        go (roles.Entry d s) k at n e = zero_else d s i l n
        go _ k at n e = absurd (cc e)

    pub takes_key : TakesLowest old new
    takes_key = record {
      lowest = lowest_of;
      zero_else = λ b i role m r l n.
          let e = is_key b m in
          ap (λ (c : ℕ). byte_at new c i) e ∙ zero_in role i (subst (λ (c : ℕ). Reached new c role) e r) l (subst (λ (c : ℕ). ¬ IsField new c role i) e n);
      first = λ b m f. subst (NamesFirstData new) (sym (is_key b m)) (zero_at 4 (inr refl) ∙ sym (ap (λ (n : ℕ). slice_index (cond (nat_le n 72) (first_pointers new key n) []) 0) (zero_at 2 (inl refl))));
      data_rise = λ f k i j l m a b.
          let serves : HasDuty u after.layout key (Duty.Data f i) = subst (λ (c : ℕ). HasDuty u after.layout c (Duty.Data f i)) (is_key _ a) (data_serves new u after f (file_of_key new u after f k) i (omega (arith, l, m))) in
          let duty : Duty.Data f i ≡ Duty.Key = after.fits.one_duty key (Duty.Data f i) Duty.Key serves key_serves in
          absurd (cc duty);
      extensions_rise = λ f k i j l m a b.
          let serves : HasDuty u after.layout key (Duty.Extension f i) = subst (λ (c : ℕ). HasDuty u after.layout c (Duty.Extension f i)) (is_key _ a) (extension_serves new u after f (file_of_key new u after f k) i (omega (arith, l, m))) in
          let duty : Duty.Extension f i ≡ Duty.Key = after.fits.one_duty key (Duty.Extension f i) Duty.Key serves key_serves in
          absurd (cc duty);
      in_turn = λ f k q i l m a b.
          let serves : HasDuty u after.layout key (Duty.Data f i) = subst (λ (c : ℕ). HasDuty u after.layout c (Duty.Data f i)) (is_key _ b) (data_serves new u after f (file_of_key new u after f k) i m) in
          let duty : Duty.Data f i ≡ Duty.Key = after.fits.one_duty key (Duty.Data f i) Duty.Key serves key_serves in
          absurd (cc duty);
      zero_end = λ f q i k a m.
          let serves : HasDuty u after.layout key (Duty.Data f q) = subst (λ (c : ℕ). HasDuty u after.layout c (Duty.Data f q)) (is_key _ a) (data_serves new u after f (file_of_key new u after f k) q m.block) in
          let duty : Duty.Data f q ≡ Duty.Key = after.fits.one_duty key (Duty.Data f q) Duty.Key serves key_serves in
          absurd (cc duty);
    }
