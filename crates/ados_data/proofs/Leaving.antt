-- What the steps of a change leave untouched, and the checksums after it.
use Rattle.ados_data.proofs.Common.{◌≡◌, ◌≢◌, ℕ, suc, ◌-◌, ◌*◌, ◌/◌, ◌<◌, ◌≤◌, ◌⊎◌, inl, inr, true, false, List, [], ◌∷◌, ◌++◌, length, take, slice_index, refl, sym, ap, ◌∙◌, subst, arith, cases_Bool, cases_lt, cases_eq, cases_order, false≢true, true_from_ne_false, length_push, NEXT_EXTENSION, Format, block_sum, block_count, has_free_bit, IsInside, IsSize, pages_of, page_block, page_of, HasBit, MapPlace, AtField, AtExtensionFields, IsInUse, LawfulMap, WritableFile, ChangedAreSummed, KeptOrSummed, IsNewBlock, IsExtended, IsLengthened, IsResized, IsOther, IsDataField, Leaves, IsOwn, Gains, RisesBehind, WasFree, LeavesOthers, bit_of_inside, get_or_append_left, get_or_push}
use Rattle.ados_data.proofs.Lists.{head_pushed_before, head_pushed_last}
use Rattle.ados_data.proofs.Untouched.{kept_both}
use Rattle.ados_data.proofs.Grown.{front_length, front_at, front_header}
use Rattle.ados_data.proofs.Growing.{extended_owned, Lengthened, longer_owned, Resized, resized_owned}
use Rattle.ados_data.proofs.Standing.{Owned, Standing, pages_free, pages_same, pages_stay, marks_stay, beside_new, untaken}

-- nothing changes
pub leaves_same : (image : List ℕ) (file : ℕ) (blocks extensions : List ℕ) → Leaves image file blocks extensions image
leaves_same image file blocks extensions = record {
  same_length = refl;
  pages = λ p l. refl;
  others = λ c k l o. refl;
  used = λ c i o. o.used i.0;
  past_end = λ j h l. refl;
  header = λ k l n. refl;
  header_sum = inl (λ k l. refl);
  page_sums = λ p l. inl (λ k m. refl);
}

-- two changes, the second of a file with other lists
pub leaves_both : (old mid new : List ℕ) (file : ℕ) (blocks extensions blocks' extensions' : List ℕ) → Leaves old file blocks extensions mid → Leaves mid file blocks' extensions' new →
    ((c : ℕ) → IsOther old file blocks extensions c → ((q : ℕ) → q ≤ length extensions' → c ≢ slice_index (file ∷ extensions') q) × ((i : ℕ) → i < length blocks' → c ≢ slice_index blocks' i)) → Leaves old file blocks extensions new
leaves_both old mid new file blocks extensions blocks' extensions' a b more = record {
  same_length = b.same_length ∙ a.same_length;
  pages = λ p l. b.pages p (in_mid p l) ∙ a.pages p l;
  others = λ c k l o. b.others c k l (other c o) ∙ a.others c k l o;
  used = λ c i o. b.used c (i.0, omega (arith, i.1, counts)) (other c o);
  past_end = λ j h l. b.past_end j (h.0, omega (arith, h.1, counts)) (omega (arith, l, counts)) ∙ a.past_end j h l;
  header = λ k l n. b.header k l n ∙ a.header k l n;
  header_sum = kept_both old mid new file a.header_sum b.header_sum;
  page_sums = λ p l. kept_both old mid new (page_block old p) (a.page_sums p l) (subst (KeptOrSummed mid new) (a.pages p l) (b.page_sums p (in_mid p l)));
}
  where
    counts : block_count mid ≡ block_count old
    counts = ap (λ (n : ℕ). n / 512) a.same_length

    in_mid : (p : ℕ) → p < pages_of old → p < pages_of mid
    in_mid p l = omega (arith, l, counts)

    other : (c : ℕ) → IsOther old file blocks extensions c → IsOther mid file blocks' extensions' c
    other c o = record {
      inside = omega (arith, o.inside, counts);
      used = λ l. a.used c (l, o.inside) o;
      beside_pages = λ p l e. let m : p < pages_of old = omega (arith, l, counts) in o.beside_pages p m (e ∙ a.pages p m);
      beside_headers = (more c o).0;
      beside_data = (more c o).1;
    }

-- only blocks of the file change
pub leaves_owned : {changed : ℕ → ℕ → Type 0} {old new : List ℕ} (file : ℕ) (blocks extensions : List ℕ) → Owned changed old new →
    ((c k : ℕ) → IsOther old file blocks extensions c → ¬ changed c k) → ((k : ℕ) → changed file k → IsDataField (k / 4)) → KeptOrSummed old new file → Leaves old file blocks extensions new
leaves_owned {changed} {old} {new} file blocks extensions h beside field summed = record {
  same_length = h.same.same_length;
  pages = pages_stay h;
  others = λ c k l o. h.same.same_byte c k l (beside c k o);
  used = λ c i o. marks_stay h c (bit_of_inside old c i) ∙ o.used i.0;
  past_end = λ j b l. marks_stay h j b;
  header = λ k l n. h.same.same_byte file k l (λ at. n (field k at));
  header_sum = summed;
  page_sums = λ p l. inl (λ k m. h.same.same_byte (page_block old p) k m (pages_free h p k l));
}

-- a block is allocated
pub leaves_taken : (old : List ℕ) (b : ℕ) (new : List ℕ) (file : ℕ) (blocks extensions : List ℕ) → IsNewBlock old b new → IsSize (block_count old) → LawfulMap old → IsInUse old file → Leaves old file blocks extensions new
leaves_taken old b new file blocks extensions n ok m header_used = record {
  same_length = n.rest.same_length;
  pages = pages_same old b new n ok m;
  others = λ c k l o. n.rest.same_byte c k l (no c k o);
  used = λ c i o. n.others c (bit_of_inside old c i) (another c o) ∙ o.used i.0;
  past_end = λ j h l. n.others j h (λ e. omega (arith, e, l, n.lowest.inside.1));
  header = λ k l f. n.rest.same_byte file k l (untaken old b new n ok m file k header_used);
  header_sum = inl (λ k l. n.rest.same_byte file k l (untaken old b new n ok m file k header_used));
  page_sums = λ p l. elim (cases_eq p (page_of b)) [
    | inl same ↦ inr (ap (λ (x : ℕ). block_sum new (page_block old x)) same ∙ n.page_sum)
    | inr ne ↦ inl (λ k r. n.rest.same_byte (page_block old p) k r (no_page p k l ne))
  ];
}
  where
    within : page_of b < pages_of old
    within = omega (arith, n.lowest.inside.0, n.lowest.inside.1)

    another : (c : ℕ) → IsOther old file blocks extensions c → c ≢ b
    another c o e = beside_new old b new n ok m c (o.used (omega (arith, e, n.lowest.inside.0))) e

    no : (c k : ℕ) → IsOther old file blocks extensions c → ¬ (MapPlace old b c k ⊎ (c ≡ b))
    no c k o (inl p) = o.beside_pages (page_of b) within p.0
    no c k o (inr e) = another c o e

    no_page : (p k : ℕ) → p < pages_of old → p ≢ page_of b → ¬ (MapPlace old b (page_block old p) k ⊎ (page_block old p ≡ b))
    no_page p k l ne (inl q) = ne (m.pages.apart p (page_of b) l within q.0)
    no_page p k l ne (inr e) = beside_new old b new n ok m (page_block old p) (m.pages_marked p l) e

-- ---- lists that grow

-- another block is not one of the new ones
pub beside_gains : (old new : List ℕ) (file : ℕ) (blocks extensions blocks' extensions' : List ℕ) → Gains old file blocks extensions new blocks' extensions' → (c : ℕ) → IsOther old file blocks extensions c → ((q : ℕ) → q ≤ length extensions' → c ≢ slice_index (file ∷ extensions') q) × ((i : ℕ) → i < length blocks' → c ≢ slice_index blocks' i)
beside_gains old new file blocks extensions blocks' extensions' g c o = (
  (λ q l e. elim (g.headers q l) [
    | inl s ↦ o.beside_headers q s.0 (e ∙ s.1)
    | inr f ↦ false≢true (sym (o.used (omega (arith, e, f.0))) ∙ ap (has_free_bit old) e ∙ f.1)
  ]),
  (λ i l e. elim (g.data_blocks_of i l) [
    | inl s ↦ o.beside_data i s.0 (e ∙ s.1)
    | inr f ↦ false≢true (sym (o.used (omega (arith, e, f.0))) ∙ ap (has_free_bit old) e ∙ f.1)
  ]),
)

pub gains_same : (image : List ℕ) (file : ℕ) (blocks extensions : List ℕ) → Gains image file blocks extensions image blocks extensions
gains_same image file blocks extensions = record { headers = λ q l. inl (l, refl); data_blocks_of = λ i l. inl (l, refl); marks = λ c i u. u; taken = λ c i f u. absurd (false≢true (sym u ∙ f)); lowest = λ c d i p l f u. absurd (false≢true (sym u ∙ f)); data_rises = λ i j l m n. absurd (omega (arith, l, m, n)); extensions_rise = λ i j l m n. absurd (omega (arith, l, m, n)); in_turn = λ q i l m n k. absurd (omega (arith, l, m)) }

-- a block allocated in a first step is lower than each one still free after it
taken_below : (old mid : List ℕ) (c d : ℕ) → IsInside (block_count old) c → has_free_bit old c ≡ true → has_free_bit mid c ≡ false → WasFree mid d
    → ((c d : ℕ) → IsInside (block_count old) d → 2 ≤ c → c < d → has_free_bit old d ≡ true → has_free_bit mid d ≡ false → has_free_bit mid c ≡ false) → c < d
taken_below old mid c d inside was_free used free lowest = elim (cases_order c d) [
  | inl one ↦ absurd (false≢true (sym used ∙ ap (has_free_bit mid) one ∙ free.1))
  | inr (inl below) ↦ below
  | inr (inr above) ↦ absurd (false≢true (sym (lowest d c inside free.0 above was_free used) ∙ free.1))
]

-- a rising list that grows by blocks that were free when its own no longer were
rises_both : (old mid : List ℕ) (front xs ys : List ℕ) → take (length xs) ys ≡ xs → ((i : ℕ) → i < length ys → IsInside (block_count old) (slice_index ys i))
    → ((i : ℕ) → length front ≤ i → i < length xs → has_free_bit old (slice_index xs i) ≡ true) → ((i : ℕ) → i < length xs → has_free_bit mid (slice_index xs i) ≡ false)
    → ((i : ℕ) → length xs ≤ i → i < length ys → WasFree mid (slice_index ys i))
    → ((c d : ℕ) → IsInside (block_count old) d → 2 ≤ c → c < d → has_free_bit old d ≡ true → has_free_bit mid d ≡ false → has_free_bit mid c ≡ false)
    → RisesBehind front xs → RisesBehind xs ys → RisesBehind front ys
rises_both old mid front xs ys same inside were_free used are_free lowest a b i j l m n = elim (cases_lt j (length xs)) [
  | inl s ↦ omega (arith, a i j l m s, front_at xs ys same i (omega (arith, m, s)), front_at xs ys same j s)
  | inr s ↦ elim (cases_lt i (length xs)) [
    | inr t ↦ b i j t m n
    | inl t ↦
        let here : slice_index ys i ≡ slice_index xs i = front_at xs ys same i t in
        let within = subst (IsInside (block_count old)) here (inside i (omega (arith, m, n))) in
        omega (arith, here, taken_below old mid (slice_index xs i) (slice_index ys j) within (were_free i l t) (used i t) (are_free j s n) lowest)
  ]
]

pub gains_both : (old mid new : List ℕ) (file : ℕ) (blocks extensions blocks' extensions' blocks'' extensions'' : List ℕ) → block_count mid ≡ block_count old → ((q : ℕ) → q ≤ length extensions'' → IsInside (block_count old) (slice_index (file ∷ extensions'') q)) → ((i : ℕ) → i < length blocks'' → IsInside (block_count old) (slice_index blocks'' i)) →
    take (length blocks') blocks'' ≡ blocks' → take (length extensions') extensions'' ≡ extensions' → ((i : ℕ) → i < length blocks' → has_free_bit mid (slice_index blocks' i) ≡ false) → ((q : ℕ) → q < length extensions' → has_free_bit mid (slice_index extensions' q) ≡ false) → 72 * length extensions' ≤ length blocks' → length blocks' ≤ 72 * suc (length extensions') → Gains old file blocks extensions mid blocks' extensions' → Gains mid file blocks' extensions' new blocks'' extensions'' → Gains old file blocks extensions new blocks'' extensions''
gains_both old mid new file blocks extensions blocks' extensions' blocks'' extensions'' counts inside_headers inside_data front front' used used' least most a b = record {
  headers = λ q l. elim (b.headers q l) [
    | inr f ↦ inr (f.0, was (slice_index (file ∷ extensions'') q) (inside_headers q l) f.1)
    | inl s ↦ elim (a.headers q s.0) [
      | inl t ↦ inl (t.0, s.1 ∙ t.1)
      | inr f ↦ inr (subst (λ (n : ℕ). 2 ≤ n) (sym s.1) f.0, ap (has_free_bit old) s.1 ∙ f.1)
    ]
  ];
  data_blocks_of = λ i l. elim (b.data_blocks_of i l) [
    | inr f ↦ inr (f.0, was (slice_index blocks'' i) (inside_data i l) f.1)
    | inl s ↦ elim (a.data_blocks_of i s.0) [
      | inl t ↦ inl (t.0, s.1 ∙ t.1)
      | inr f ↦ inr (subst (λ (n : ℕ). 2 ≤ n) (sym s.1) f.0, ap (has_free_bit old) s.1 ∙ f.1)
    ]
  ];
  marks = λ c i u. b.marks c (i.0, omega (arith, i.1, counts)) (a.marks c i u);
  taken = λ c i f u. elim (cases_Bool (has_free_bit mid c)) [
    | inl t ↦ b.taken c (i.0, omega (arith, i.1, counts)) t u
    | inr e ↦ still_own c (a.taken c i f e)
  ];
  lowest = λ c d i p l f u. elim (cases_Bool (has_free_bit mid d)) [
    | inl t ↦ b.lowest c d (i.0, omega (arith, i.1, counts)) p l t u
    | inr e ↦ b.marks c (p, omega (arith, l, i.1, counts)) (a.lowest c d i p l f e)
  ];
  data_rises = rises_both old mid blocks blocks' blocks'' front inside_data
      (λ i l m. elim (a.data_blocks_of i m) [ inl s ↦ absurd (omega (arith, s.0, l)) | inr f ↦ f.1 ]) used
      (λ i l m. elim (b.data_blocks_of i m) [ inl s ↦ absurd (omega (arith, s.0, l)) | inr f ↦ f ]) a.lowest a.data_rises b.data_rises;
  extensions_rise = rises_both old mid extensions extensions' extensions'' front' (λ q l. inside_headers (suc q) (omega (arith, l)))
      (λ q l m. elim (a.headers (suc q) (omega (arith, m))) [ inl s ↦ absurd (omega (arith, s.0, l)) | inr f ↦ f.1 ]) used'
      (λ q l m. elim (b.headers (suc q) (omega (arith, m))) [ inl s ↦ absurd (omega (arith, s.0, l)) | inr f ↦ f ]) a.lowest a.extensions_rise b.extensions_rise;
  in_turn = λ q i l m n k. elim (cases_lt q (length extensions')) [
    | inl in_first ↦
        let here = front_at extensions' extensions'' front' q in_first in
        elim (cases_lt i (length blocks')) [
          | inl s ↦ let there = front_at blocks' blocks'' front i s in
              let turn = a.in_turn q i l in_first n s in (λ few. omega (arith, here, there, turn.0 few), λ many. omega (arith, here, there, turn.1 many))
          | inr s ↦
              let lower = taken_below old mid (slice_index extensions' q) (slice_index blocks'' i) (subst (IsInside (block_count old)) here (inside_headers (suc q) (omega (arith, m))))
              (elim (a.headers (suc q) (omega (arith, in_first))) [ inl t ↦ absurd (omega (arith, t.0, l)) | inr f ↦ f.1 ]) (used' q in_first)
              (elim (b.data_blocks_of i k) [ inl t ↦ absurd (omega (arith, t.0, s)) | inr f ↦ f ]) a.lowest in
              (λ few. absurd (omega (arith, few, s, in_first, least)), λ many. omega (arith, here, lower))
        ]
    | inr in_second ↦ elim (cases_lt i (length blocks')) [
      | inr s ↦ b.in_turn q i in_second m s k
      | inl s ↦
          let there = front_at blocks' blocks'' front i s in
          let lower = taken_below old mid (slice_index blocks' i) (slice_index extensions'' q) (subst (IsInside (block_count old)) there (inside_data i k))
          (elim (a.data_blocks_of i s) [ inl t ↦ absurd (omega (arith, t.0, n)) | inr f ↦ f.1 ]) (used i s)
          (elim (b.headers (suc q) (omega (arith, m))) [ inl t ↦ absurd (omega (arith, t.0, in_second)) | inr f ↦ f ]) a.lowest in
          (λ few. omega (arith, there, lower), λ many. absurd (omega (arith, many, s, in_second, most)))
    ]
  ];
}
  where
    was : (c : ℕ) → IsInside (block_count old) c → has_free_bit mid c ≡ true → has_free_bit old c ≡ true
    was c i f = true_from_ne_false (has_free_bit old c) (λ e. false≢true (sym (a.marks c i e) ∙ f))

    still_own : (c : ℕ) → IsOwn file blocks' extensions' c → IsOwn file blocks'' extensions'' c
    still_own c (inl (q, l, e)) = inl (q, omega (arith, l, front_length extensions' extensions'' front'), e ∙ sym (front_header file extensions' extensions'' front' q l))
    still_own c (inr (i, l, e)) = inr (i, omega (arith, l, front_length blocks' blocks'' front), e ∙ sym (front_at blocks' blocks'' front i l))

-- ---- the steps

module _ (old new : List ℕ) (format : Format) (file : ℕ) (blocks extensions : List ℕ) (size e : ℕ) (s : Standing old format file blocks extensions size) (x : IsExtended old file (slice_index (file ∷ extensions) (length extensions)) e new)
    (inside : IsInside (block_count old) e) (used : IsInUse old e) (beside_headers : (q : ℕ) → q ≤ length extensions → slice_index (file ∷ extensions) q ≢ e) (beside_data : (i : ℕ) → i < length blocks → slice_index blocks i ≢ e) where
  pub leaves_extended : Leaves old file blocks (extensions ++ e ∷ []) new
  leaves_extended =
      leaves_owned file blocks (extensions ++ e ∷ []) (extended_owned old new format file blocks extensions size e s x inside used beside_headers beside_data) beside field summed
    where
      beside : (c k : ℕ) → IsOther old file blocks (extensions ++ e ∷ []) c → ¬ (AtExtensionFields e c k ⊎ AtField (slice_index (file ∷ extensions) (length extensions)) NEXT_EXTENSION c k)
      beside c k o (inl at) = o.beside_headers (suc (length extensions)) (omega (arith, length_push extensions e)) (at.0 ∙ sym (head_pushed_last file extensions e (suc (length extensions)) refl))
      beside c k o (inr at) = o.beside_headers (length extensions) (omega (arith, length_push extensions e)) (at.0 ∙ sym (head_pushed_before file extensions e (length extensions) (omega arith)))

      field : (k : ℕ) → (AtExtensionFields e file k ⊎ AtField (slice_index (file ∷ extensions) (length extensions)) NEXT_EXTENSION file k) → IsDataField (k / 4)
      field k (inl at) = absurd (beside_headers 0 (omega arith) at.0)
      field k (inr (at, z)) = grind arith

      summed : KeptOrSummed old new file
      summed = elim (cases_lt 0 (length extensions)) [
        | inl l ↦ inl (λ k m. x.rest.same_byte file k m (other k l))
        | inr l ↦ let here : length extensions ≡ 0 = omega arith in inr (ap (λ (n : ℕ). block_sum new (slice_index (file ∷ extensions) n)) (sym here) ∙ x.sum)
      ]
        where
          other : (k : ℕ) → 0 < length extensions → ¬ (AtExtensionFields e file k ⊎ AtField (slice_index (file ∷ extensions) (length extensions)) NEXT_EXTENSION file k)
          other k l (inl at) = beside_headers 0 (omega arith) at.0
          other k l (inr at) = s.places.headers_once 0 (length extensions) l (omega arith) at.0

module _ (old new : List ℕ) (format : Format) (file : ℕ) (blocks extensions : List ℕ) (size b : ℕ) (s : Standing old format file blocks extensions size) (x : IsLengthened old format file (slice_index (file ∷ extensions) (length extensions)) (slice_index blocks (length blocks - 1)) (length blocks) b new)
    (inside : IsInside (block_count old) b) (used : IsInUse old b) (beside_headers : (q : ℕ) → q ≤ length extensions → slice_index (file ∷ extensions) q ≢ b) (beside_data : (i : ℕ) → i < length blocks → slice_index blocks i ≢ b) where
  pub leaves_longer : Leaves old file (blocks ++ b ∷ []) extensions new
  leaves_longer =
      leaves_owned file (blocks ++ b ∷ []) extensions (longer_owned old new format file blocks extensions size b s x inside used beside_headers beside_data) beside field (inr x.file_sum)
    where
      beside : (c k : ℕ) → IsOther old file (blocks ++ b ∷ []) extensions c → ¬ Lengthened old new format file blocks extensions size b s x inside used beside_headers beside_data c k
      beside c k o (inl at) = o.beside_data (length blocks) (omega (arith, length_push blocks b)) (at.1 ∙ sym (get_or_push blocks b 0 (length blocks) refl))
      beside c k o (inr (inl at)) = o.beside_data (length blocks - 1) (omega (arith, length_push blocks b)) (at.2.0 ∙ sym (get_or_append_left blocks (b ∷ []) 0 (length blocks - 1) (omega (arith, at.1))))
      beside c k o (inr (inr (inl at))) = o.beside_headers (length extensions) (omega arith) at.0
      beside c k o (inr (inr (inr at))) = o.beside_headers 0 (omega arith) at.0

      field : (k : ℕ) → Lengthened old new format file blocks extensions size b s x inside used beside_headers beside_data file k → IsDataField (k / 4)
      field k (inl at) = absurd (beside_headers 0 (omega arith) at.1)
      field k (inr (inl at)) = absurd (s.places.apart 0 (length blocks - 1) (omega arith) (omega (arith, at.1)) at.2.0)
      field k (inr (inr (inl (at, z)))) = grind arith
      field k (inr (inr (inr (at, z)))) = grind arith

module _ (old new : List ℕ) (format : Format) (file : ℕ) (blocks extensions : List ℕ) (size d e size' : ℕ) (s : Standing old format file blocks extensions size)
    (x : IsResized old format file (slice_index (file ∷ extensions) e) (slice_index blocks (d - 1)) d size' new) (few : d ≤ length blocks) (fewer : e ≤ length extensions) where
  pub leaves_resized : Leaves old file blocks extensions new
  leaves_resized =
      leaves_owned file blocks extensions (resized_owned old new format file blocks extensions size d e size' s x few fewer) beside field (inr x.file_sum)
    where
      beside : (c k : ℕ) → IsOther old file blocks extensions c → ¬ Resized old new format file blocks extensions size d e size' s x few fewer c k
      beside c k o (inl at) = o.beside_data (d - 1) (omega (arith, at.1)) at.2.0
      beside c k o (inr (inl at)) = o.beside_headers e fewer at.0
      beside c k o (inr (inr at)) = o.beside_headers 0 (omega arith) at.0

      field : (k : ℕ) → Resized old new format file blocks extensions size d e size' s x few fewer file k → IsDataField (k / 4)
      field k (inl at) = absurd (s.places.apart 0 (d - 1) (omega arith) (omega (arith, at.1)) at.2.0)
      field k (inr (inl (at, z))) = grind arith
      field k (inr (inr (at, z))) = grind arith

-- ---- a new block joins the lists

pub gains_taken : (old : List ℕ) (b : ℕ) (new : List ℕ) (file : ℕ) (blocks extensions blocks' extensions' : List ℕ) → IsNewBlock old b new → ((q : ℕ) → q ≤ length extensions' → ((q ≤ length extensions) × (slice_index (file ∷ extensions') q ≡ slice_index (file ∷ extensions) q)) ⊎ (slice_index (file ∷ extensions') q ≡ b)) →
    ((i : ℕ) → i < length blocks' → ((i < length blocks) × (slice_index blocks' i ≡ slice_index blocks i)) ⊎ (slice_index blocks' i ≡ b)) → IsOwn file blocks' extensions' b → length blocks' ≤ suc (length blocks) → length extensions' ≤ suc (length extensions) → (length blocks' ≤ length blocks) ⊎ (length extensions' ≤ length extensions) → Gains old file blocks extensions new blocks' extensions'
gains_taken old b new file blocks extensions blocks' extensions' n headers datas own one one' alone = record {
  headers = λ q l. elim (headers q l) [ inl s ↦ inl s | inr e ↦ inr (omega (arith, e, n.lowest.inside.0), ap (has_free_bit old) e ∙ n.lowest.free) ];
  data_blocks_of = λ i l. elim (datas i l) [ inl s ↦ inl s | inr e ↦ inr (omega (arith, e, n.lowest.inside.0), ap (has_free_bit old) e ∙ n.lowest.free) ];
  marks = λ c i u. n.others c (bit_of_inside old c i) (λ e. false≢true (sym u ∙ ap (has_free_bit old) e ∙ n.lowest.free)) ∙ u;
  taken = λ c i f u. elim (cases_eq c b) [
    | inl e ↦ subst (IsOwn file blocks' extensions') (sym e) own
    | inr ne ↦ absurd (false≢true (sym u ∙ n.others c (bit_of_inside old c i) ne ∙ f))
  ];
  lowest = λ c d i p l f u. elim (cases_eq d b) [
    | inl e ↦ n.others c (bit_of_inside old c (p, omega (arith, l, i.1))) (omega (arith, l, e)) ∙ n.lowest.lowest c p (omega (arith, l, e))
    | inr ne ↦ absurd (false≢true (sym u ∙ n.others d (bit_of_inside old d i) ne ∙ f))
  ];
  data_rises = λ i j l m k. absurd (omega (arith, l, m, k, one));
  extensions_rise = λ i j l m k. absurd (omega (arith, l, m, k, one'));
  in_turn = λ q i l m k h. elim alone [ inl none ↦ absurd (omega (arith, k, h, none)) | inr none ↦ absurd (omega (arith, l, m, none)) ];
}

-- all marks are unchanged
pub gains_kept : (old new new' : List ℕ) (file : ℕ) (blocks extensions blocks' extensions' : List ℕ) → block_count new ≡ block_count old → ((c : ℕ) → HasBit new c → has_free_bit new' c ≡ has_free_bit new c) → Gains old file blocks extensions new blocks' extensions' → Gains old file blocks extensions new' blocks' extensions'
gains_kept old new new' file blocks extensions blocks' extensions' counts same g = record {
  headers = g.headers;
  data_blocks_of = g.data_blocks_of;
  marks = λ c i u. same c (bit_of_inside new c (i.0, omega (arith, i.1, counts))) ∙ g.marks c i u;
  taken = λ c i f u. g.taken c i f (sym (same c (bit_of_inside new c (i.0, omega (arith, i.1, counts)))) ∙ u);
  lowest = λ c d i p l f u. same c (bit_of_inside new c (p, omega (arith, l, i.1, counts))) ∙ g.lowest c d i p l f (sym (same d (bit_of_inside new d (i.0, omega (arith, i.1, counts)))) ∙ u);
  data_rises = g.data_rises;
  extensions_rise = g.extensions_rise;
  in_turn = g.in_turn;
}

-- the checksum of each changed block is right if those of the bitmap and the header are, and the file is lawful
pub summed_after : (old new : List ℕ) (file : ℕ) → WritableFile new file → LeavesOthers old file new → ChangedAreSummed old file new
summed_after old new file w l = record {
  page = l.page_sums;
  header = l.header_sum;
  extension = λ q lt. inr (w.lawful.holds.extension q lt).sum;
  ofs_data = λ ofs i lt. inr (w.lawful.holds.ofs_data ofs i lt).sum;
}
