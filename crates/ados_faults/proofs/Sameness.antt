-- Entries of one directory whose names are equal in upper case have the same name, and are noted.
use Rattle.ados_faults.proofs.Common.{◌≡◌, ◌≢◌, ℕ, ◌-◌, ◌<◌, ◌≤◌, inl, inr, Bool, true, cond, List, [], ◌∷◌, ◌++◌, length, take, drop, map, replicate, get_or, slice_index, set, Option, Some, None, refl, sym, ap, ◌∙◌, subst, arith, ◌+◌, length-set, get_or-set_same, get_or-set_other, slice_get, option_and_then, BTreeMap, get, is_at, cases_Bool, cases_eq, cases_lt, none-some, same_Some, slice_get-get_or, slice_get_past, slice_get_within, length-map, length-replicate, take_at, IsImage, text_at, block_count, byte_at, DIRECTORY_TYPE, NAME_BYTE, Entry, DuplicateName, HasDuplicateName, HasShortName, Reached, AreEntriesOf, HoldsEntries, IsEntryIn, IsOfType, AreDuplicatesNoted, AreFirstMet, AreFirstNames, AreKnown, AreNamesKept, AreNamesMet, AreNamesNoted, AreStillKnown, HasNameOf, IsFirstName, IsNameMet, name_cmp, named_in, named_of, AreStillNoted, IsNoted, cell_of, Same, upper, upper_name, Named, AreListedNoted, AreNextMet, AreSlotsMet}
use Rattle.std.specs.FinMap.{nat_cmp-IsAntisymmetric, slice_cmp-IsAntisymmetric}
use Rattle.std.specs.Map.{lookup}
use Rattle.ados_check.proofs.Entered.{is_equal}
use Rattle.ados_check.proofs.Texts.{length-bytes_at}
use Rattle.ados_faults.proofs.Enumerated.{dir_of, each_entry}
use Rattle.ados_faults.proofs.Firsts.{each_after_push, one_more, same_there}
use Rattle.ados_faults.proofs.Insides.{reached_inside}

pub length_text : (image : List ℕ) (block : ℕ) → IsImage image → block < block_count image → byte_at image block NAME_BYTE ≤ 30 → length (text_at image block NAME_BYTE) ≡ byte_at image block NAME_BYTE
length_text image block im l short = length-bytes_at image block (NAME_BYTE + 1) (byte_at image block NAME_BYTE) im l (omega (arith, short))

names_same : (image : List ℕ) (block other : ℕ) → IsImage image → block < block_count image → other < block_count image
    → byte_at image block NAME_BYTE ≤ 30 → byte_at image other NAME_BYTE ≤ 30 → upper_name image block ≡ upper_name image other → Same (text_at image block NAME_BYTE) (text_at image other NAME_BYTE)
unfolding upper_name
names_same image block other im l m short other_short e =
    let sizes : byte_at image block NAME_BYTE ≡ byte_at image other NAME_BYTE = ap (λ (xs : List ℕ). slice_index xs 0) e in
    let tails = ap (λ (xs : List ℕ). take (byte_at image other NAME_BYTE) (drop 1 xs)) e in
    let one : length (map upper (text_at image block NAME_BYTE)) ≡ byte_at image other NAME_BYTE = length-map (text_at image block NAME_BYTE) upper ∙ length_text image block im l short ∙ sizes in
    let two : length (map upper (text_at image other NAME_BYTE)) ≡ byte_at image other NAME_BYTE = length-map (text_at image other NAME_BYTE) upper ∙ length_text image other im m other_short in
    sym (take_at (map upper (text_at image block NAME_BYTE)) (replicate (30 - byte_at image block NAME_BYTE) 0) (byte_at image other NAME_BYTE) one)
    ∙ tails
    ∙ take_at (map upper (text_at image other NAME_BYTE)) (replicate (30 - byte_at image other NAME_BYTE) 0) (byte_at image other NAME_BYTE) two

pub duplicate : (image : List ℕ) (dir block other : ℕ) → IsImage image → IsEntryIn image dir block → IsEntryIn image dir other → HasShortName image block → HasShortName image other
    → upper_name image block ≡ upper_name image other → block ≢ other → HasDuplicateName image block
duplicate image dir block other im e o short other_short same two = record {
  other = other;
  dir = dir;
  slot_of_chain = e.0;
  other_slot = o.0;
  reached = e.1;
  other_reached = o.1;
  two = two;
  short = short;
  other_short = other_short;
  same = names_same image block other im (reached_inside image im e.1).1 (reached_inside image im o.1).1 short other_short same;
}

-- ---- the map from names to their first blocks

-- names that are equal in this order are equal
same_name : (x y : List ℕ) → is_at (name_cmp x) y ≡ true → x ≡ y
same_name x y e = slice_cmp-IsAntisymmetric nat_cmp-IsAntisymmetric x y (is_equal (name_cmp x y) e)

pub none_known : (image : List ℕ) (known : BTreeMap (List ℕ) ℕ) → known.entries ≡ [] → AreKnown image known
none_known image known empty = record { leads = λ name block e. absurd (none-some block (sym (ap (lookup (is_at (name_cmp name))) empty) ∙ e)) }

module _ (known later : BTreeMap (List ℕ) ℕ) (name : List ℕ) (block : ℕ) (absent : get name_cmp known name ≡ None)
    (updates : (q : List ℕ) → get name_cmp later q ≡ cond (is_at (name_cmp name) q) (Some block) (get name_cmp known q)) where
  pub known_stay : AreStillKnown known later
  known_stay = record { stay = go }
    where
      go : (q : List ℕ) (b : ℕ) → get name_cmp known q ≡ Some b → get name_cmp later q ≡ Some b
      go q b e = elim (cases_Bool (is_at (name_cmp name) q)) [
        | inl a ↦ absurd (none-some b (sym absent ∙ ap (get name_cmp known) (same_name name q a) ∙ e))
        | inr a ↦ updates q ∙ ap (λ (t : Bool). cond t (Some block) (get name_cmp known q)) a ∙ e
      ]

  pub known_more : (image : List ℕ) → AreKnown image known → block < block_count image → upper_name image block ≡ name → AreKnown image later
  known_more image k inside is = record { leads = go }
    where
      go : (q : List ℕ) (b : ℕ) → get name_cmp later q ≡ Some b → (b < block_count image) × (upper_name image b ≡ q)
      go q b e = elim (cases_Bool (is_at (name_cmp name) q)) [
        | inl a ↦
            let h : Some block ≡ Some b = ap (λ (t : Bool). cond t (Some block) (get name_cmp known q)) (sym a) ∙ sym (updates q) ∙ e in
            subst (λ (n : ℕ). (n < block_count image) × (upper_name image n ≡ q)) (same_Some block b h) (inside, is ∙ same_name name q a)
        | inr a ↦ k.leads q b (ap (λ (t : Bool). cond t (Some block) (get name_cmp known q)) (sym a) ∙ sym (updates q) ∙ e)
      ]

first_on : (image : List ℕ) (known later : BTreeMap (List ℕ) ℕ) (block : ℕ) (name : Option ℕ) → AreStillKnown known later → IsFirstName image known block name → IsFirstName image later block name
first_on image known later block None stay long = long
first_on image known later block (Some name) stay first = (first.0, stay.stay (upper_name image block) name first.1)

-- what the first blocks lead to, as many as a number says
pub record AreFirstSoFar (image : List ℕ) (known : BTreeMap (List ℕ) ℕ) (first : List (Option ℕ)) : Type 0 where
  pub each : (block : ℕ) (name : Option ℕ) → slice_get first block ≡ Some name → IsFirstName image known block name

pub first_none : (image : List ℕ) (known : BTreeMap (List ℕ) ℕ) → AreFirstSoFar image known []
first_none image known = record { each = λ block name e. absurd (omega (arith, slice_get_within [] block name e)) }

pub first_more : (image : List ℕ) (known later : BTreeMap (List ℕ) ℕ) (first : List (Option ℕ)) (n : ℕ) (new : Option ℕ) → length first ≡ n → AreStillKnown known later → AreFirstSoFar image known first
    → IsFirstName image later n new → AreFirstSoFar image later (first ++ new ∷ [])
first_more image known later first n new size stay f this = record {
  each = each_after_push (IsFirstName image later) first n new size this (λ block name e. first_on image known later block name stay (f.each block name e));
}

-- ---- names of the same entries

pub has_name_of : (image : List ℕ) (first : List (Option ℕ)) (block name : ℕ) → AreFirstNames image first → slice_get first block ≡ Some (Some name) → HasNameOf image block name
has_name_of image first block name f e =
    let is : HasShortName image block × (get name_cmp f.known (upper_name image block) ≡ Some name) = f.each block (Some name) e in
    let known = f.are_known.leads (upper_name image block) name is.1 in
    record { short = is.0; within = known.0; same = sym known.1 }

-- a block with a short name leads to some block
first_of_short : (image : List ℕ) (first : List (Option ℕ)) (block : ℕ) → AreFirstNames image first → block < block_count image → HasShortName image block → (name : ℕ) × (slice_get first block ≡ Some (Some name))
first_of_short image first block f within short = go (get_or first block None) (slice_get-get_or first block None (omega (arith, within, f.size)))
  where
    go : (o : Option ℕ) → slice_get first block ≡ Some o → (name : ℕ) × (slice_get first block ≡ Some (Some name))
    go None e = let long : ¬ HasShortName image block = f.each block None e in absurd (long short)
    go (Some name) e = (name, e)

-- two blocks with one name lead to the same block
same_first : (image : List ℕ) (first : List (Option ℕ)) (block other name last : ℕ) → AreFirstNames image first → slice_get first block ≡ Some (Some name) → slice_get first other ≡ Some (Some last)
    → upper_name image block ≡ upper_name image other → name ≡ last
same_first image first block other name last f e o same =
    let is : HasShortName image block × (get name_cmp f.known (upper_name image block) ≡ Some name) = f.each block (Some name) e in
    let was : HasShortName image other × (get name_cmp f.known (upper_name image other) ≡ Some last) = f.each other (Some last) o in
    same_Some name last (sym is.1 ∙ ap (get name_cmp f.known) same ∙ was.1)

-- ---- what was met in a directory

named_at : (met : List (Option Named)) (name : ℕ) (o : Option Named) → slice_get met name ≡ Some o → named_in met name ≡ o
named_at met name o e = ap (option_and_then (λ (named : Option Named). named)) e

pub named_is : (met : List (Option Named)) (name : ℕ) → name < length met → named_in met name ≡ get_or met name None
named_is met name l = named_at met name (get_or met name None) (slice_get-get_or met name None l)

none_past : (met : List (Option Named)) (name : ℕ) → length met ≤ name → named_in met name ≡ None
none_past met name l = ap (option_and_then (λ (named : Option Named). named)) (slice_get_past met name l)

set_here : (met : List (Option Named)) (name : ℕ) (new : Named) → name < length met → named_in (set met name (Some new)) name ≡ Some new
set_here met name new l =
    named_at (set met name (Some new)) name (Some new)
    (slice_get-get_or (set met name (Some new)) name (Some new) (omega (arith, l, length-set met name (Some new))) ∙ ap (λ (x : Option Named). Some x) (get_or-set_same met name (Some new) (Some new) l))

set_other : (met : List (Option Named)) (name other : ℕ) (new : Named) → other ≢ name → named_in (set met name (Some new)) other ≡ named_in met other
set_other met name other new apart = elim (cases_lt other (length met)) [
  | inl l ↦
      named_at (set met name (Some new)) other (get_or met other None)
      (slice_get-get_or (set met name (Some new)) other None (omega (arith, l, length-set met name (Some new))) ∙ ap (λ (x : Option Named). Some x) (get_or-set_other met name other (Some new) None apart))
      ∙ sym (named_at met other (get_or met other None) (slice_get-get_or met other None l))
  | inr past ↦ none_past (set met name (Some new)) other (omega (arith, past, length-set met name (Some new))) ∙ sym (none_past met other past)
]

pub names_none : (image : List ℕ) (met : List (Option Named)) → met ≡ replicate (block_count image) None → AreNamesMet image met
names_none image met none = record {
  size = ap length none ∙ length-replicate {A = Option Named} (block_count image) None;
  entry = λ name named e. absurd (nothing name named e);
  named = λ name named e. absurd (nothing name named e);
}
  where
    none_in : (name : ℕ) (named : Named) (o : Option (Option Named)) → slice_get (replicate (block_count image) None) name ≡ o → option_and_then (λ x. x) o ≡ Some named → ⊥
    none_in name named None is e = none-some named e
    none_in name named (Some x) is e = none-some named (same_there (block_count image) name None x is ∙ e)

    nothing : (name : ℕ) (named : Named) → named_in met name ≡ Some named → ⊥
    nothing name named e = none_in name named (slice_get (replicate (block_count image) None) name) refl (ap (λ (xs : List (Option Named)). named_in xs name) (sym none) ∙ e)

-- the first entry with a name in a directory
module _ (image : List ℕ) (met : List (Option Named)) (dir block name : ℕ) (m : AreNamesMet image met) (h : HasNameOf image block name) where
  within : name < length met
  within = omega (arith, h.within, m.size)

  pub names_more : IsEntryIn image dir block → AreNamesMet image (set met name (Some (named_of dir block)))
  names_more entry = record {
    size = length-set met name (Some (named_of dir block)) ∙ m.size;
    entry = λ other named e. elim (cases_eq other name) [
      | inl here ↦ subst (λ (n : Named). IsEntryIn image n.dir n.block) (is_new other named here e) entry
      | inr apart ↦ m.entry other named (sym (set_other met name other (named_of dir block) apart) ∙ e)
    ];
    named = λ other named e. elim (cases_eq other name) [
      | inl here ↦ subst (HasNameOf image named.block) (sym here) (subst (λ (n : Named). HasNameOf image n.block name) (is_new other named here e) h)
      | inr apart ↦ m.named other named (sym (set_other met name other (named_of dir block) apart) ∙ e)
    ];
  }
    where
      is_new : (other : ℕ) (named : Named) → other ≡ name → named_in (set met name (Some (named_of dir block))) other ≡ Some named → named_of dir block ≡ named
      is_new other named here e =
          same_Some (named_of dir block) named (sym (set_here met name (named_of dir block) within) ∙ ap (named_in (set met name (Some (named_of dir block)))) (sym here) ∙ e)

  -- what was met with the name
  pub met_here : (named : Named) → get_or met name None ≡ Some named → named.dir ≡ dir → named_in met name ≡ Some (named_of dir named.block)
  met_here named is e = named_is met name within ∙ is ∙ ap (λ (d : ℕ). Some (named_of d named.block)) e

  pub names_kept : ((other : ℕ) → get_or met name None ≡ Some (named_of dir other) → ⊥) → AreNamesKept dir met (set met name (Some (named_of dir block)))
  names_kept absent = record {
    stay = λ other b e. elim (cases_eq other name) [
      | inl here ↦ absurd (absent b (sym (named_is met name within) ∙ ap (named_in met) (sym here) ∙ e))
      | inr apart ↦ set_other met name other (named_of dir block) apart ∙ e
    ];
  }

  pub name_met : (cells : List Bool) → IsNameMet cells (set met name (Some (named_of dir block))) dir block name
  name_met cells = record {
    other = block;
    found = set_here met name (named_of dir block) within;
    here = λ n. absurd (n refl);
    there = λ n. absurd (n refl);
  }

met_on : (cells later : List Bool) (met further : List (Option Named)) (dir block name : ℕ) → AreStillNoted cells later → AreNamesKept dir met further → IsNameMet cells met dir block name → IsNameMet later further dir block name
met_on cells later met further dir block name on kept m = record {
  other = m.other;
  found = kept.stay name m.other m.found;
  here = λ n. on.stay (cell_of DuplicateName block) (m.here n);
  there = λ n. on.stay (cell_of DuplicateName m.other) (m.there n);
}

pub first_met_none : (cells : List Bool) (met : List (Option Named)) (first : List (Option ℕ)) (dir : ℕ) (blocks : List ℕ) → AreFirstMet cells met first dir blocks 0
first_met_none cells met first dir blocks = record { each = λ k block name l. absurd (omega (arith, l)) }

pub first_met_more : (cells later : List Bool) (met further : List (Option Named)) (first : List (Option ℕ)) (dir : ℕ) (blocks : List ℕ) (n block : ℕ) → slice_get blocks n ≡ Some block → AreStillNoted cells later
    → AreNamesKept dir met further → AreFirstMet cells met first dir blocks n → ((name : ℕ) → slice_get first block ≡ Some (Some name) → IsNameMet later further dir block name)
    → AreFirstMet later further first dir blocks (n + 1)
first_met_more cells later met further first dir blocks n block at on kept f this = record {
  each = λ k b name l e.
      one_more blocks (Met cells met) (Met later further) n block at (λ x old last is. met_on cells later met further dir x last on kept (old last is)) this (λ j x m q last. f.each j x last m q) k b l e name;
}
  where
    Met : List Bool → List (Option Named) → ℕ → Type 0
    Met notes names x = (last : ℕ) → slice_get first x ≡ Some (Some last) → IsNameMet notes names dir x last

-- of two entries with one name, one is not the first that was met
pub names_noted : (image : List ℕ) (cells : List Bool) (met : List (Option Named)) (first : List (Option ℕ)) (dir : ℕ) (blocks : List ℕ) (n : ℕ) → IsImage image → AreEntriesOf image dir blocks → AreFirstNames image first
    → AreFirstMet cells met first dir blocks n → length blocks ≤ n → AreNamesNoted image cells dir
names_noted image cells met first dir blocks n im entries f m all = record { noted = go }
  where
    met_of : (block s name : ℕ) → Reached image block (Entry dir s) → slice_get first block ≡ Some (Some name) → IsNameMet cells met dir block name
    met_of block s name h e =
        let c = entries.each block s h in
        m.each c.0 block name (omega (arith, c.1, all)) (slice_get-get_or blocks c.0 block c.1 ∙ ap (λ (x : ℕ). Some x) c.2) e

    go : (block other s t : ℕ) → Reached image block (Entry dir s) → Reached image other (Entry dir t) → HasShortName image block → HasShortName image other → upper_name image block ≡ upper_name image other
        → block ≢ other → IsNoted cells (cell_of DuplicateName block)
    go block other s t h o short other_short same two =
        let name = first_of_short image first block f (reached_inside image im h).1 short in
        let last = first_of_short image first other f (reached_inside image im o).1 other_short in
        let one : name.0 ≡ last.0 = same_first image first block other name.0 last.0 f name.1 last.1 same in
        let a = met_of block s name.0 h name.1 in
        let b = met_of other t last.0 o last.1 in
        let both : named_of dir a.other ≡ named_of dir b.other = same_Some (named_of dir a.other) (named_of dir b.other) (sym a.found ∙ ap (named_in met) one ∙ b.found) in
        let is : a.other ≡ b.other = ap (λ (x : Named). x.block) both in
        elim (cases_eq block a.other) [
          | inr apart ↦ a.here apart
          | inl here ↦ subst (λ (x : ℕ). IsNoted cells (cell_of DuplicateName x)) (sym (here ∙ is)) (b.there (λ z. two (here ∙ is ∙ sym z)))
        ]

-- ---- all directories

pub duplicates_on : (image : List ℕ) (cells later : List Bool) (dir : ℕ) → AreStillNoted cells later → AreNamesNoted image cells dir → AreNamesNoted image later dir
duplicates_on image cells later dir on n = record { noted = λ block b s t r q short long same two. on.stay (cell_of DuplicateName block) (n.noted block b s t r q short long same two) }

pub holder_of : (image : List ℕ) (dir : ℕ) → IsOfType image DIRECTORY_TYPE dir → HoldsEntries image dir
holder_of image dir (inl root) = inl root.0
holder_of image dir (inr e) = inr (record { dir = e.0; slot_of_chain = e.1; reached = e.2; secondary = e.3 })

-- what has no entries has none with one name
pub all_duplicates : (image : List ℕ) (cells : List Bool) → ((dir : ℕ) → IsOfType image DIRECTORY_TYPE dir → AreNamesNoted image cells dir) → AreDuplicatesNoted image cells
all_duplicates image cells each = record {
  noted = λ dir. record { noted = λ block other s t h o short long same two. (each dir (typed dir (dir_of image dir h s refl))).noted block other s t h o short long same two };
}
  where
    typed : (dir : ℕ) → HoldsEntries image dir → IsOfType image DIRECTORY_TYPE dir
    typed dir (inl root) = inl (root, refl)
    typed dir (inr e) = inr (e.dir, e.slot_of_chain, e.reached, e.secondary)

-- ---- entries of several directories

pub listed_none : (image : List ℕ) (cells : List Bool) (blocks : List ℕ) → blocks ≡ [] → AreListedNoted image cells blocks
listed_none image cells blocks none = record {
  closed = record { met = λ k l m. absurd (omega (arith, m, ap length none)) };
  noted = λ block other c. absurd (omega (arith, c.1, ap length none));
}

pub listed_on : (image : List ℕ) (cells later : List Bool) (blocks : List ℕ) → AreStillNoted cells later → AreListedNoted image cells blocks → AreListedNoted image later blocks
listed_on image cells later blocks on l = record { closed = l.closed; noted = λ block other c d short also same apart. on.stay _ (l.noted block other c d short also same apart) }

-- those of a directory that was gone through
pub listed_noted : (image : List ℕ) (cells : List Bool) (dir : ℕ) (blocks : List ℕ) → AreEntriesOf image dir blocks → AreNextMet image blocks (length blocks) → AreNamesNoted image cells dir → AreListedNoted image cells blocks
listed_noted image cells dir blocks e closed names = record {
  closed = closed;
  noted = λ block other c d short also same apart.
      let one : IsEntryIn image dir block = subst (IsEntryIn image dir) c.2 (e.entries c.0 block c.1) in
      let two : IsEntryIn image dir other = subst (IsEntryIn image dir) d.2 (e.entries d.0 other d.1) in
      names.noted block other one.0 two.0 one.1 two.1 short also same apart;
}

-- a directory whose chains all start among them has no others
pub names_of_listed : (image : List ℕ) (cells : List Bool) (dir : ℕ) (blocks : List ℕ) → AreListedNoted image cells blocks → AreSlotsMet image dir blocks 72 → AreNamesNoted image cells dir
names_of_listed image cells dir blocks l slots = record {
  noted = λ block other s t one two short also same apart.
      let each = each_entry image dir blocks (length blocks) slots l.closed (omega arith) in
      l.noted block other (each block s one) (each other t two) short also same apart;
}
