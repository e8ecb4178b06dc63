-- Files without a header are added to the entries.
use Rattle.ados_salvage.proofs.Common.{◌≡◌, ◌≢◌, ℕ, zero, suc, ◌+◌, ◌<◌, ◌≤◌, ◌⊎◌, inl, inr, Bool, All, AllPairs, List, [], ◌∷◌, ◌++◌, length, slice_index, get_or, Contains, Option, IsSome, is_some, sym, ap, ◌∙◌, subst, arith, set, get_or_default, get_or-map, map-append, map-set, set-get_or, All-push, All-set, Contains-append_cases, Contains-append_left, all_pairs_push, Gathered, Known, Salvaged, Lost, IsLost, AreSalvaged, IsListed, IsLoose, broken_length, broken_total, headers_of, AreAllHeaders, AreGatheredBy, place_at, IsGiving, AreSettled}
use Rattle.ados_salvage.specs.Doubtful.{IsHeader}
use Rattle.ados_salvage.specs.steps.Counting.{AreCounted, GivesMore}
use Rattle.ados_salvage.proofs.Growing.{broken_more}
use Rattle.ados_salvage.proofs.MissingBlocks.{counts_more, counts_set}
use Rattle.ados_salvage.proofs.Saving.{all_salvaged}

-- no file without a header was added yet
pub settles_none : (known : Known) (gathered : Gathered) → known.before ≡ 0 → AreGatheredBy known gathered → AreAllHeaders known gathered.places.items
    → ((block : ℕ) → IsLost known.left_out known.image block → IsSome (place_at gathered.places.items block)) → AreSettled known 0 gathered
settles_none known gathered none by met lost =
    let g = by.so_far in
    let headers : List ℕ = headers_of gathered.entries.items in
    record {
      sure = by.sure;
      salvaged = all_salvaged known gathered g none met lost;
      placed = λ block there.
          let is : slice_index headers there.0 ≡ block = get_or_default headers there.0 0 block there.1 ∙ there.2 in
          inl (subst (λ (b : ℕ). IsSome (place_at gathered.places.items b)) is (ap is_some (g.placed there.0 there.1)));
      giving = g.giving;
      bounded = g.bounded;
      counted = subst (λ (n : ℕ). AreCounted n known.left_out known.image gathered.entries.items gathered.giving.pieces.items) none g.counted;
    }

-- the entries of the list with these headers, other ones in their places, and more behind them
salvages_more : (out : List ℕ) (holes : List Bool) (fillers : Bool) (image : List ℕ) (old new : List Salvaged) → AreSalvaged out holes fillers image old → All (IsListed out holes fillers image) new → AllPairs (λ a b. a ≢ b) (headers_of new)
    → ((block : ℕ) → Contains (headers_of old) block → Contains (headers_of new) block) → AreSalvaged out holes fillers image new
salvages_more out holes fillers image old new s listed once kept = record {
  told = listed;
  once = once;
  sound = λ block is. kept block (s.sound block is);
  doubtful = λ block is. kept block (s.doubtful block is);
  lost = λ block is. kept block (s.lost block is);
}

at_last : (b header : ℕ) → Contains (header ∷ []) b → b < header + 1
at_last b header (zero, l, e) = omega (arith, e)
at_last b header (suc k, l, e) = absurd (omega (arith, l))

-- another entry with the header of one in its place
headers_set : (xs : List Salvaged) (n : ℕ) (e : Salvaged) → n < length xs → (get_or xs n e).header ≡ e.header → headers_of (set xs n e) ≡ headers_of xs
headers_set xs n e l same =
    let header : Salvaged → ℕ = λ entry. entry.header in
    let there : e.header ≡ get_or (headers_of xs) n e.header = sym same ∙ sym (get_or-map header xs n e e.header l) in
    map-set header xs n e ∙ ap (set (headers_of xs) n) there ∙ set-get_or (headers_of xs) n e.header

broken_set : (xs : List Salvaged) (n : ℕ) (e : Salvaged) → n < length xs
    → broken_total (set xs n e) + broken_length (get_or xs n e).state ≡ broken_total xs + broken_length e.state
unfolding broken_total
broken_set [] n e l = absurd (omega (arith, l))
broken_set (x ∷ xs) zero e l = omega arith
broken_set (x ∷ xs) (suc n) e l = omega (arith, broken_set xs n e (omega (arith, l)))

module _ (known : Known) (next : ℕ) (old new : Gathered) (s : AreSettled known next old) (places : new.places.items ≡ old.places.items) (giving : IsGiving known.holes.items known.image new.giving) where
  -- one more file without a header
  pub settles_more : (e : Salvaged) (header : ℕ) → next ≤ header → (IsSome (place_at old.places.items header) → ⊥) → e.header ≡ header → IsLoose known.left_out known.image header e.state
      → new.entries.items ≡ old.entries.items ++ e ∷ [] → broken_length e.state + new.giving.left ≡ old.giving.left
      → GivesMore known.image header (length old.entries.items) old.giving.pieces.items new.giving.pieces.items → AreSettled known (header + 1) new
  settles_more e header after free is loose grown left gives =
      let more_headers : headers_of new.entries.items ≡ headers_of old.entries.items ++ header ∷ [] =
      ap headers_of grown ∙ map-append (λ (entry : Salvaged). entry.header) old.entries.items (e ∷ []) ∙ ap (λ (b : ℕ). headers_of old.entries.items ++ b ∷ []) is in
      let listed : IsListed known.left_out known.holes.items known.fillers known.image e = inr (subst (λ (b : ℕ). IsLoose known.left_out known.image b e.state) (sym is) loose) in
      let other : (b : ℕ) → Contains (headers_of old.entries.items) b → b ≢ header = λ b there same. elim (s.placed b there) [
        | inl some ↦ free (subst (λ (k : ℕ). IsSome (place_at old.places.items k)) same some)
        | inr below ↦ absurd (omega (arith, below, after, same))
      ] in
      record {
        sure = s.sure;
        salvaged = salvages_more known.left_out known.holes.items known.fillers known.image old.entries.items new.entries.items s.salvaged
            (subst (All (IsListed known.left_out known.holes.items known.fillers known.image)) (sym grown) (All-push (IsListed known.left_out known.holes.items known.fillers known.image) old.entries.items e s.salvaged.told listed))
            (subst (AllPairs (λ a b. a ≢ b)) (sym more_headers) (all_pairs_push (λ (a : ℕ) (b : ℕ). a ≢ b) (headers_of old.entries.items) header s.salvaged.once
            (λ k d l. other (get_or (headers_of old.entries.items) k d) (k, l, get_or_default (headers_of old.entries.items) k _ d l))))
            (λ b there. subst (λ (xs : List ℕ). Contains xs b) (sym more_headers) (Contains-append_left (headers_of old.entries.items) (header ∷ []) b there));
        placed = λ b there. subst (λ (ps : List (Option ℕ)). IsSome (place_at ps b) ⊎ (b < header + 1)) (sym places)
            (elim (Contains-append_cases (headers_of old.entries.items) (header ∷ []) b (subst (λ (xs : List ℕ). Contains xs b) more_headers there)) [
              | inl before ↦ (elim (s.placed b before) [
                | inl some ↦ inl some
                | inr below ↦ inr (omega (arith, below, after))
              ])
              | inr last ↦ inr (at_last b header last)
            ]);
        giving = giving;
        bounded = omega (arith, s.bounded, ap broken_total grown, broken_more old.entries.items e, left);
        counted = counts_more 0 known.left_out known.image old.entries.items new.entries.items old.giving.pieces.items new.giving.pieces.items s.counted e grown
            (subst (λ (h : ℕ). GivesMore known.image h (length old.entries.items) old.giving.pieces.items new.giving.pieces.items) (sym is) gives)
            (λ told. absurd (loose.untold (subst (IsHeader known.left_out known.image) is told)));
      }

  -- no entry more, and nothing was given
  pub settles_same : (after : ℕ) → next ≤ after → new.entries.items ≡ old.entries.items → new.giving.left ≡ old.giving.left → new.giving.pieces.items ≡ old.giving.pieces.items → AreSettled known after new
  settles_same after more entries left given = record {
    sure = s.sure;
    salvaged = subst (AreSalvaged known.left_out known.holes.items known.fillers known.image) (sym entries) s.salvaged;
    placed = λ b there. subst (λ (ps : List (Option ℕ)). IsSome (place_at ps b) ⊎ (b < after)) (sym places)
        (elim (s.placed b (subst (λ (es : List Salvaged). Contains (headers_of es) b) entries there)) [
          | inl some ↦ inl some
          | inr below ↦ inr (omega (arith, below, more))
        ]);
    giving = giving;
    bounded = omega (arith, s.bounded, ap broken_total entries, left);
    counted = subst (λ (es : List Salvaged). AreCounted 0 known.left_out known.image es new.giving.pieces.items) (sym entries)
        (subst (AreCounted 0 known.left_out known.image old.entries.items) (sym given) s.counted);
  }

  -- a lost entry became a file without a header
  pub settles_lost : (place : ℕ) (was e d : Salvaged) → place < length old.entries.items → was ≡ get_or old.entries.items place d → e.header ≡ was.header → was.state ≡ Lost
      → IsLoose known.left_out known.image was.header e.state → new.entries.items ≡ set old.entries.items place e → broken_length e.state + new.giving.left ≡ old.giving.left
      → GivesMore known.image was.header place old.giving.pieces.items new.giving.pieces.items → AreSettled known next new
  settles_lost place was e d inside at same lost loose replaced left gives =
      let there : get_or old.entries.items place e ≡ was = get_or_default old.entries.items place e d inside ∙ sym at in
      let still : headers_of new.entries.items ≡ headers_of old.entries.items =
      ap headers_of replaced ∙ headers_set old.entries.items place e inside (ap (λ (entry : Salvaged). entry.header) there ∙ sym same) in
      let empty : broken_length (get_or old.entries.items place e).state ≡ 0 = ap (λ (entry : Salvaged). broken_length entry.state) there ∙ ap broken_length lost in
      let listed : IsListed known.left_out known.holes.items known.fillers known.image e = inr (subst (λ (b : ℕ). IsLoose known.left_out known.image b e.state) (sym same) loose) in
      record {
        sure = s.sure;
        salvaged = salvages_more known.left_out known.holes.items known.fillers known.image old.entries.items new.entries.items s.salvaged
            (subst (All (IsListed known.left_out known.holes.items known.fillers known.image)) (sym replaced) (All-set (IsListed known.left_out known.holes.items known.fillers known.image) old.entries.items place e listed s.salvaged.told))
            (subst (AllPairs (λ a b. a ≢ b)) (sym still) s.salvaged.once) (λ b there. subst (λ (xs : List ℕ). Contains xs b) (sym still) there);
        placed = λ b there. subst (λ (ps : List (Option ℕ)). IsSome (place_at ps b) ⊎ (b < next)) (sym places) (s.placed b (subst (λ (xs : List ℕ). Contains xs b) still there));
        giving = giving;
        bounded = omega (arith, s.bounded, ap broken_total replaced, broken_set old.entries.items place e inside, empty, left);
        counted = counts_set 0 known.left_out known.image old.entries.items new.entries.items old.giving.pieces.items new.giving.pieces.items s.counted place e e inside replaced
            (ap (λ (entry : Salvaged). entry.header) there ∙ sym same) (subst (λ (h : ℕ). GivesMore known.image h place old.giving.pieces.items new.giving.pieces.items) (sym same) gives)
            (λ told. loose.untold (subst (IsHeader known.left_out known.image) same told));
      }
