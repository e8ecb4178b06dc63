-- What is unchanged when nothing changes, and in headers with unchanged pointers.
use Rattle.ados_change.proofs.Common.{inl, ◌≡◌, ℕ, zero, suc, ◌<◌, ◌≤◌, true, false, List, ◌∷◌, slice_index, refl, ap, ◌∙◌, arith, ◌-◌, ap₂, long, nat_le, Bool, cond, ◌++◌, [], leb-true, pointer_count, first_pointers, pointers_of, KeepsFirstData, first_data, KeepsRest, TakesLowest, TakesNone}
use Rattle.ados_change.proofs.FilesStay.{same_untold}
use Rattle.ados_change.proofs.Uses.{uses_same}

-- ---- the first data block

module _ (old new : List ℕ) (b : ℕ) (count : pointer_count new b ≡ pointer_count old b) (same : (i : ℕ) → i < 72 → long new b (77 - i) ≡ long old b (77 - i)) where
  first_pointers_stay : (n : ℕ) → n ≤ 72 → first_pointers new b n ≡ first_pointers old b n
  first_pointers_stay zero l = refl
  first_pointers_stay (suc n) l = ap₂ (λ (xs : List ℕ) (x : ℕ). xs ++ x ∷ []) (first_pointers_stay n (omega arith)) (same n (omega arith))

  pointers_stay : pointers_of new b ≡ pointers_of old b
  pointers_stay = ap (λ (n : ℕ). cond (nat_le n 72) (first_pointers new b n) []) count ∙ go (nat_le (pointer_count old b) 72) refl
    where
      go : (v : Bool) → nat_le (pointer_count old b) 72 ≡ v → cond v (first_pointers new b (pointer_count old b)) [] ≡ cond v (first_pointers old b (pointer_count old b)) []
      go true e = first_pointers_stay (pointer_count old b) (leb-true (pointer_count old b) 72 e)
      go false e = refl

  pub first_stays : first_data new b ≡ first_data old b
  first_stays = ap (λ (xs : List ℕ). slice_index xs 0) pointers_stay

  -- a header whose long is unchanged as well
  pub header_stays : long new b 4 ≡ long old b 4 → KeepsFirstData old new b
  header_stays e = record { same = λ _. e; other = λ n. absurd (n first_stays) }

-- ---- no block is allocated, and nothing changes

-- if no block is allocated, the rule for allocated blocks holds
pub none_taken : (old new : List ℕ) → TakesNone old new → TakesLowest old new
none_taken old new none = record {
  lowest = λ block other m i was is. absurd (m.in_use (none block m.inside m.was_free));
  zero_else = λ block i role m r l n. absurd (m.in_use (none block m.inside m.was_free));
  first = λ block m f. absurd (m.in_use (none block m.inside m.was_free));
  data_rise = λ file f i j l m a b. absurd (a.in_use (none _ a.inside a.was_free));
  extensions_rise = λ file f i j l m a b. absurd (a.in_use (none _ a.inside a.was_free));
  in_turn = λ file f q i l m a b. absurd (a.in_use (none _ a.inside a.was_free));
  zero_end = λ file q i f a m. absurd (a.in_use (none _ a.inside a.was_free));
}

-- an unchanged image
pub same_keeps : (image : List ℕ) → KeepsRest image image
same_keeps image = record {
  kept = record {
    size = refl;
    boot = refl;
    others = λ block i role role' l r r' alike n. refl;
    first = λ file f g. record { same = λ _. refl; other = λ n. absurd (n refl) };
  };
  lowest = none_taken image image (λ block i free. free);
  freed = λ block inside free i l. refl;
  untold = same_untold image;
  uses = uses_same image;
  kinds = λ file key. inl key;
  bytes = λ image. image;
}
