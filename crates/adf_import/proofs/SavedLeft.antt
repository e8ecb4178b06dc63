-- What a new volume has not of a salvage, and why.
use Rattle.std.proofs.Common.{◌≡◌, ℕ, ◌+◌, ◌<◌, ◌≤◌, ◌⊎◌, inl, inr, ◌&&◌, Bool, true, false, not, if◌then◌else◌, List, [], ◌∷◌, ◌++◌, length, get_or, Option, None, Some, All, AllPairs, Any, Contains, slice_get, refl, sym, ap, ◌∙◌, subst, arith, append-nil, eq-or-lt_of_le}
use Rattle.std.proofs.lemmas.List.{map-append}
use Rattle.std.proofs.lemmas.List.Elements.{All-get_or, All-nil, All-push, All-weaker, Contains-append_left, Contains-append_right}
use Rattle.std.proofs.lemmas.List.Quantifiers.{all_pairs_push}
use Rattle.std.proofs.lemmas.Option.{slice_get_cases, slice_get_read}
use Rattle.adf_import.proofs.Common.{Stands, Tree, is_file}
use Rattle.ados_salvage.specs.Salvaged.{Saved}
use Rattle.ados_salvage.specs.declared.salvaged.Salvaged.{Salvaged}
use Rattle.ados_salvage.specs.declared.salvaged.State.{State}
use Rattle.ados_salvage.specs.declared.salvaged.State.TheVariants as states
use Rattle.adf_import.specs.SavedLeft.{AreLeftOut, HasReason, IsLeftOut, IsTaken, is_directory}
use Rattle.adf_import.specs.SavedVolume.{AreSaved, IsLostState, IsSavedIn, places_of, spot_of}
use Rattle.adf_import.specs.declared.saved_left.LeftOut.{LeftOut}
use Rattle.adf_import.specs.declared.saved_left.LeftOut.TheVariants.{Joined, Taken}
use Rattle.adf_import.specs.declared.saved_look.Looked.{Looked}
use Rattle.adf_import.specs.declared.saved_names.OwnNames.{OwnNames}
use Rattle.adf_import.specs.declared.saved_volume.LeftEntry.{LeftEntry}
use Rattle.adf_import.specs.steps.Spots.{IsFoundAt, IsLooked, IsObjectAt, IsOfOther, IsTold, left_at}

-- an entry that is left out
abbrev pub left_entry : ℕ → LeftOut → LeftEntry
left_entry place why = record { place = place; why = why }

-- there is an entry at each position
pub entry_there : (entries : List Salvaged) (place : ℕ) → place < length entries → (entry : Salvaged) × (slice_get entries place ≡ Some entry)
entry_there entries place inside = go (slice_get_cases entries place).1
  where
    go : ((entry : Salvaged) × (place < length entries) × (slice_get entries place ≡ Some entry) × (get_or entries place entry ≡ entry)) ⊎ ((length entries ≤ place) × (slice_get entries place ≡ None))
        → (entry : Salvaged) × (slice_get entries place ≡ Some entry)
    go (inl (entry, low, at, same)) = (entry, at)
    go (inr (past, none)) = absurd (omega (arith, past, inside))

-- two entries at a position are one
pub same_entry : (entries : List Salvaged) (place : ℕ) (entry read : Salvaged) → slice_get entries place ≡ Some entry → slice_get entries place ≡ Some read → entry ≡ read
same_entry entries place entry read at is = let both : Some entry ≡ Some read = sym at ∙ is in cc both

-- an entry that was read at a position is the one there
pub read_entry : (entries told : List Salvaged) (place : ℕ) (entry read : Salvaged) → told ≡ entries → read ≡ get_or told place read → place < length entries → slice_get entries place ≡ Some entry → entry ≡ read
read_entry entries told place entry read same is inside at =
    same_entry entries place entry read at (slice_get_read entries (length entries) place read refl inside (subst (λ (es : List Salvaged). read ≡ get_or es place read) same is))

-- nothing is left of an entry only if it is lost
pub not_lost : (state : State) → ¬ (state ≡ states.Lost) → ¬ IsLostState state
not_lost states.Lost other lost = other refl
not_lost states.Directory other lost = lost
not_lost states.DoubtfulDirectory other lost = lost
not_lost states.Whole other lost = lost
not_lost (states.Doubtful header length) other lost = lost
not_lost (states.Broken missing cut length) other lost = lost

pub lost_state : (state : State) → state ≡ states.Lost → IsLostState state
lost_state state is = subst IsLostState (sym is) tt

module _ (image : List ℕ) (saved : Saved) (own : OwnNames) (t : Tree) (s : Stands image t) where
  -- an entry of which everything was found is in the volume
  pub saved_in : (place key : ℕ) (entry : Salvaged) → slice_get saved.entries place ≡ Some entry → IsObjectAt image saved own (spot_of place entry) key true
      → IsSavedIn t saved own place entry
  saved_in place key entry at o = record { key = key; at_path = o.there t s; same = o.same t s refl entry at }

  -- what is at the path of an entry is what was found at another place
  pub taken_by : (place key : ℕ) (entry : Salvaged) (looked : List Looked) (saved_here : Bool) → IsObjectAt image saved own (spot_of place entry) key saved_here → All (IsLooked image saved own) looked
      → Any (IsOfOther (spot_of place entry) key) looked → (both : Bool) → (is_directory entry.state && not (is_file t key)) ≡ both → IsTaken t saved own (spot_of place entry) entry.state both
  taken_by place key entry looked saved_here o all (k, other, inside, is, (apart, there)) both directories =
      let known : IsLooked image saved own other = subst (IsLooked image saved own) is (all k other inside) in
      let seen : IsObjectAt image saved own other.spot key true = subst (IsFoundAt image saved own other.spot) there known in
      record {
        key = key;
        at_path = o.there t s;
        other = other.spot;
        differs = apart;
        at_other = seen.there t s;
        same = seen.same t s refl;
        directories = directories;
      }

-- the reason of an entry whose name is taken says whether both are directories
pub taken_reason : (t : Tree) (saved : Saved) (own : OwnNames) (place : ℕ) (entry : Salvaged) (both : Bool) → IsTaken t saved own (spot_of place entry) entry.state both
    → HasReason t saved own place entry (if both then Joined else Taken)
taken_reason t saved own place entry true taken = taken
taken_reason t saved own place entry false taken = taken

-- each entry before this position is there, or it is left out for its reason; no other one is left out
pub record AreToldBelow (t : Tree) (saved : Saved) (own : OwnNames) (left : List LeftEntry) (n : ℕ) : Type 0 where
  pub told : (place : ℕ) (entry : Salvaged) → place < n → slice_get saved.entries place ≡ Some entry
      → IsLostState entry.state ⊎ IsSavedIn t saved own place entry ⊎ Contains (places_of left) place
  pub below : All (λ (place : ℕ). place < n) (places_of left)
  pub in_order : AllPairs (λ (a b : ℕ). a < b) (places_of left)
  pub reasons : All (IsLeftOut t saved own) left

pub none_told : (t : Tree) (saved : Saved) (own : OwnNames) → AreToldBelow t saved own [] 0
none_told t saved own = record {
  told = λ place entry low at. absurd (omega (arith, low));
  below = All-nil (λ (place : ℕ). place < 0);
  in_order = λ i j d low inside. absurd (omega (arith, inside));
  reasons = All-nil (IsLeftOut t saved own);
}

-- the first place is the last one, or before it
last_or_before : (place n : ℕ) → place < n + 1 → (place ≡ n) ⊎ (place < n)
last_or_before place n lt = let le : place ≤ n = omega (arith, lt) in eq-or-lt_of_le le

module _ (t : Tree) (saved : Saved) (own : OwnNames) (left : List LeftEntry) (n : ℕ) (read : Salvaged) (at : slice_get saved.entries n ≡ Some read) (before : AreToldBelow t saved own left n) where
  -- what is told of the positions below the next one, if it is told of this one
  told_more : (more : List LeftEntry) → IsLostState read.state ⊎ IsSavedIn t saved own n read ⊎ Contains (places_of (left ++ more)) n
      → (place : ℕ) (entry : Salvaged) → place < n + 1 → slice_get saved.entries place ≡ Some entry
      → IsLostState entry.state ⊎ IsSavedIn t saved own place entry ⊎ Contains (places_of (left ++ more)) place
  told_more more here place entry low there = go (last_or_before place n low)
    where
      go : (place ≡ n) ⊎ (place < n) → IsLostState entry.state ⊎ IsSavedIn t saved own place entry ⊎ Contains (places_of (left ++ more)) place
      go (inl same) =
          let is : entry ≡ read = same_entry saved.entries n entry read (ap (slice_get saved.entries) (sym same) ∙ there) at in
          subst (λ (e : Salvaged). IsLostState e.state ⊎ IsSavedIn t saved own place e ⊎ Contains (places_of (left ++ more)) place) (sym is)
          (subst (λ (p : ℕ). IsLostState read.state ⊎ IsSavedIn t saved own p read ⊎ Contains (places_of (left ++ more)) p) (sym same) here)
      go (inr less) = later (before.told place entry less there)
        where
          later : IsLostState entry.state ⊎ IsSavedIn t saved own place entry ⊎ Contains (places_of left) place
              → IsLostState entry.state ⊎ IsSavedIn t saved own place entry ⊎ Contains (places_of (left ++ more)) place
          later (inl lost) = inl lost
          later (inr (inl there)) = inr (inl there)
          later (inr (inr out)) =
              inr (inr (subst (λ (xs : List ℕ). Contains xs place) (sym (map-append (λ (e : LeftEntry). e.place) left more))
              (Contains-append_left (places_of left) (places_of more) place out)))

  below_more : All (λ (place : ℕ). place < n + 1) (places_of left)
  below_more = All-weaker (λ (place : ℕ). place < n) (λ (place : ℕ). place < n + 1) (λ (place : ℕ) low. omega (arith, low)) (places_of left) before.below

  pub none_more : IsLostState read.state ⊎ IsSavedIn t saved own n read → AreToldBelow t saved own (left ++ []) (n + 1)
  none_more here = record {
    told = told_more [] (spread here);
    below = subst (λ (xs : List LeftEntry). All (λ (place : ℕ). place < n + 1) (places_of xs)) (sym (append-nil left)) below_more;
    in_order = subst (λ (xs : List LeftEntry). AllPairs (λ (a b : ℕ). a < b) (places_of xs)) (sym (append-nil left)) before.in_order;
    reasons = subst (All (IsLeftOut t saved own)) (sym (append-nil left)) before.reasons;
  }
    where
      spread : IsLostState read.state ⊎ IsSavedIn t saved own n read → IsLostState read.state ⊎ IsSavedIn t saved own n read ⊎ Contains (places_of (left ++ [])) n
      spread (inl lost) = inl lost
      spread (inr there) = inr (inl there)

  pub one_left : (why : LeftOut) → ¬ IsLostState read.state → HasReason t saved own n read why
      → AreToldBelow t saved own (left ++ left_entry n why ∷ []) (n + 1)
  one_left why not_lost reason = record {
    told = told_more (left_entry n why ∷ []) (inr (inr (subst (λ (xs : List ℕ). Contains xs n) places (Contains-append_right (places_of left) (n ∷ []) n (0, omega arith, refl)))));
    below = subst (All (λ (place : ℕ). place < n + 1)) places (All-push (λ (place : ℕ). place < n + 1) (places_of left) n below_more (omega arith));
    in_order = subst (AllPairs (λ (a b : ℕ). a < b)) places
        (all_pairs_push (λ (a b : ℕ). a < b) (places_of left) n before.in_order (λ k d inside. All-get_or (λ (place : ℕ). place < n) (places_of left) k d inside before.below));
    reasons = All-push (IsLeftOut t saved own) left (left_entry n why) before.reasons (record { entry = read; there = at; not_lost = not_lost; reason = reason });
  }
    where
      places : places_of left ++ n ∷ [] ≡ places_of (left ++ left_entry n why ∷ [])
      places = sym (map-append (λ (e : LeftEntry). e.place) left (left_entry n why ∷ []))

  pub more_told : (why : Option LeftOut) → IsTold t saved own n read why → AreToldBelow t saved own (left ++ left_at n why) (n + 1)
  more_told None told = none_more told
  more_told (Some why) told = one_left why told.0 told.1

-- all entries are there, or left out for their reasons
pub all_saved : (t : Tree) (saved : Saved) (own : OwnNames) (left : List LeftEntry) (n : ℕ) → length saved.entries ≤ n → AreToldBelow t saved own left n
    → ((place : ℕ) (entry : Salvaged) → slice_get saved.entries place ≡ Some entry → place < length saved.entries) → AreSaved t saved own left
all_saved t saved own left n all below within = λ place entry at. below.told place entry (omega (arith, within place entry at, all)) at

pub all_left : (t : Tree) (saved : Saved) (own : OwnNames) (left : List LeftEntry) (n : ℕ) → AreToldBelow t saved own left n → AreLeftOut t saved own left
all_left t saved own left n below = record { in_order = below.in_order; reasons = below.reasons }
