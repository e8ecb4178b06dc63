-- Directories on the way to a path, made one after the other.
use Rattle.std.proofs.Common.{◌≡◌, ℕ, zero, suc, ◌+◌, ◌<◌, ◌≤◌, nat_lt, Bool, true, false, Result, Ok, Err, List, [], ◌∷◌, ◌++◌, length, take, if◌then◌else◌, refl, sym, ap, ◌∙◌, subst, inr, arith}
use Rattle.adf_import.proofs.Common.{MatchResult, Date3, DosError, HasTree, Stands, Tree, Shown, MakesMissing, directory_at, AreDone}
use Rattle.std.proofs.lemmas.Bool.{ltb-false, ltb-true}
use Rattle.std.proofs.lemmas.List.{append-nil, append_assoc}
use Rattle.adf_import.specs.Commands.{Makes, MakesLast, MakesWay}
use Rattle.adf_import.specs.Turns.{StopsAtPath}
use Rattle.adf_import.specs.Turns.AreDone.{one_more}
use Rattle.adf_import.specs.Ways.{ends_front, fronts, fronts_before}

module _ (path : List ℕ) where
  -- a path that ends before this byte, or none
  one_front : (i : ℕ) → ends_front path i ≡ true → fronts_before path (suc i) ≡ fronts_before path i ++ take i path ∷ []
  one_front i is = ap (λ (b : Bool). fronts_before path i ++ (if b then take i path ∷ [] else [])) is

  pub no_front : (i : ℕ) → ends_front path i ≡ false → fronts_before path (suc i) ≡ fronts_before path i
  no_front i is = ap (λ (b : Bool). fronts_before path i ++ (if b then take i path ∷ [] else [])) is ∙ append-nil (fronts_before path i)

  -- the paths that end later come behind
  later : (i n : ℕ) → i ≤ n → (rest : List (List ℕ)) × (fronts_before path n ≡ fronts_before path i ++ rest)
  later i zero within =
      let e : zero ≡ i = omega (arith, within) in ([], ap (λ (n : ℕ). fronts_before path n) e ∙ sym (append-nil (fronts_before path i)))
  later i (suc n) within = go (nat_lt n i) refl (λ inside. later i n inside)
    where
      go : (b : Bool) → nat_lt n i ≡ b → (i ≤ n → (rest : List (List ℕ)) × (fronts_before path n ≡ fronts_before path i ++ rest))
          → (rest : List (List ℕ)) × (fronts_before path (suc n) ≡ fronts_before path i ++ rest)
      go true is before =
          let above = ltb-true n i is in
          let e : suc n ≡ i = omega (arith, within, above) in
          ([], ap (λ (m : ℕ). fronts_before path m) e ∙ sym (append-nil (fronts_before path i)))
      go false is before =
          let h = before (ltb-false n i is) in
          let more : List (List ℕ) = if ends_front path n then take n path ∷ [] else [] in
          (h.0 ++ more, ap (λ (fs : List (List ℕ)). fs ++ more) h.1 ∙ append_assoc (fronts_before path i) h.0 more)

module _ (moment : Date3) (path : List ℕ) (i : ℕ) (old between : Shown) (done : AreDone (MakesMissing moment) (fronts_before path i) old between) where
  -- the directory whose path ends before this byte is there
  pub front_more : (new : Shown) → ends_front path i ≡ true → MakesMissing moment (take i path) between new (Ok tt) → HasTree new.image
      → AreDone (MakesMissing moment) (fronts_before path (i + 1)) old new
  front_more new is made has =
      let e : suc i ≡ i + 1 = omega arith in
      subst (λ (n : ℕ). AreDone (MakesMissing moment) (fronts_before path n) old new) e
      (subst (λ (fs : List (List ℕ)). AreDone (MakesMissing moment) fs old new) (sym (one_front path i is)) (one_more (fronts_before path i) (take i path) done made has))

  -- no path ends before this byte
  pub front_none : ends_front path i ≡ false → AreDone (MakesMissing moment) (fronts_before path (i + 1)) old between
  front_none is =
      let e : suc i ≡ i + 1 = omega arith in
      subst (λ (n : ℕ). AreDone (MakesMissing moment) (fronts_before path n) old between) e
      (subst (λ (fs : List (List ℕ)). AreDone (MakesMissing moment) fs old between) (sym (no_front path i is)) done)

  -- the directory is refused
  pub front_stops : (new : Shown) (error : DosError) → i < length path → ends_front path i ≡ true → MakesMissing moment (take i path) between new (Err error)
      → StopsAtPath (MakesMissing moment) (fronts path) old new error
  front_stops new error inside is refused =
      let rest = later path (suc i) (length path) (omega (arith, inside)) in
      record {
        before = fronts_before path i;
        path = take i path;
        behind = rest.0;
        all = rest.1 ∙ ap (λ (fs : List (List ℕ)). fs ++ rest.0) (one_front path i is) ∙ append_assoc (fronts_before path i) (take i path ∷ []) rest.0;
        between = between;
        done = done;
        refused = refused;
      }

-- a directory that is not there is made
pub last_made : (moment : Date3) (path : List ℕ) (between looked new : Shown) (error : DosError) (r : Result Unit DosError) → looked ≡ between
    → ((t : Tree) → Stands between.image t → Err error ≡ directory_at path t) → Makes moment path looked new r → MakesLast moment path between new r
last_made moment path between looked new error r same missing h = λ t s.
    subst (λ (found : Result ℕ DosError). MatchResult found (λ (_ : ℕ). (new ≡ between) × (r ≡ Ok tt)) (λ (_ : DosError). Makes moment path between new r)) (missing t s)
    (subst (λ (v : Shown). Makes moment path v new r) same h)

-- behind those on the way the directory at the path is made
pub way_made : (moment : Date3) (path : List ℕ) (old between new : Shown) (r : Result Unit DosError) → AreDone (MakesMissing moment) (fronts path) old between
    → MakesLast moment path between new r → MakesWay moment path old new r
way_made moment path old between new (Ok a) done last = (between, done, last)
way_made moment path old between new (Err error) done last = inr (between, done, last)
