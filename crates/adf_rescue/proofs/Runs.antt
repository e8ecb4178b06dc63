-- The runs of numbers that are left out of a list.
use Rattle.std.proofs.Common.{◌≡◌, ◌≢◌, ℕ, ◌+◌, ◌-◌, ◌<◌, ◌≤◌, ◌⊎◌, inl, inr, List, [], ◌∷◌, ◌++◌, length, get_or, min, All, Contains, sym, ap, ◌∙◌, subst, arith}
use Rattle.std.specs.Prelude.{Any}
use Rattle.std.specs.List.Sorted.{IsStrictlyIncreasing}
use Rattle.std.proofs.lemmas.Bool.{cases_lt, le-ltb, lt-ltb}
use Rattle.std.proofs.lemmas.List.{append-nil, get_or_append_left, get_or_default, length-append}
use Rattle.std.proofs.lemmas.List.Elements.{All-contains, All-nil, All-push, Contains-get_or}
use Rattle.std.proofs.lemmas.List.Kept.{AllPairs-from_increasing}
use Rattle.std.proofs.lemmas.List.Quantifiers.{Any-push, all_pairs_push}
use Rattle.adf_rescue.specs.declared.missing.Run.{Run}
use Rattle.ados_salvage.specs.Salvaged.{Saved}
use Rattle.adf_rescue.specs.Missing.{AreRuns, IsIn, IsLeftOut, IsMissing, block_total, given_to, missing_at, run_to}

-- some element has a property in a longer list too
any_more : {X : Type 0} (P : X → Type 0) (xs : List X) (y : X) → Any P xs → Any P (xs ++ y ∷ [])
any_more P xs y (k, x, l, at, p) = (k, x, omega (arith, l, length-append xs (y ∷ [])), get_or_append_left xs (y ∷ []) x k l ∙ at, p)

-- no runs
pub none_runs : (P : ℕ → Type 0) → ((k : ℕ) → ¬ P k) → AreRuns P []
none_runs P none = record { apart = λ i j d l m. absurd (omega (arith, m)); rising = All-nil _; only = All-nil _; all = λ k p. absurd (none k p) }

module _ (P Q : ℕ → Type 0) (runs : List Run) (first behind : ℕ) (are : AreRuns P runs) where
  -- no further run
  same_runs : ((k : ℕ) → P k → Q k) → ((k : ℕ) → Q k → P k) → AreRuns Q runs
  same_runs to from = record {
    apart = are.apart;
    rising = are.rising;
    only = λ i d l k inside. to k (are.only i d l k inside);
    all = λ k q. are.all k (from k q);
  }

  -- one more run behind them
  module _ (before : All (λ run. run.last + 1 < first) runs) (to : (k : ℕ) → P k → Q k) (new : (k : ℕ) → first ≤ k → k < behind → Q k) (from : (k : ℕ) → Q k → P k ⊎ ((first ≤ k) × (k < behind))) where
    abbrev run : Run
    run = record { first = first; last = behind - 1 }

    pushed_run : first < behind → AreRuns Q (runs ++ run ∷ [])
    pushed_run some = record {
      apart = all_pairs_push (λ (a b : Run). a.last + 1 < b.first) runs run are.apart before;
      rising = All-push (λ (r : Run). r.first ≤ r.last) runs run are.rising (omega (arith, some));
      only = All-push (λ (r : Run). (k : ℕ) → IsIn k r → Q k) runs run (λ i d l k inside. to k (are.only i d l k inside)) (λ k inside. new k inside.0 (omega (arith, inside.1, some)));
      all = λ k q. elim (from k q) [
        | inl p ↦ any_more (IsIn k) runs run (are.all k p)
        | inr here ↦ Any-push (IsIn k) runs run (here.0, omega (arith, here.1))
      ];
    }

    no_run : behind ≤ first → AreRuns Q runs
    no_run none = same_runs to (λ k q. elim (from k q) [
      | inl p ↦ p
      | inr here ↦ absurd (omega (arith, here.0, here.1, none))
    ])

    pub more_runs : AreRuns Q (runs ++ run_to first behind)
    more_runs = elim (cases_lt first behind) [
      | inl some ↦ rw (lt-ltb first behind some) (pushed_run some)
      | inr none ↦ rw (le-ltb first behind none) (subst (AreRuns Q) (sym (append-nil runs)) (no_run none))
    ]

-- ---- the numbers that an increasing list leaves out

module _ (numbers : List ℕ) (count : ℕ) where
  -- the numbers below another that are left out
  abbrev pub IsLeftBelow : ℕ → ℕ → Type 0
  IsLeftBelow next k = IsLeftOut numbers count k × (k < next)

  -- the runs of the numbers below the next one, behind the first i of the list
  pub record AreRunsBelow (i next : ℕ) (runs : List Run) : Type 0 where
    pub runs_are : AreRuns (IsLeftBelow next) runs
    pub before : All (λ run. run.last + 1 < next) runs
    pub passed : (j : ℕ) → j < i → get_or numbers j 0 < next
    pub ahead : (j : ℕ) → i ≤ j → j < length numbers → next ≤ get_or numbers j 0

  pub runs_none : AreRunsBelow 0 0 []
  runs_none = record {
    runs_are = none_runs (IsLeftBelow 0) (λ k left. absurd (omega (arith, left.1)));
    before = All-nil (λ (run : Run). run.last + 1 < 0);
    passed = λ j l. absurd (omega (arith, l));
    ahead = λ j l m. omega arith;
  }

  module _ (i next : ℕ) (runs : List Run) (so_far : AreRunsBelow i next runs) where
    -- what is in the list is passed, or is at least the number at i
    places : (k : ℕ) → Contains numbers k → (k < next) ⊎ ((j : ℕ) × (i ≤ j) × (j < length numbers) × (get_or numbers j 0 ≡ k))
    places k (j, l, at) = elim (cases_lt j i) [
      | inl low ↦ inl (omega (arith, so_far.passed j low, here))
      | inr high ↦ inr (j, omega (arith, high), l, here)
    ]
      where
        here : get_or numbers j 0 ≡ k
        here = get_or_default numbers j 0 k l ∙ at

    module _ (rise : IsStrictlyIncreasing numbers) (inside : i < length numbers) (number : ℕ) (is : number ≡ get_or numbers i 0) where
      -- a number behind it is not lower
      not_lower : (j : ℕ) → i ≤ j → j < length numbers → number ≤ get_or numbers j 0
      not_lower j le l = elim (cases_lt i j) [
        | inl low ↦ omega (arith, is, AllPairs-from_increasing numbers rise i j 0 low l)
        | inr high ↦ (let same : i ≡ j = omega (arith, le, high) in omega (arith, is, ap (λ (k : ℕ). get_or numbers k 0) same))
      ]

      has : Contains numbers number
      has = subst (Contains numbers) (sym is) (Contains-get_or numbers i 0 inside)

      new : (k : ℕ) → next ≤ k → k < min number count → IsLeftBelow (number + 1) k
      new k le l = (
        record {
          below = omega (arith, l);
          out = λ there. elim (places k there) [
            | inl low ↦ absurd (omega (arith, low, le))
            | inr (j, from, within, at) ↦ absurd (omega (arith, not_lower j from within, at, l))
          ];
        },
        omega (arith, l),
      )

      from : (k : ℕ) → IsLeftBelow (number + 1) k → IsLeftBelow next k ⊎ ((next ≤ k) × (k < min number count))
      from k (left, l) = elim (cases_lt k next) [
        | inl low ↦ inl (left, low)
        | inr high ↦ (let other : k ≢ number = λ e. left.out (subst (Contains numbers) (sym e) has) in inr (omega (arith, high), omega (arith, left.below, l, other)))
      ]

      next_before : All (λ run. run.last + 1 < number + 1) (runs ++ run_to next (min number count))
      next_before = elim (cases_lt next (min number count)) [
        | inl some ↦ rw (lt-ltb next (min number count) some) (All-push (λ (run : Run). run.last + 1 < number + 1) runs (record { first = next; last = min number count - 1 }) old (omega (arith, some)))
        | inr none ↦ rw (le-ltb next (min number count) none) (subst (All (λ (run : Run). run.last + 1 < number + 1)) (sym (append-nil runs)) old)
      ]
        where
          old : All (λ run. run.last + 1 < number + 1) runs
          old = λ k d l. omega (arith, so_far.before k d l, so_far.ahead i (omega arith) inside, is)

      pub runs_on : AreRunsBelow (i + 1) (number + 1) (runs ++ run_to next (min number count))
      runs_on = record {
        runs_are = more_runs (IsLeftBelow next) (IsLeftBelow (number + 1)) runs next (min number count) so_far.runs_are so_far.before
            (λ k left. (left.0, omega (arith, left.1, so_far.ahead i (omega arith) inside, is))) new from;
        before = next_before;
        passed = λ j l. elim (cases_lt j i) [
          | inl low ↦ omega (arith, so_far.passed j low, so_far.ahead i (omega arith) inside, is)
          | inr high ↦ (let same : j ≡ i = omega (arith, l, high) in omega (arith, is, ap (λ (k : ℕ). get_or numbers k 0) same))
        ];
        ahead = λ j le l. omega (arith, is, AllPairs-from_increasing numbers rise i j 0 (omega (arith, le)) l);
      }

    -- behind all of them
    pub runs_all : length numbers ≤ i → AreRuns (IsLeftOut numbers count) (runs ++ run_to next count)
    runs_all end = more_runs (IsLeftBelow next) (IsLeftOut numbers count) runs next count so_far.runs_are so_far.before
        (λ k left. left.0)
        (λ k le l. record {
          below = l;
          out = λ there. elim (places k there) [
            | inl low ↦ absurd (omega (arith, low, le))
            | inr (j, from, within, at) ↦ absurd (omega (arith, from, within, end))
          ];
        })
        (λ k left. elim (cases_lt k next) [
          | inl low ↦ inl (left, low)
          | inr high ↦ inr (omega (arith, high), left.below)
        ])

-- the same of a list with the same numbers
pub runs_of_same : (numbers others : List ℕ) (count : ℕ) (runs : List Run) → All (Contains others) numbers → All (Contains numbers) others → AreRuns (IsLeftOut others count) runs → AreRuns (IsLeftOut numbers count) runs
runs_of_same numbers others count runs to from are = same_runs (IsLeftOut others count) (IsLeftOut numbers count) runs 0 0 are
    (λ k left. record { below = left.below; out = λ there. left.out (All-contains (Contains others) numbers k to there) })
    (λ k left. record { below = left.below; out = λ there. left.out (All-contains (Contains numbers) others k from there) })

-- the runs of the missing data blocks of an entry, by the numbers that were given to it and how many are missing
pub missing_here : (saved : Saved) (place : ℕ) (numbers : List ℕ) (missing : ℕ) (runs : List Run) → numbers ≡ given_to saved.given place → missing ≡ missing_at saved.entries place
    → AreRuns (IsLeftOut numbers (block_total numbers missing)) runs → AreRuns (IsMissing saved place) runs
missing_here saved place numbers missing runs given count are =
    subst (λ (m : ℕ). AreRuns (IsLeftOut (given_to saved.given place) (block_total (given_to saved.given place) m)) runs) count
    (subst (λ (l : List ℕ). AreRuns (IsLeftOut l (block_total l missing)) runs) given are)
