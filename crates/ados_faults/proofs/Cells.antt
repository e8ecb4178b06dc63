-- The cells of faults, and the faults in the order of their cells.
use Rattle.ados_faults.proofs.Common.{◌≡◌, ◌≢◌, ℕ, zero, suc, ◌+◌, ◌<◌, ◌≤◌, ◌⊎◌, inl, inr, Bool, true, false, List, [], ◌∷◌, ◌++◌, length, get_or, set, refl, sym, ap, ap₂, ◌∙◌, subst, arith, length-set, get_or-set_same, get_or-set_other, cases_Bool, cases_eq, cases_lt, cases_order, false≢true, get_or_default, length_push, All-push, Contains-append_left, Contains-push, All, AllPairs, Contains, all_pairs_push, block_count, FaultKind, NotADosDisk, UnsupportedKind, BadSum, BadType, BadOwnKey, BadParent, BadPointer, BlockUsedTwice, WrongChain, BadName, DuplicateName, BadComment, BadCount, BadSequence, LinkEntry, MarkedFree, NoMemory, Shows, AreFirstFaults, ShowsMoreThan, fault_of, rank, StandsBefore, AreListed, AreNoted, AreStillNoted, IsFull, IsNoted, ListsNoted, cell_at, cell_of, VolumeFault}

all_kinds : List FaultKind
all_kinds = NotADosDisk ∷ UnsupportedKind ∷ BadSum ∷ BadType ∷ BadOwnKey ∷ BadParent ∷ BadPointer ∷ BlockUsedTwice ∷ WrongChain ∷ BadName ∷ DuplicateName ∷ BadComment ∷ BadCount ∷ BadSequence ∷ LinkEntry ∷ MarkedFree ∷ NoMemory ∷ []

-- a kind by its number
ranked : (kind : FaultKind) → (rank kind < 17) × (get_or all_kinds (rank kind) NoMemory ≡ kind)
unfolding all_kinds
ranked NotADosDisk = (omega arith, refl)
ranked _ = (omega arith, refl)

pub rank_small : (kind : FaultKind) → rank kind < 17
rank_small kind = (ranked kind).0

-- a number belongs to one kind
one_kind : (kind other : FaultKind) → rank kind ≡ rank other → kind ≡ other
one_kind kind other e = sym (ranked kind).1 ∙ ap (λ (r : ℕ). get_or all_kinds r NoMemory) e ∙ (ranked other).1

-- a cell belongs to one kind of one block
one_cell : (kind other : FaultKind) (block b : ℕ) → cell_of kind block ≡ cell_of other b → (kind ≡ other) × (block ≡ b)
one_cell kind other block b e =
    let k = rank_small kind in
    let o = rank_small other in
    let blocks : block ≡ b = omega (arith, k, o, e) in
    let ranks : rank kind ≡ rank other = omega (arith, e, blocks) in
    (one_kind kind other ranks, blocks)

pub cell_within : (image : List ℕ) (cells : List Bool) (kind : FaultKind) (block : ℕ) → AreNoted image cells → block < block_count image → cell_of kind block < length cells
cell_within image cells kind block n l = omega (arith, rank_small kind, n.size, l)

-- one more cell is set
pub noted_more : (image : List ℕ) (cells : List Bool) (kind : FaultKind) (block : ℕ) → AreNoted image cells → block < block_count image → Shows image kind block
    → AreNoted image (set cells (cell_of kind block) true)
noted_more image cells kind block n l h = record {
  size = length-set cells (cell_of kind block) true ∙ n.size;
  shown = λ k b e. go k b e (cases_order (cell_of k b) (cell_of kind block));
}
  where
    old : (k : FaultKind) (b : ℕ) → cell_of k b ≢ cell_of kind block → IsNoted (set cells (cell_of kind block) true) (cell_of k b) → Shows image k b
    old k b other e = n.shown k b (sym (get_or-set_other cells (cell_of kind block) (cell_of k b) true false other) ∙ e)

    go : (k : FaultKind) (b : ℕ) → IsNoted (set cells (cell_of kind block) true) (cell_of k b) → (cell_of k b ≡ cell_of kind block) ⊎ ((cell_of k b < cell_of kind block) ⊎ (cell_of kind block < cell_of k b)) → Shows image k b
    go k b e (inl here) =
        let same = one_cell kind k block b (sym here) in
        subst (λ (x : FaultKind). Shows image x b) same.0 (subst (λ (x : ℕ). Shows image kind x) same.1 h)
    go k b e (inr (inl before)) = old k b (λ z. omega (arith, z, before)) e
    go k b e (inr (inr after)) = old k b (λ z. omega (arith, z, after)) e

pub noted_here : (image : List ℕ) (cells : List Bool) (kind : FaultKind) (block : ℕ) → AreNoted image cells → block < block_count image → IsNoted (set cells (cell_of kind block) true) (cell_of kind block)
noted_here image cells kind block n l = get_or-set_same cells (cell_of kind block) true false (cell_within image cells kind block n l)

pub still_noted : (image : List ℕ) (cells : List Bool) (kind : FaultKind) (block : ℕ) → AreNoted image cells → block < block_count image → AreStillNoted cells (set cells (cell_of kind block) true)
still_noted image cells kind block n l = record {
  stay = λ cell e. elim (cases_eq cell (cell_of kind block)) [
    | inl here ↦ subst (IsNoted (set cells (cell_of kind block) true)) (sym here) (noted_here image cells kind block n l)
    | inr apart ↦ get_or-set_other cells (cell_of kind block) cell true false apart ∙ e
  ];
}

-- first some are noted, then others
pub noted_on : {cells later last : List Bool} → AreStillNoted cells later → AreStillNoted later last → AreStillNoted cells last
noted_on a b = record { stay = λ cell e. b.stay cell (a.stay cell e) }

-- ---- the list

before_by_cell : (fault other : VolumeFault) → cell_at fault < cell_at other → StandsBefore fault other
before_by_cell fault other l = elim (cases_lt fault.block other.block) [
  | inl below ↦ inl below
  | inr not_below ↦
      (let k = rank_small fault.kind in
      let o = rank_small other.kind in
      let blocks : fault.block ≡ other.block = omega (arith, k, o, l, not_below) in
      inr (blocks, omega (arith, l, blocks)))
]

-- a set cell is one of the cells
pub set_within : (cells : List Bool) (cell : ℕ) → IsNoted cells cell → cell < length cells
set_within [] cell e = absurd (false≢true e)
set_within (x ∷ xs) zero e = omega arith
set_within (x ∷ xs) (suc cell) e = let l = set_within xs cell e in omega (arith, l)

pub none_listed : (image : List ℕ) (cells : List Bool) (most : ℕ) → AreListed image cells most 0 []
none_listed image cells most = record {
  lists = record { shown = λ k d l. absurd (omega (arith, l)); in_order = λ i j d l m. absurd (omega (arith, m)); few = omega arith };
  count = omega arith;
  cells_below = λ k d l. absurd (omega (arith, l));
  some = λ cell l e. absurd (omega (arith, l));
  each = λ kind block l e. absurd (omega (arith, l));
}

module _ (image : List ℕ) (cells : List Bool) (most below : ℕ) (faults : List VolumeFault) (n : AreNoted image cells) (a : AreListed image cells most below faults) where
  -- the fault of a set cell, after the list
  module _ (fault : VolumeFault) (here : cell_at fault ≡ below) (is_set : get_or cells below false ≡ true) where
    pushed_shown : All (λ (f : VolumeFault). Shows image f.kind f.block) (faults ++ fault ∷ [])
    pushed_shown = All-push (λ (f : VolumeFault). Shows image f.kind f.block) faults fault a.lists.shown (n.shown fault.kind fault.block (ap (λ (c : ℕ). get_or cells c false) here ∙ is_set))

    pushed_order : AllPairs StandsBefore (faults ++ fault ∷ [])
    pushed_order = all_pairs_push StandsBefore faults fault a.lists.in_order (λ k d l. before_by_cell (get_or faults k d) fault (let b = a.cells_below k d l in omega (arith, b, here)))

    -- a list without room for it
    pub listed_full : length faults ≡ most → IsFull image cells most faults
    listed_full full = record {
      lists = a.lists;
      full = full;
      room = let few = a.count in omega (arith, full, few, set_within cells below is_set);
      first = λ kind block e. elim (cases_lt (cell_of kind block) below) [
        | inl before ↦ inl (a.each kind block before e)
        | inr not_before ↦ inr (λ k d l. before_by_cell (get_or faults k d) (fault_of kind block) (let b = a.cells_below k d l in omega (arith, b, not_before)))
      ];
      more = record { faults = faults ++ fault ∷ []; shown = pushed_shown; in_order = pushed_order; many = omega (arith, length_push faults fault, full) };
    }

  -- a cell that is set
  pub listed_more : (fault : VolumeFault) → cell_at fault ≡ below → get_or cells below false ≡ true → length faults < most → AreListed image cells most (below + 1) (faults ++ fault ∷ [])
  listed_more fault here is_set room = record {
    lists = record {
      shown = pushed_shown fault here is_set;
      in_order = pushed_order fault here is_set;
      few = omega (arith, grown, room);
    };
    count = let few = a.count in omega (arith, grown, few);
    cells_below = All-push (λ (f : VolumeFault). cell_at f < below + 1) faults fault (λ k d l. let b = a.cells_below k d l in omega (arith, b)) (omega (arith, here));
    some = λ cell l e. omega (arith, grown);
    each = λ kind block l e. elim (cases_lt (cell_of kind block) below) [
      | inl before ↦ Contains-append_left faults (fault ∷ []) (fault_of kind block) (a.each kind block before e)
      | inr not_before ↦
          (let at : cell_of fault.kind fault.block ≡ cell_of kind block = omega (arith, l, not_before, here) in
          subst (Contains (faults ++ fault ∷ [])) (same_fault fault kind block at) (Contains-push faults fault))
    ];
  }
    where
      same_fault : (f : VolumeFault) (kind : FaultKind) (block : ℕ) → cell_of f.kind f.block ≡ cell_of kind block → f ≡ fault_of kind block
      same_fault f kind block at = let same = one_cell f.kind kind f.block block at in ap₂ fault_of same.0 same.1

      grown : length (faults ++ fault ∷ []) ≡ length faults + 1
      grown = length_push faults fault

-- the faults of all cells
pub all_listed : (image : List ℕ) (cells : List Bool) (most below : ℕ) (faults : List VolumeFault) → AreListed image cells most below faults → length cells ≤ below → ListsNoted cells faults
all_listed image cells most below faults a whole kind block e =
    let within = set_within cells (cell_of kind block) e in
    a.each kind block (omega (arith, within, whole)) e

-- ---- the first faults

one_way : (x y : VolumeFault) → StandsBefore x y → StandsBefore y x → ⊥
one_way x y (inl a) (inl b) = omega (arith, a, b)
one_way x y (inl a) (inr b) = let e = b.0 in omega (arith, a, e)
one_way x y (inr a) (inl b) = let e = a.0 in omega (arith, b, e)
one_way x y (inr a) (inr b) = let l = a.1 in let m = b.1 in omega (arith, l, m)

-- faults in order that stand in another list in order, each at least so far on
module _ (all faults : List VolumeFault) (in_order : AllPairs StandsBefore all) (sorted : AllPairs StandsBefore faults) (d : VolumeFault) (held : (k : ℕ) → k < length all → Contains faults (get_or all k d)) where
  record IsAt (k : ℕ) : Type 0 where
    place : ℕ
    within : place < length faults
    far : k ≤ place
    here : get_or faults place d ≡ get_or all k d

  found_at : (k : ℕ) → k < length all → IsAt k
  found_at zero l = let h = held zero l in record { place = h.0; within = h.1; far = omega arith; here = get_or_default faults h.0 d (get_or all zero d) h.1 ∙ h.2 }
  found_at (suc k) l = go (found_at k (omega (arith, l))) (held (suc k) l)
    where
      go : IsAt k → Contains faults (get_or all (suc k) d) → IsAt (suc k)
      go p h =
          let at : get_or faults h.0 d ≡ get_or all (suc k) d = get_or_default faults h.0 d (get_or all (suc k) d) h.1 ∙ h.2 in
          let before : StandsBefore (get_or all k d) (get_or all (suc k) d) = in_order k (suc k) d (omega arith) l in
          elim (cases_order p.place h.0) [
            | inl same ↦
                let e : get_or all k d ≡ get_or all (suc k) d = sym p.here ∙ ap (λ (i : ℕ). get_or faults i d) same ∙ at in
                absurd (one_way (get_or all (suc k) d) (get_or all (suc k) d) (subst (λ (x : VolumeFault). StandsBefore x (get_or all (suc k) d)) e before) (subst (λ (x : VolumeFault). StandsBefore x (get_or all (suc k) d)) e before))
            | inr (inl less) ↦ record { place = h.0; within = h.1; far = let f = p.far in omega (arith, f, less); here = at }
            | inr (inr past) ↦
                let back : StandsBefore (get_or all (suc k) d) (get_or all k d) = subst (λ (x : VolumeFault). StandsBefore x (get_or all k d)) at (subst (StandsBefore (get_or faults h.0 d)) p.here (sorted h.0 p.place d past p.within)) in
                absurd (one_way (get_or all k d) (get_or all (suc k) d) before back)
          ]

  pub not_longer : (most : ℕ) → length faults ≤ most → most < length all → ⊥
  not_longer most few many = let p = found_at most many in let f = p.far in let w = p.within in omega (arith, f, w, few)

-- where each fault that the image shows is noted
pub first_faults : (image : List ℕ) (cells : List Bool) (most : ℕ) (more : Bool) (faults : List VolumeFault) → ((kind : FaultKind) (block : ℕ) → Shows image kind block → IsNoted cells (cell_of kind block))
    → (more ≡ true → IsFull image cells most faults) → (more ≡ false → ListsNoted cells faults) → length faults ≤ most → AllPairs StandsBefore faults → AreFirstFaults image most more faults
first_faults image cells most more faults noted full whole few sorted = record {
  first = λ kind block h. elim (cases_Bool more) [
    | inl over ↦ (full over).first kind block (noted kind block h)
    | inr last ↦ inl (whole last kind block (noted kind block h))
  ];
  full = λ over. (full over).full;
  exact = (
    λ over. (full over).more,
    λ m. elim (cases_Bool more) [
      | inl over ↦ over
      | inr last ↦ absurd (none_left m last)
    ],
  );
}
  where
    none_left : ShowsMoreThan image most → more ≡ false → ⊥
    none_left m last =
        not_longer m.faults faults m.in_order sorted (fault_of NoMemory 0)
        (λ k l. let f = get_or m.faults k (fault_of NoMemory 0) in whole last f.kind f.block (noted f.kind f.block (m.shown k (fault_of NoMemory 0) l))) most few m.many
