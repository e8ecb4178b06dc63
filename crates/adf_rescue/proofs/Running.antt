-- The runs of blocks that are in order, and the bytes of a run.
use Rattle.std.proofs.Common.{◌≡◌, ℕ, zero, suc, ◌+◌, ◌-◌, ◌<◌, ◌≤◌, inl, inr, Bool, if◌then◌else◌, List, [], ◌∷◌, ◌++◌, All, AllPairs, append-nil, append_assoc, refl, sym, ap, ◌∙◌, subst, arith}
use Rattle.std.specs.Prelude.{flat_map, ⊤}
use Rattle.std.specs.List.{range_with_len}
use Rattle.std.proofs.lemmas.Bool.{cases_eq, eq-eqb, ne_eqb}
use Rattle.std.proofs.lemmas.List.{flat_map_more}
use Rattle.std.proofs.lemmas.List.Elements.{All-nil, All-push}
use Rattle.std.proofs.lemmas.List.Quantifiers.{all_pairs_push}
use Rattle.adf_block.specs.Image.{bytes_at}
use Rattle.adf_block.specs.declared.layout.TheConstants.{BLOCK_BYTES}
use Rattle.adf_rescue.specs.BlockRuns.{AreBlockRuns, run_blocks, run_bytes}
use Rattle.adf_rescue.specs.declared.block_runs.BlockRun.{BlockRun}
use Rattle.adf_rescue.specs.steps.Running.{run_of, runs, runs_from}

-- one more number behind a range
range_more : (a n : ℕ) → range_with_len a (suc n) ≡ range_with_len a n ++ (a + n) ∷ []
range_more a zero = ap (λ (x : ℕ). x ∷ []) (omega arith)
range_more a (suc n) = ap (λ (xs : List ℕ). a ∷ xs) (range_more (a + 1) n ∙ ap (λ (x : ℕ). range_with_len (a + 1) n ++ x ∷ []) (omega arith))

-- a range with this last number
range_to : (first next n : ℕ) → first ≤ next → n ≡ next + 1 - first → range_with_len first n ≡ range_with_len first (next - first) ++ next ∷ []
range_to first next n l e =
    let counted : n ≡ suc (next - first) = omega (arith, l, e) in
    let last : first + (next - first) ≡ next = omega (arith, l) in
    ap (range_with_len first) counted ∙ range_more first (next - first) ∙ ap (λ (x : ℕ). range_with_len first (next - first) ++ x ∷ []) last

-- ---- the bytes of a run

pub bytes_none : (image : List ℕ) (first : ℕ) → [] ≡ flat_map (λ block. bytes_at image block 0 BLOCK_BYTES) (range_with_len first (first - first))
bytes_none image first = let none : first - first ≡ 0 = omega arith in sym (ap (λ (n : ℕ). flat_map (λ block. bytes_at image block 0 BLOCK_BYTES) (range_with_len first n)) none)

pub bytes_more : (image : List ℕ) (first block : ℕ) → first ≤ block → (old : List ℕ) → old ≡ flat_map (λ block. bytes_at image block 0 BLOCK_BYTES) (range_with_len first (block - first)) → (here : List ℕ) → here ≡ bytes_at image block 0 BLOCK_BYTES
    → (new : List ℕ) → new ≡ old ++ here → new ≡ flat_map (λ block. bytes_at image block 0 BLOCK_BYTES) (range_with_len first (block + 1 - first))
bytes_more image first block l old was here is new grown =
    let f : ℕ → List ℕ = λ b. bytes_at image b 0 BLOCK_BYTES in
    grown ∙ ap (λ (xs : List ℕ). xs ++ here) was ∙ ap (λ (xs : List ℕ). flat_map f (range_with_len first (block - first)) ++ xs) is
    ∙ flat_map_more f [] (range_with_len first (block - first)) block
    ∙ ap (flat_map f) (sym (range_to first block (block + 1 - first) l refl))

pub bytes_all : (image : List ℕ) (run : BlockRun) (block : ℕ) (bytes : List ℕ) → block - run.first ≡ run.last + 1 - run.first → bytes ≡ flat_map (λ block. bytes_at image block 0 BLOCK_BYTES) (range_with_len run.first (block - run.first)) → bytes ≡ run_bytes image run
bytes_all image run block bytes e is = is ∙ ap (λ (n : ℕ). flat_map (λ block. bytes_at image block 0 BLOCK_BYTES) (range_with_len run.first n)) e

-- ---- the runs of blocks

-- each block is behind the one before it, and the first behind this one
abbrev Ascends : ℕ → List ℕ → Type 0
Ascends last [] = ⊤
Ascends last (next ∷ blocks) = (last < next) × Ascends next blocks

ascends : (block : ℕ) (blocks : List ℕ) → AllPairs (λ a b. a < b) (block ∷ blocks) → Ascends block blocks
ascends block [] h = tt
ascends block (next ∷ blocks) h = (h 0 1 0 (omega arith) (omega arith), ascends next blocks (λ i j d l m. h (suc i) (suc j) d (omega (arith, l)) (omega (arith, m))))

-- runs before one that may still go on: all together have these blocks
record AreBegun (before : List ℕ) (closed : List BlockRun) (first last : ℕ) : Type 0 where
  open_run : first ≤ last
  some : All (λ run. run.first ≤ run.last) closed
  exact : flat_map run_blocks closed ++ run_blocks (run_of first last) ≡ before
  apart : AllPairs (λ run later. run.last + 1 < later.first) closed
  behind : All (λ run. run.last + 1 < first) closed

module _ (before : List ℕ) (closed : List BlockRun) (first last : ℕ) (h : AreBegun before closed first last) where
  -- the open run is the last one
  closes : AreBlockRuns before (closed ++ run_of first last ∷ [])
  closes = record {
    some = All-push (λ (run : BlockRun). run.first ≤ run.last) closed (run_of first last) h.some h.open_run;
    exact = sym (flat_map_more run_blocks [] closed (run_of first last)) ∙ h.exact;
    apart = all_pairs_push (λ (run : BlockRun) (later : BlockRun). run.last + 1 < later.first) closed (run_of first last) h.apart h.behind;
  }

  -- the next block follows
  goes_on : (next : ℕ) → next ≡ last + 1 → AreBegun (before ++ next ∷ []) closed first next
  goes_on next e = record {
    open_run = omega (arith, h.open_run, e);
    some = h.some;
    exact =
        let l : first ≤ next = omega (arith, h.open_run, e) in
        let same : next - first ≡ last + 1 - first = omega (arith, e) in
        ap (λ (xs : List ℕ). flat_map run_blocks closed ++ xs) (range_to first next (next + 1 - first) l refl ∙ ap (λ (n : ℕ). range_with_len first n ++ next ∷ []) same)
        ∙ sym (append_assoc (flat_map run_blocks closed) (run_blocks (run_of first last)) (next ∷ []))
        ∙ ap (λ (xs : List ℕ). xs ++ next ∷ []) h.exact;
    apart = h.apart;
    behind = h.behind;
  }

  -- a block is missing before the next one
  breaks_off : (next : ℕ) → last + 1 < next → AreBegun (before ++ next ∷ []) (closed ++ run_of first last ∷ []) next next
  breaks_off next gap = record {
    open_run = omega arith;
    some = closes.some;
    exact =
        let alone : range_with_len next (next + 1 - next) ≡ next ∷ [] = (let one : next + 1 - next ≡ 1 = omega arith in ap (range_with_len next) one) in
        ap (λ (xs : List ℕ). xs ++ run_blocks (run_of next next)) closes.exact ∙ ap (λ (xs : List ℕ). before ++ xs) alone;
    apart = closes.apart;
    behind = All-push (λ (run : BlockRun). run.last + 1 < next) closed (run_of first last) (λ k d l. omega (arith, h.behind k d l, h.open_run, gap)) gap;
  }

-- the runs of all blocks
runs_on : (blocks before : List ℕ) (closed : List BlockRun) (first last : ℕ) → AreBegun before closed first last → Ascends last blocks → AreBlockRuns (before ++ blocks) (closed ++ runs_from first last blocks)
runs_on [] before closed first last h up = subst (λ (xs : List ℕ). AreBlockRuns xs (closed ++ run_of first last ∷ [])) (sym (append-nil before)) (closes before closed first last h)
runs_on (next ∷ blocks) before closed first last h up = elim (cases_eq next (last + 1)) [
  | inl e ↦
      subst (λ (b : Bool). AreBlockRuns (before ++ next ∷ blocks) (closed ++ (if b then runs_from first next blocks else run_of first last ∷ runs_from next next blocks))) (sym (eq-eqb next (last + 1) e))
      (subst (λ (xs : List ℕ). AreBlockRuns xs (closed ++ runs_from first next blocks)) (append_assoc before (next ∷ []) blocks)
      (runs_on blocks (before ++ next ∷ []) closed first next (goes_on before closed first last h next e) up.1))
  | inr n ↦
      subst (λ (b : Bool). AreBlockRuns (before ++ next ∷ blocks) (closed ++ (if b then runs_from first next blocks else run_of first last ∷ runs_from next next blocks))) (sym (ne_eqb next (last + 1) n))
      (subst (λ (xs : List ℕ). AreBlockRuns xs (closed ++ run_of first last ∷ runs_from next next blocks)) (append_assoc before (next ∷ []) blocks)
      (subst (λ (rs : List BlockRun). AreBlockRuns ((before ++ next ∷ []) ++ blocks) rs) (append_assoc closed (run_of first last ∷ []) (runs_from next next blocks))
      (runs_on blocks (before ++ next ∷ []) (closed ++ run_of first last ∷ []) next next (breaks_off before closed first last h next (omega (arith, up.0, n))) up.1)))
]

pub runs_of_blocks : (blocks : List ℕ) → AllPairs (λ a b. a < b) blocks → AreBlockRuns blocks (runs blocks)
runs_of_blocks [] h = record { some = All-nil (λ (run : BlockRun). run.first ≤ run.last); exact = refl; apart = λ i j d l m. absurd (omega (arith, m)) }
runs_of_blocks (block ∷ blocks) h =
    runs_on blocks (block ∷ []) [] block block
    (record {
      open_run = omega arith;
      some = All-nil (λ (run : BlockRun). run.first ≤ run.last);
      exact = (let one : block + 1 - block ≡ 1 = omega arith in ap (range_with_len block) one);
      apart = λ i j d l m. absurd (omega (arith, m));
      behind = All-nil (λ (run : BlockRun). run.last + 1 < block);
    })
    (ascends block blocks h)
