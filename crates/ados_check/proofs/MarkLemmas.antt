-- The marks and the pending blocks when one cell changes.
use Rattle.ados_check.proofs.Common.{◌≡◌, ◌≢◌, ℕ, suc, ◌+◌, ◌<◌, ◌≤◌, inl, inr, List, [], ◌∷◌, ◌++◌, length, get_or, AllPairs, Contains, replicate, Option, None, Some, is_some, true, false, cond, refl, sym, ap, ◌∙◌, arith, set, get_or_default, get_or_past, get_or-set_same, get_or-set_other, get_or-replicate, length-replicate, length-set, sum_by-set, sum_by-replicate, cases_lt, Mark, mark_at, unmarked}
use Rattle.std.proofs.lemmas.List.Quantifiers.{all_pairs_push}

-- one more block is marked
pub record IsMarkedMore (marks new : List (Option Mark)) (block : ℕ) (mark : Mark) : Type 0 where
  pub same_size : length new ≡ length marks
  pub was : mark_at marks block ≡ None
  pub is : mark_at new block ≡ Some mark
  pub others : (other : ℕ) → other ≢ block → mark_at new other ≡ mark_at marks other
  pub fewer : unmarked new + 1 ≡ unmarked marks

-- the mark of a block is the element at its number
pub mark_got : (marks : List (Option Mark)) (block : ℕ) → mark_at marks block ≡ get_or marks block None
mark_got (m ∷ ms) (suc block) = mark_got ms block
mark_got _ _ = refl

pub mark_read : (marks : List (Option Mark)) (block : ℕ) (x : Option Mark) → block < length marks → x ≡ get_or marks block x → mark_at marks block ≡ x
mark_read marks block x l e = mark_got marks block ∙ get_or_default marks block None x l ∙ sym e

past : (marks : List (Option Mark)) (block : ℕ) → length marks ≤ block → mark_at marks block ≡ None
past marks block l = mark_got marks block ∙ get_or_past marks block None l

pub marked_within : (marks : List (Option Mark)) (block : ℕ) (mark : Mark) → mark_at marks block ≡ Some mark → block < length marks
marked_within marks block mark e = elim (cases_lt block (length marks)) [
  | inl l ↦ l
  | inr l ↦ let h : None ≡ Some mark = sym (past marks block l) ∙ e in absurd (cc h)
]

pub marked_more : (marks : List (Option Mark)) (block : ℕ) (mark : Mark) → block < length marks → mark_at marks block ≡ None → IsMarkedMore marks (set marks block (Some mark)) block mark
marked_more marks block mark l none =
    let was : get_or marks block None ≡ None = sym (mark_got marks block) ∙ none in
    record {
      same_size = length-set marks block (Some mark);
      was = none;
      is = mark_got (set marks block (Some mark)) block ∙ get_or-set_same marks block (Some mark) None l;
      others = λ other ne. mark_got (set marks block (Some mark)) other ∙ get_or-set_other marks block other (Some mark) None ne ∙ sym (mark_got marks other);
      fewer =
          let count = sum_by-set (λ (m : Option Mark). cond (is_some m) 0 1) marks block (Some mark) None l in
          let cell : Option Mark → ℕ = λ m. cond (is_some m) 0 1 in
          let one : cell (get_or marks block None) ≡ 1 = ap cell was in
          omega (arith, count, one);
    }

pub once_pushed : (pending : List ℕ) (block : ℕ) → AllPairs (λ a b. a ≢ b) pending → ¬ Contains pending block → AllPairs (λ a b. a ≢ b) (pending ++ block ∷ [])
once_pushed pending block once not_in =
    all_pairs_push (λ (a b : ℕ). a ≢ b) pending block once (λ k d l e. not_in (k, l, get_or_default pending k block d l ∙ e))

-- no marks
pub none_marked : (n block : ℕ) → mark_at (replicate n None) block ≡ None
none_marked n block = elim (cases_lt block n) [
  | inl l ↦ mark_got (replicate n None) block ∙ get_or-replicate n block None None l
  | inr l ↦ past (replicate n None) block (omega (arith, length-replicate {A = Option Mark} n None))
]

pub all_unmarked : (n : ℕ) → unmarked (replicate n None) ≡ n
all_unmarked n = sum_by-replicate (λ (m : Option Mark). cond (is_some m) 0 1) n None ∙ omega arith

pub some_is : (o : Option Mark) → is_some o ≡ true → (m : Mark) × (o ≡ Some m)
some_is (Some m) e = (m, refl)
some_is None e = cc e

pub none_is : (o : Option Mark) → is_some o ≡ false → o ≡ None
none_is (Some m) e = cc e
none_is None e = refl
