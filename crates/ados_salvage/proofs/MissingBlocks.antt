-- Blocks that are given to an entry, and those that are missing.
use Rattle.std.proofs.Common.{◌≡◌, ◌≢◌, ℕ, zero, suc, ◌+◌, ◌<◌, ◌≤◌, ◌==◌, ◌&&◌, ◌||◌, not, inl, inr, Bool, true, false, cond, List, [], ◌∷◌, ◌++◌, length, All, get_or, set, length-set, get_or-set_same, get_or-set_other, refl, sym, ap, ap₂, ◌∙◌, subst, arith}
use Rattle.std.specs.Prelude.{count_by}
use Rattle.std.specs.List.{range_with_len}
use Rattle.std.proofs.lemmas.Bool.{cases_eq, cases_lt, eq-eqb, ne_eqb}
use Rattle.std.proofs.lemmas.List.{append-nil, append_assoc, get_or_append_left, get_or_default, get_or_push, length-append}
use Rattle.std.proofs.lemmas.List.Elements.{All-append, All-cons, All-nil, All-push}
use Rattle.std.proofs.lemmas.List.Folds.{list_any-append, list_any_none}
use Rattle.std.proofs.lemmas.List.Sums.{sum_by-append}
use Rattle.ados_salvage.specs.Doubtful.{IsHeader}
use Rattle.ados_salvage.specs.declared.giving.Piece.{Piece}
use Rattle.ados_salvage.specs.declared.salvaged.HeaderState.{HeaderState}
use Rattle.ados_salvage.specs.declared.salvaged.Salvaged.{Salvaged}
use Rattle.ados_salvage.specs.declared.salvaged.State.{State}
use Rattle.ados_salvage.specs.declared.salvaged.State.TheVariants.{Broken, Directory, Doubtful, DoubtfulDirectory, Lost, Whole}
use Rattle.ados_salvage.specs.Due.{IsDue}
use Rattle.ados_salvage.specs.Missing.{TellsMissing, has_piece, missing_blocks, wanted_blocks}
unfoldable use Rattle.ados_salvage.specs.Missing.{missing_below}
use Rattle.ados_salvage.specs.Salvaged.{missing_in}
use Rattle.ados_salvage.specs.Saved.{IsAt}
use Rattle.ados_salvage.specs.declared.numbered.Kept.{Kept}
use Rattle.ados_salvage.specs.declared.pointer_blocks.Wanted.{Wanted}
use Rattle.ados_salvage.specs.steps.Counting.{AreCounted, GivesFirst, GivesMore, HasNone, TakesMore}
use Rattle.ados_salvage.specs.steps.Settling.{IsDamaged}

abbrev is_for : ℕ → ℕ → Piece → Bool
is_for place i piece = (piece.place == place) && (piece.at == i)

or_false : (b : Bool) → b || false ≡ b
or_false true = refl
or_false false = refl

and_false : (b : Bool) → b && false ≡ false
and_false true = refl
and_false false = refl

or_true : (b : Bool) → b || true ≡ true
or_true true = refl
or_true false = refl

-- a block of another entry, or for another data block, counts for nothing
other_entry : (place i : ℕ) (piece : Piece) → piece.place ≢ place → is_for place i piece ≡ false
other_entry place i piece other = ap (λ (b : Bool). b && (piece.at == i)) (ne_eqb piece.place place other)

other_block : (place i : ℕ) (piece : Piece) → piece.at ≢ i → is_for place i piece ≡ false
other_block place i piece other = ap (λ (b : Bool). (piece.place == place) && b) (ne_eqb piece.at i other) ∙ and_false (piece.place == place)

this_one : (place i : ℕ) (piece : Piece) → piece.place ≡ place → piece.at ≡ i → is_for place i piece ≡ true
this_one place i piece own at = ap₂ (λ (a : Bool) (b : Bool). a && b) (eq-eqb piece.place place own) (eq-eqb piece.at i at)

-- behind blocks that count for nothing
still_there : (place i : ℕ) (given more : List Piece) → All (λ piece. is_for place i piece ≡ false) more → has_piece (given ++ more) place i ≡ has_piece given place i
still_there place i given more other =
    list_any-append (is_for place i) given more ∙ ap (λ (b : Bool). has_piece given place i || b) (list_any_none (is_for place i) more other) ∙ or_false (has_piece given place i)

now_there : (place i : ℕ) (given : List Piece) (piece : Piece) → piece.place ≡ place → piece.at ≡ i → has_piece (given ++ piece ∷ []) place i ≡ true
now_there place i given piece own at =
    list_any-append (is_for place i) given (piece ∷ []) ∙ ap (λ (b : Bool). has_piece given place i || (b || false)) (this_one place i piece own at) ∙ or_true (has_piece given place i)

range_push : (a n : ℕ) → range_with_len a (suc n) ≡ range_with_len a n ++ (a + n) ∷ []
range_push a zero = ap (λ (k : ℕ). k ∷ []) (omega arith)
range_push a (suc n) =
    let same : a + 1 + n ≡ a + suc n = omega arith in
    ap (λ (xs : List ℕ). a ∷ xs) (range_push (a + 1) n ∙ ap (λ (k : ℕ). range_with_len (a + 1) n ++ k ∷ []) same)

one_counted : (test : ℕ → Bool) (k : ℕ) → count_by test (k ∷ []) ≡ cond (test k) 1 0
one_counted test k = add_zero (cond (test k) 1 0)
  where
    add_zero : (n : ℕ) → 0 + n ≡ n
    add_zero n = omega arith

none_below : (given : List Piece) (place : ℕ) → missing_below given place 0 ≡ 0
unfolding missing_below
none_below given place = refl

-- one data block more
missing_more : (given : List Piece) (place n : ℕ) → missing_below given place (suc n) ≡ missing_below given place n + cond (not (has_piece given place n)) 1 0
unfolding missing_below
missing_more given place n =
    let test : ℕ → Bool = λ i. not (has_piece given place i) in
    let zero_plus : 0 + n ≡ n = omega arith in
    let last : count_by test ((0 + n) ∷ []) ≡ cond (test n) 1 0 = one_counted test (0 + n) ∙ ap (λ (k : ℕ). cond (test k) 1 0) zero_plus in
    ap (count_by test) (range_push 0 n)
    ∙ sum_by-append (λ (i : ℕ). cond (test i) 1 0) (range_with_len 0 n) ((0 + n) ∷ [])
    ∙ ap (λ (k : ℕ). count_by test (range_with_len 0 n) + k) last

missing_same : (one other : List Piece) (place n : ℕ) → ((k : ℕ) → k < n → has_piece one place k ≡ has_piece other place k) → missing_below one place n ≡ missing_below other place n
missing_same one other place zero same = none_below one place ∙ sym (none_below other place)
missing_same one other place (suc n) same =
    missing_more one place n
    ∙ ap₂ (λ (a : ℕ) (b : Bool). a + cond (not b) 1 0) (missing_same one other place n (λ k l. same k (omega (arith, l)))) (same n (omega arith))
    ∙ sym (missing_more other place n)

-- none of the rest is there
missing_rest : (given : List Piece) (place i n : ℕ) → i ≤ n → ((k : ℕ) → i ≤ k → has_piece given place k ≡ false) → missing_below given place n + i ≡ missing_below given place i + n
missing_rest given place i zero l none =
    let start : i ≡ 0 = omega (arith, l) in
    subst (λ (k : ℕ). missing_below given place 0 + k ≡ missing_below given place k + 0) (sym start) refl
missing_rest given place i (suc n) l none = elim (cases_eq i (suc n)) [
  | inl e ↦ subst (λ (k : ℕ). missing_below given place (suc n) + k ≡ missing_below given place k + suc n) (sym e) refl
  | inr other ↦
      (let before : i ≤ n = omega (arith, l, other) in
      omega (arith, missing_more given place n, ap {B = ℕ} (λ (b : Bool). cond (not b) 1 0) (none n before), missing_rest given place i n before none))
]

-- blocks for other entries change nothing
pub missing_kept : (place n : ℕ) (given more : List Piece) → HasNone more place → missing_below (given ++ more) place n ≡ missing_below given place n
missing_kept place n given more other =
    missing_same (given ++ more) given place n (λ k l. still_there place k given more (λ j d m. other_entry place k (get_or more j d) (other j d m)))

pub tells_kept : (image : List ℕ) (given more : List Piece) (place file : ℕ) (state : State) → HasNone more place → TellsMissing image given place file state → TellsMissing image (given ++ more) place file state
tells_kept image given more place file (Doubtful heading length) other tells = missing_kept place (wanted_blocks image file) given more other ∙ tells
tells_kept image given more place file (Broken missing cut length) other tells = missing_kept place (wanted_blocks image file) given more other ∙ tells
tells_kept image given more place file Directory other tells = tt
tells_kept image given more place file DoubtfulDirectory other tells = tt
tells_kept image given more place file Whole other tells = tt
tells_kept image given more place file Lost other tells = tt

-- the state of a damaged file
pub tells_damaged : (image : List ℕ) (given : List Piece) (place file count : ℕ) (heading : HeaderState) (state : State) → IsDamaged heading state → missing_in state ≡ count → missing_blocks image given place file ≡ count
    → TellsMissing image given place file state
tells_damaged image given place file count heading (Doubtful this length) damaged says is = is ∙ sym says
tells_damaged image given place file count heading (Broken missing cut length) damaged says is = is ∙ sym says
tells_damaged image given place file count heading Directory damaged says is = absurd damaged
tells_damaged image given place file count heading DoubtfulDirectory damaged says is = absurd damaged
tells_damaged image given place file count heading Whole damaged says is = absurd damaged
tells_damaged image given place file count heading Lost damaged says is = absurd damaged

module _ (image : List ℕ) (file place : ℕ) where
  -- more blocks for one entry
  pub gives_none : (old new : List Piece) → new ≡ old → GivesMore image file place old new
  gives_none old new same = record {
    more = [];
    added = same ∙ sym (append-nil old);
    own = All-nil (λ (piece : Piece). piece.place ≡ place);
    due = All-nil (λ (piece : Piece). IsDue image file piece.at piece.block);
  }

  pub gives_one : (old mid new : List Piece) (piece : Piece) → GivesMore image file place old mid → piece.place ≡ place → IsDue image file piece.at piece.block → new ≡ mid ++ piece ∷ [] → GivesMore image file place old new
  gives_one old mid new piece gives own due added = record {
    more = gives.more ++ piece ∷ [];
    added = added ∙ ap (λ (xs : List Piece). xs ++ piece ∷ []) gives.added ∙ append_assoc old gives.more (piece ∷ []);
    own = All-push (λ (p : Piece). p.place ≡ place) gives.more piece gives.own own;
    due = All-push (λ (p : Piece). IsDue image file p.at p.block) gives.more piece gives.due due;
  }

  pub gives_then : (old mid new : List Piece) → GivesMore image file place old mid → GivesMore image file place mid new → GivesMore image file place old new
  gives_then old mid new first second = record {
    more = first.more ++ second.more;
    added = second.added ∙ ap (λ (xs : List Piece). xs ++ second.more) first.added ∙ append_assoc old first.more second.more;
    own = All-append (λ (p : Piece). p.place ≡ place) first.more second.more first.own second.own;
    due = All-append (λ (p : Piece). IsDue image file p.at p.block) first.more second.more first.due second.due;
  }

  -- nothing is looked for yet
  pub first_none : (old : List Piece) → GivesFirst image file place 0 0 old old
  first_none old = record {
    gives = gives_none old old refl;
    below = λ none k d l own. absurd (none k d l own);
    counted = λ none. omega (arith, none_below old place);
  }

module _ (image : List ℕ) (file place i there : ℕ) (old mid : List Piece) (g : GivesFirst image file place i there old mid) where
  -- data block i is not there, and none behind it
  not_there : HasNone old place → (k : ℕ) → i ≤ k → has_piece mid place k ≡ false
  not_there none k l = list_any_none (is_for place k) mid (λ j d m. other (get_or mid j d) (g.below none j d m))
    where
      other : (piece : Piece) → (piece.place ≡ place → piece.at < i) → is_for place k piece ≡ false
      other piece below = elim (cases_eq piece.place place) [
        | inl own ↦ other_block place k piece (λ e. omega (arith, e, below own, l))
        | inr differ ↦ other_entry place k piece differ
      ]

  -- it is given
  pub first_given : (piece : Piece) (new : List Piece) → piece.place ≡ place → piece.at ≡ i → IsDue image file piece.at piece.block → new ≡ mid ++ piece ∷ [] → GivesFirst image file place (i + 1) (there + 1) old new
  first_given piece new own at due added = record {
    gives = gives_one image file place old mid new piece g.gives own due added;
    below = λ none. subst (All (λ (p : Piece). p.place ≡ place → p.at < i + 1)) (sym added)
        (All-push (λ (p : Piece). p.place ≡ place → p.at < i + 1) mid piece (λ j d m is. omega (arith, g.below none j d m is)) (λ is. omega (arith, at)));
    counted = λ none.
        let alone : (k : ℕ) → k < i → All (λ (p : Piece). is_for place k p ≡ false) (piece ∷ []) = λ k l.
        All-cons (λ (p : Piece). is_for place k p ≡ false) piece [] (other_block place k piece (λ e. omega (arith, e, at, l))) (All-nil (λ (p : Piece). is_for place k p ≡ false)) in
        let before : missing_below new place i ≡ missing_below mid place i =
        missing_same new mid place i (λ k l. ap (λ (given : List Piece). has_piece given place k) added ∙ still_there place k mid (piece ∷ []) (alone k l)) in
        let here : has_piece new place i ≡ true = ap (λ (given : List Piece). has_piece given place i) added ∙ now_there place i mid piece own at in
        let next : missing_below new place (i + 1) ≡ missing_below new place (suc i) = ap (missing_below new place) (omega arith) in
        omega (arith, next, missing_more new place i, ap {B = ℕ} (λ (b : Bool). cond (not b) 1 0) here, before, g.counted none);
  }

  -- the rest is missing
  pub first_all : (n : ℕ) → i ≤ n → HasNone old place → there + missing_below mid place n ≡ n
  first_all n l none = omega (arith, missing_rest mid place i n l (not_there none), g.counted none)

  -- up to another number all are missing
  pub first_skipped : (n : ℕ) → i ≤ n → GivesFirst image file place n there old mid
  first_skipped n l = record {
    gives = g.gives;
    below = λ none j d m is. omega (arith, g.below none j d m is, l);
    counted = first_all n l;
  }

-- nothing more is given, one more block is, and one time after the other
module _ (image : List ℕ) (wanted : Wanted) (earlier kept : Kept) where
  pub takes_none : earlier.there ≤ earlier.next → (mid : List Piece) → TakesMore image wanted earlier earlier mid mid
  takes_none few mid = record { few = few; within = λ l. l; first = λ old g. g }

  module _ (first mid new : List Piece) (t : TakesMore image wanted earlier kept first mid) where
    pub takes_one : (piece : Piece) → piece.place ≡ wanted.place → kept.next ≤ piece.at → piece.at < wanted.needed → IsDue image wanted.file piece.at piece.block → new ≡ mid ++ piece ∷ []
        → (more : Kept) → more.next ≡ piece.at + 1 → more.there ≡ kept.there + 1 → TakesMore image wanted earlier more first new
    takes_one piece own behind inside due added more next there = record {
      few = omega (arith, t.few, behind, next, there);
      within = λ l. omega (arith, inside, next);
      first = λ old g.
          let skipped = first_skipped image wanted.file wanted.place kept.next kept.there old mid (t.first old g) piece.at behind in
          let given = first_given image wanted.file wanted.place piece.at kept.there old mid skipped piece new own refl due added in
          subst (λ (n : ℕ). GivesFirst image wanted.file wanted.place n more.there old new) (sym next)
          (subst (λ (n : ℕ). GivesFirst image wanted.file wanted.place (piece.at + 1) n old new) (sym there) given);
    }

    pub takes_then : (more : Kept) → TakesMore image wanted kept more mid new → TakesMore image wanted earlier more first new
    takes_then more u = record {
      few = u.few;
      within = λ l. u.within (t.within l);
      first = λ old g. u.first old (t.first old g);
    }

-- the block is due to its entry
abbrev IsDueAt : List ℕ → List Salvaged → Piece → Type 0
IsDueAt image entries piece = (entry : Salvaged) → IsAt entries piece.place entry → IsDue image entry.header piece.at piece.block

-- only the entries that were told before are there
pub counts_none : (out image : List ℕ) (entries : List Salvaged) (given : List Piece) → given ≡ [] → AreCounted (length entries) out image entries given
counts_none out image entries given none = record {
  within = subst (All (λ (piece : Piece). piece.place < length entries)) (sym none) (All-nil (λ (piece : Piece). piece.place < length entries));
  due = subst (All (IsDueAt image entries)) (sym none) (All-nil (IsDueAt image entries));
  counted = λ place entry after inside at is. absurd (omega (arith, after, inside));
}

module _ (before : ℕ) (out image : List ℕ) (old new : List Salvaged) (given more : List Piece) (are : AreCounted before out image old given) where
  -- the entry that stood at a position before
  was_at : (e : Salvaged) → new ≡ old ++ e ∷ [] → (place : ℕ) (entry : Salvaged) → place < length old → IsAt new place entry → IsAt old place entry
  was_at e grown place entry l at = sym (get_or_append_left old (e ∷ []) entry place l) ∙ ap (λ (xs : List Salvaged). get_or xs place entry) (sym grown) ∙ at

  is_last : (e : Salvaged) → new ≡ old ++ e ∷ [] → (place : ℕ) (entry : Salvaged) → length old ≡ place → IsAt new place entry → e ≡ entry
  is_last e grown place entry last at = sym (get_or_push old e entry place last) ∙ ap (λ (xs : List Salvaged). get_or xs place entry) (sym grown) ∙ at

  -- one more entry, to which these blocks were given
  pub counts_more : (e : Salvaged) → new ≡ old ++ e ∷ [] → GivesMore image e.header (length old) given more → (IsHeader out image e.header → TellsMissing image more (length old) e.header e.state) → AreCounted before out image new more
  counts_more e grown gives tells =
      let count : length new ≡ length old + 1 = omega (arith, ap length grown, length-append old (e ∷ [])) in
      record {
        within = subst (All (λ (piece : Piece). piece.place < length new)) (sym gives.added)
            (All-append (λ (piece : Piece). piece.place < length new) given gives.more (λ k d l. omega (arith, are.within k d l, count)) (λ k d l. omega (arith, gives.own k d l, count)));
        due = subst (All (IsDueAt image new)) (sym gives.added)
            (All-append (IsDueAt image new) given gives.more
            (λ k d l entry at. are.due k d l entry (was_at e grown (get_or given k d).place entry (are.within k d l) at))
            (λ k d l entry at. subst (λ (x : Salvaged). IsDue image x.header (get_or gives.more k d).at (get_or gives.more k d).block)
            (is_last e grown (get_or gives.more k d).place entry (sym (gives.own k d l)) at) (gives.due k d l)));
        counted = λ place entry after inside at is. elim (cases_lt place (length old)) [
          | inl l ↦
              subst (λ (xs : List Piece). TellsMissing image xs place entry.header entry.state) (sym gives.added)
              (tells_kept image given gives.more place entry.header entry.state (λ k d m z. omega (arith, z, gives.own k d m, l)) (are.counted place entry after l (was_at e grown place entry l at) is))
          | inr l ↦
              (let last : length old ≡ place = omega (arith, l, inside, count) in
              let same : e ≡ entry = is_last e grown place entry last at in
              subst (λ (n : ℕ). TellsMissing image more n entry.header entry.state) last
              (subst (λ (x : Salvaged). TellsMissing image more (length old) x.header x.state) same (tells (subst (λ (x : Salvaged). IsHeader out image x.header) (sym same) is))))
        ];
      }

  -- an entry without a header that is told, in place of another with its header: blocks were given to it
  pub counts_set : (place : ℕ) (e d : Salvaged) → place < length old → new ≡ set old place e → (get_or old place d).header ≡ e.header → GivesMore image e.header place given more → ¬ IsHeader out image e.header
      → AreCounted before out image new more
  counts_set at_place e d there replaced header gives untold =
      let count : length new ≡ length old = ap length replaced ∙ length-set old at_place e in
      let here : (place : ℕ) (entry : Salvaged) → place ≡ at_place → IsAt new place entry → e ≡ entry = λ place entry z at.
      sym (get_or-set_same old at_place e entry there) ∙ ap (λ (n : ℕ). get_or (set old at_place e) n entry) (sym z) ∙ ap (λ (xs : List Salvaged). get_or xs place entry) (sym replaced) ∙ at in
      let was : (place : ℕ) (entry : Salvaged) → place ≢ at_place → IsAt new place entry → IsAt old place entry = λ place entry z at.
      sym (get_or-set_other old at_place place e entry z) ∙ ap (λ (xs : List Salvaged). get_or xs place entry) (sym replaced) ∙ at in
      record {
        within = subst (All (λ (piece : Piece). piece.place < length new)) (sym gives.added)
            (All-append (λ (piece : Piece). piece.place < length new) given gives.more (λ k x l. omega (arith, are.within k x l, count)) (λ k x l. omega (arith, gives.own k x l, count, there)));
        due = subst (All (IsDueAt image new)) (sym gives.added)
            (All-append (IsDueAt image new) given gives.more
            (λ k x l entry at. elim (cases_eq (get_or given k x).place at_place) [
              | inl z ↦
                  (let old_entry : Salvaged = get_or old at_place d in
                  let stood : IsAt old (get_or given k x).place old_entry = ap (λ (n : ℕ). get_or old n old_entry) z ∙ get_or_default old at_place old_entry d there in
                  subst (λ (h : ℕ). IsDue image h (get_or given k x).at (get_or given k x).block) (header ∙ ap (λ (y : Salvaged). y.header) (here (get_or given k x).place entry z at)) (are.due k x l old_entry stood))
              | inr z ↦ are.due k x l entry (was (get_or given k x).place entry z at)
            ])
            (λ k x l entry at. subst (λ (y : Salvaged). IsDue image y.header (get_or gives.more k x).at (get_or gives.more k x).block) (here (get_or gives.more k x).place entry (gives.own k x l) at) (gives.due k x l)));
        counted = λ place entry after inside at is. elim (cases_eq place at_place) [
          | inl z ↦ absurd (untold (subst (λ (x : Salvaged). IsHeader out image x.header) (sym (here place entry z at)) is))
          | inr z ↦
              subst (λ (xs : List Piece). TellsMissing image xs place entry.header entry.state) (sym gives.added)
              (tells_kept image given gives.more place entry.header entry.state (λ k x m w. z (sym w ∙ gives.own k x m)) (are.counted place entry after (omega (arith, inside, count)) (was place entry z at) is))
        ];
      }
