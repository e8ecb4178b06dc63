-- Output for images, chunk by chunk.
use Rattle.std.proofs.Common.{◌≡◌, ℕ, ◌+◌, ◌≤◌, List, [], ◌++◌, length, Option, Result, Ok, Err, IfErr, ap, sym, ◌∙◌, subst, append_assoc, arith}
use Rattle.adf_archive.proofs.Common.{Shared, Appends, WritesFront, ImageReport, Form, Tally, LeavesOff, GivesFrom, told_from, IsTally, no_images, noted, tallied}
use Rattle.std.proofs.lemmas.List.Sums.{fold-append}
use Rattle.std.proofs.KnownBytes.{Appends-nil, Appends-trans}
use Rattle.adf_archive.proofs.Gathered.{gives_more, gives_none}
use Rattle.adf_archive.proofs.Listed.{told_append, told_none}

-- what always holds also holds for an error
pub at_err : {T E Q : Type 0} (r : Result T E) → Q → IfErr r (λ e. Q)
at_err (Ok x) q = tt
at_err (Err e) q = q

-- the first `count` images were reported
pub record SoFar {F : Type 0} (g : Shared F (ℕ × Unit {0}) ImageReport) (f : F) (form : Form) (paths : List (List ℕ)) (old new : Option (List ℕ)) (count : ℕ) (tally : Tally) : Type 0 where
  pub reports : List ImageReport
  pub gives : GivesFrom g f 0 count reports
  pub written : Appends old new (told_from form paths 0 reports)
  pub sum : IsTally reports tally

-- a prefix of the next output, after the output so far
front_behind : (old mid new : Option (List ℕ)) (first rest : List ℕ) → Appends old mid first → WritesFront mid new rest → WritesFront old new (first ++ rest)
front_behind old mid new first rest told (written, appends, (left, is)) =
    (first ++ written, Appends-trans old mid new first written told appends, (left, ap (λ (text : List ℕ). first ++ text) is ∙ sym (append_assoc first written left)))

module _ {F : Type 0} (g : Shared F (ℕ × Unit {0}) ImageReport) (f : F) (form : Form) (paths : List (List ℕ)) where
  pub so_far_none : (w : Option (List ℕ)) (tally : Tally) → IsTally [] tally → SoFar g f form paths w w 0 tally
  so_far_none w tally is = record {
    reports = [];
    gives = gives_none g f 0;
    written = subst (λ (text : List ℕ). Appends w w text) (sym (told_none form paths 0)) (Appends-nil w);
    sum = is;
  }

  module _ (old mid new : Option (List ℕ)) (count n : ℕ) (tally : Tally) (first : SoFar g f form paths old mid count tally) (more : List ImageReport) (gives : GivesFrom g f count n more) where
    joined : told_from form paths 0 (first.reports ++ more) ≡ told_from form paths 0 first.reports ++ told_from form paths count more
    joined = told_append form paths 0 first.reports more ∙ ap (λ (k : ℕ). told_from form paths 0 first.reports ++ told_from form paths k more) (omega (arith, first.gives.0))

    at_count : GivesFrom g f (0 + count) n more
    at_count = subst (λ (k : ℕ). GivesFrom g f k n more) (omega arith) gives

    pub so_far_more : (after : Tally) → Appends mid new (told_from form paths count more) → after ≡ tallied tally more → SoFar g f form paths old new (count + n) after
    so_far_more after writes sum = record {
      reports = first.reports ++ more;
      gives = gives_more g f 0 count n first.reports more first.gives at_count;
      written = subst (λ (text : List ℕ). Appends old new text) (sym joined) (Appends-trans old mid new (told_from form paths 0 first.reports) (told_from form paths count more) first.written writes);
      sum = sum ∙ ap (λ (t : Tally). tallied t more) first.sum ∙ sym (fold-append noted no_images first.reports more);
    }

    pub so_far_front : WritesFront mid new (told_from form paths count more) → count + n ≤ length paths → LeavesOff g f form paths old new
    so_far_front front fits = (
      count + n,
      first.reports ++ more,
      fits,
      gives_more g f 0 count n first.reports more first.gives at_count,
      subst (λ (text : List ℕ). WritesFront old new text) (sym joined) (front_behind old mid new (told_from form paths 0 first.reports) (told_from form paths count more) first.written front),
    )
