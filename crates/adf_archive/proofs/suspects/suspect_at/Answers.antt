use Rattle.std.proofs.Common.{List, ℕ, Option, IfSome, option_map, refl, subst, sym}
use Rattle.adf_archive.proofs.Common.{HasKey, IsDoubted, string_bytes}
use Rattle.adf_archive.specs.Suspects.{IsPathFor}
use Rattle.adf_archive.proofs.Suspecting.{entry_key}
use Rattle.adf_archive.proofs.suspects.suspect_at.Goals as goal

pub path_for-requires-clause-key : goal.path_for-requires-clause-key
path_for-requires-clause-key c =
    subst (λ (entry : Option ℕ). IfSome entry (HasKey c.args.volume.now.image)) (sym c.entry_of.ensures) (entry_key c.args.volume.now.image c.args.block c.args.owner c.requires.owner)

pub returns-then-not-doubts : goal.returns-then-not-doubts
returns-then-not-doubts c = λ t s.
    subst (λ (image : List ℕ). ¬ IsDoubted c.args.search.filler c.args.search.marks.now image c.args.block c.args.owner) c.image.ensures.same
    (rw c.if-not-doubts.true at c.doubts.ensures)

pub returns : goal.returns
returns c = λ t s. record {
  told = record {
    is = record {
      owned = c.requires.owner t s;
      doubted =
          subst (λ (image : List ℕ). IsDoubted c.args.search.filler c.args.search.marks.now image c.args.block c.args.owner) c.image.ensures.same
          (rw c.if-not-doubts.false at c.doubts.ensures);
    };
    path = subst (λ (entry : Option ℕ). IsPathFor t entry (option_map string_bytes c.in_ok-path.path)) c.entry_of.ensures (c.in_ok-path.ensures t s);
  };
  at = refl;
}
