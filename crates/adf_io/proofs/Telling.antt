-- A text that is written as it is made: its end waits.
use Rattle.std.proofs.Common.{◌≡◌, ℕ, List, [], ◌++◌, append_assoc, Option, refl, sym, subst}
use Rattle.std.specs.Io.KnownBytes.{Appends}
use Rattle.std.proofs.KnownBytes.{Appends-nil, Appends-trans}
use Rattle.adf_io.specs.Prefix.{Passes, Writes, WritesFront, WritesFrontOf}

-- such a text is written, but for its end, which waits
pub record IsBegun (Is : List ℕ → Type 0) (old new : Option (List ℕ)) (waiting : List ℕ) : Type 0 where
  pub text : List ℕ
  pub told : Is text
  pub passed : Passes old new text waiting

-- nothing is written yet
pub begun_with : (Is : List ℕ → Type 0) (text waiting : List ℕ) (old : Option (List ℕ)) → Is text → waiting ≡ text → IsBegun Is old old waiting
begun_with Is text waiting old told is = record { text = text; told = told; passed = ([], Appends-nil old, sym is) }

module _ (Is : List ℕ → Type 0) (old mid : Option (List ℕ)) (waiting : List ℕ) (so_far : IsBegun Is old mid waiting) where
  -- a prefix of what waits is written: such a text goes on to a whole one
  pub told_part : (IsWhole : List ℕ → Type 0) → ((text : List ℕ) → Is text → (more : List ℕ) × IsWhole (text ++ more)) → (new : Option (List ℕ)) → WritesFront mid new waiting → WritesFrontOf old new IsWhole
  told_part IsWhole on new (more, appended, (rest, split)) =
      let c = on so_far.text so_far.told in
      let written = so_far.passed.0 in (
        so_far.text ++ c.0,
        c.1,
        (
          written ++ more,
          Appends-trans old mid new written more so_far.passed.1 appended,
          (rest ++ c.0, simp (so_far.passed.2, split, append_assoc)),
        ),
      )

  -- nothing more is written
  pub told_front : (IsWhole : List ℕ → Type 0) → ((text : List ℕ) → Is text → (more : List ℕ) × IsWhole (text ++ more)) → WritesFrontOf old mid IsWhole
  told_front IsWhole on = told_part IsWhole on mid ([], Appends-nil mid, (waiting, refl))

  -- what waits is written, or a part of it
  pub told_passed : (new : Option (List ℕ)) (rest : List ℕ) → Passes mid new waiting rest → IsBegun Is old new rest
  told_passed new rest (more, appended, split) = record {
    text = so_far.text;
    told = so_far.told;
    passed = (
      so_far.passed.0 ++ more,
      Appends-trans old mid new so_far.passed.0 more so_far.passed.1 appended,
      simp (so_far.passed.2, split, append_assoc),
    );
  }

  -- one more part waits
  pub told_more : (IsNext : List ℕ → Type 0) (part longer : List ℕ) → IsNext (so_far.text ++ part) → longer ≡ waiting ++ part → IsBegun IsNext old mid longer
  told_more IsNext part longer is more = record {
    text = so_far.text ++ part;
    told = is;
    passed = (
      so_far.passed.0,
      so_far.passed.1,
      simp (so_far.passed.2, more, append_assoc),
    );
  }

  -- all that waits is written
  pub told_all : (new : Option (List ℕ)) → Appends mid new waiting → Writes old new Is
  told_all new appended = (
    so_far.text,
    subst (Appends old new) (sym so_far.passed.2) (Appends-trans old mid new so_far.passed.0 waiting so_far.passed.1 appended),
    so_far.told,
  )
