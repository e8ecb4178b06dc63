-- A text of which the end waits while the rest is written.
use Rattle.std.proofs.Common.{◌≡◌, ℕ, List, [], ◌++◌, append_assoc, append-nil, Option, refl, sym, ◌∙◌, subst}
use Rattle.std.specs.Io.KnownBytes.{Appends}
use Rattle.std.proofs.KnownBytes.{Appends-nil, Appends-trans}
use Rattle.adf_io.specs.Prefix.{IsPrefixOf, Passes, WritesFront}

-- nothing is written yet
pub passes_none : (w : Option (List ℕ)) (text waiting : List ℕ) → waiting ≡ text → Passes w w (text ++ []) waiting
passes_none w text waiting is = ([], Appends-nil w, append-nil text ∙ sym is)

pub writes_none : (w : Option (List ℕ)) (whole : List ℕ) → WritesFront w w whole
writes_none w whole = ([], Appends-nil w, (whole, refl))

module _ (old mid : Option (List ℕ)) (text waiting : List ℕ) (so_far : Passes old mid text waiting) where
  -- more of the text waits
  pub passes_more : (part longer : List ℕ) → longer ≡ waiting ++ part → Passes old mid (text ++ part) longer
  passes_more part longer is = (so_far.0, so_far.1, simp (so_far.2, is, append_assoc))

  -- some of what waits is written
  pub passes_on : (new : Option (List ℕ)) (rest : List ℕ) → Passes mid new waiting rest → Passes old new text rest
  passes_on new rest (more, appended, split) = (
    so_far.0 ++ more,
    Appends-trans old mid new so_far.0 more so_far.1 appended,
    simp (so_far.2, split, append_assoc),
  )

  -- all of it
  pub passes_all : (new : Option (List ℕ)) → Appends mid new waiting → Appends old new text
  passes_all new appended = subst (Appends old new) (sym so_far.2) (Appends-trans old mid new so_far.0 waiting so_far.1 appended)

  -- a prefix of it
  pub passes_front : (new : Option (List ℕ)) (whole : List ℕ) → IsPrefixOf whole text → WritesFront mid new waiting → WritesFront old new whole
  passes_front new whole (behind, is) (more, appended, (rest, split)) = (
    so_far.0 ++ more,
    Appends-trans old mid new so_far.0 more so_far.1 appended,
    (rest ++ behind, simp (is, so_far.2, split, append_assoc)),
  )

  -- nothing of it
  pub passes_here : (whole : List ℕ) → IsPrefixOf whole text → WritesFront old mid whole
  passes_here whole (behind, is) = (so_far.0, so_far.1, (waiting ++ behind, simp (is, so_far.2, append_assoc)))

-- a whole text begins with itself
pub prefix_whole : (whole text : List ℕ) → text ≡ whole → IsPrefixOf whole text
prefix_whole whole text is = ([], sym is ∙ sym (append-nil text))

-- a text that begins with a part begins with what is before the part
pub prefix_before : (whole text part : List ℕ) → IsPrefixOf whole (text ++ part) → IsPrefixOf whole text
prefix_before whole text part (rest, is) = (part ++ rest, is ∙ append_assoc text part rest)
