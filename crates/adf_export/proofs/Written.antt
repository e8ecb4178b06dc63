-- A listing written so far.
use Rattle.adf_export.proofs.Common.{◌≡◌, ℕ, ◌+◌, ◌*◌, ◌≤◌, Bool, true, false, List, [], ◌++◌, Option, append_assoc, append-nil, refl, sym, ap, ◌∙◌, subst, arith, Appends, nil_from_length, Tree, Listing, Passes, Writes, WritesFront, WritesFrontOf, Located, ListForm, ListOrder, AreEntries, BeginsList, BeginsListing, IsList, IsListing, listed, head, IsSoFar, work, GoesOn, Starts}
use Rattle.std.proofs.KnownBytes.{Appends-nil}
use Rattle.adf_export.proofs.InOrder.{entries_append}
use Rattle.adf_io.proofs.Telling.{IsBegun, begun_with, told_all, told_front, told_more, told_part, told_passed}

-- a list of the entries so far is written, but for its end, which waits; the remaining turns suffice for what is left
pub record IsWritten (t : Tree) (order : ListOrder) (dir : ℕ) (s : ListForm) (old new : Option (List ℕ)) (at : Listing) (turns : ℕ) : Type 0 where
  pub first : List Located
  pub left : List Located
  pub so_far : IsSoFar t order dir at.levels.items at.path.items first left
  pub begun : IsBegun (IsListing t first s) old new at.text.items
  pub fits : work at.levels.items left + turns ≤ 2 * t.blocks

-- a step that goes on, and the last step
pub went_on : (t : Tree) (order : ListOrder) (dir : ℕ) (s : ListForm) (at after : Listing) (first left : List Located) (goes : Bool) → goes ≡ true → GoesOn t order dir s at after first left goes → GoesOn t order dir s at after first left true
went_on t order dir s at after first left true e g = g
went_on t order dir s at after first left false e g = absurd (cc e)

pub went_out : (t : Tree) (order : ListOrder) (dir : ℕ) (s : ListForm) (at after : Listing) (first left : List Located) (goes : Bool) → goes ≡ false → GoesOn t order dir s at after first left goes → GoesOn t order dir s at after first left false
went_out t order dir s at after first left true e g = absurd (cc e)
went_out t order dir s at after first left false e g = g

-- nothing is written yet
pub written_nothing : (t : Tree) (entries : List Located) (s : ListForm) (old : Option (List ℕ)) → WritesFrontOf old old (BeginsListing t entries s)
written_nothing t entries s old = (head t s ++ [], ([], entries, [], refl, refl, refl), ([], Appends-nil old, (head t s ++ [], refl)))

-- a list goes on
listing_on : (t : Tree) (s : ListForm) (first came : List Located) (text lines : List ℕ) → IsListing t first s text → AreEntries t s came lines → IsListing t (first ++ came) s (text ++ lines)
listing_on t s first came text lines (told, are, is) more =
    (told ++ lines, entries_append t s first came told lines are more, ap (λ (l : List ℕ). l ++ lines) is ∙ append_assoc (head t s) told lines)

module _ (t : Tree) (order : ListOrder) (dir : ℕ) (s : ListForm) (old : Option (List ℕ)) where
  pub written_none : (at : Listing) → Starts t order dir s at → IsWritten t order dir s old old at 0
  written_none at (text, so_far, small) = record {
    first = [];
    left = listed t order dir;
    so_far = so_far;
    begun = begun_with (IsListing t [] s) (head t s) at.text.items old ([], refl, sym (append-nil (head t s))) text;
    fits = omega (arith, small);
  }

  -- a step goes on
  pub written_on : (new : Option (List ℕ)) (at after : Listing) (turns : ℕ) (w : IsWritten t order dir s old new at turns) → GoesOn t order dir s at after w.first w.left true → IsWritten t order dir s old new after (turns + 1)
  written_on new at after turns w (came, rest, lines, split, are, text, so_far, less) = record {
    first = w.first ++ came;
    left = rest;
    so_far = so_far;
    begun = told_more (IsListing t w.first s) old new at.text.items w.begun (IsListing t (w.first ++ came) s) lines after.text.items
        (listing_on t s w.first came w.begun.text lines w.begun.told are) text;
    fits = omega (arith, w.fits, less);
  }

  -- more of the text is written
  pub written_more : (mid new : Option (List ℕ)) (at after : Listing) (turns : ℕ) → IsWritten t order dir s old mid at turns → Passes mid new at.text.items after.text.items
      → after.levels.items ≡ at.levels.items → after.path.items ≡ at.path.items → IsWritten t order dir s old new after turns
  written_more mid new at after turns w passes levels path = record {
    first = w.first;
    left = w.left;
    so_far = rw (levels, path) w.so_far;
    begun = told_passed (IsListing t w.first s) old mid at.text.items w.begun new after.text.items passes;
    fits = rw levels w.fits;
  }

  -- the text is written to its end, and nothing is left
  pub written_whole : (mid new : Option (List ℕ)) (at : Listing) (turns : ℕ) (text : List ℕ) (w : IsWritten t order dir s old mid at turns) → w.left ≡ [] → text ≡ at.text.items
      → Appends mid new text → Writes old new (IsList t order dir s)
  written_whole mid new at turns text w none same appended =
      let all = told_all (IsListing t w.first s) old mid at.text.items w.begun new (subst (Appends mid new) same appended) in (
        all.0,
        all.1,
        subst (λ (ls : List Located). IsListing t ls s all.0) (sym (w.so_far.split ∙ ap (λ (ls : List Located). w.first ++ ls) none ∙ append-nil w.first)) all.2,
      )

  -- nothing is left after all turns
  pub none_in_turns : (new : Option (List ℕ)) (at : Listing) (turns : ℕ) (w : IsWritten t order dir s old new at turns) → 2 * t.blocks ≤ turns → w.left ≡ []
  none_in_turns new at turns w over = nil_from_length w.left (omega (arith, w.fits, over))

  begins : (new : Option (List ℕ)) (at : Listing) (turns : ℕ) (w : IsWritten t order dir s old new at turns) (text : List ℕ) → IsListing t w.first s text → (more : List ℕ) × BeginsList t order dir s (text ++ more)
  begins new at turns w text (told, are, is) = ([], (w.first, w.left, told, w.so_far.split, are, append-nil text ∙ is))

  -- a prefix of the text is written
  pub written_front : (mid new : Option (List ℕ)) (at : Listing) (turns : ℕ) (text : List ℕ) → IsWritten t order dir s old mid at turns → text ≡ at.text.items → WritesFront mid new text → WritesFrontOf old new (BeginsList t order dir s)
  written_front mid new at turns text w same front =
      told_part (IsListing t w.first s) old mid at.text.items w.begun (BeginsList t order dir s) (begins mid at turns w) new (subst (WritesFront mid new) same front)

  pub written_so_far : (new : Option (List ℕ)) (at : Listing) (turns : ℕ) → IsWritten t order dir s old new at turns → WritesFrontOf old new (BeginsList t order dir s)
  written_so_far new at turns w = told_front (IsListing t w.first s) old new at.text.items w.begun (BeginsList t order dir s) (begins new at turns w)
