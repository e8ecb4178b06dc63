-- A block is marked when it is given.
use Rattle.ados_salvage.proofs.Common.{◌≡◌, ◌≢◌, ℕ, inl, inr, Bool, true, false, All, List, [], ◌∷◌, ◌++◌, length, get_or, get_or-set_same, get_or-set_other, length-set, sym, ap, ◌∙◌, subst, arith, Giving, AreApart, set, cases_eq, all_pairs_push, All-push, Piece, IsGiving, IsHole, IsMarked, IsOpen, mark_at}

module _ (holes : List Bool) (image : List ℕ) (old new : Giving) (piece : Piece) (g : IsGiving holes image old) (o : IsOpen old.given.items piece.block) (noted : new.given.items ≡ set old.given.items piece.block true) where
  long : length new.given.items ≡ length old.given.items
  long = ap length noted ∙ length-set old.given.items piece.block true

  now_marked : mark_at new.given.items piece.block ≡ true
  now_marked = ap (λ (marks : List Bool). mark_at marks piece.block) noted ∙ get_or-set_same old.given.items piece.block true false o.inside

  still : (block : ℕ) → mark_at old.given.items block ≡ true → mark_at new.given.items block ≡ true
  still block m = elim (cases_eq block piece.block) [
    | inl e ↦ ap (mark_at new.given.items) e ∙ now_marked
    | inr e ↦ ap (λ (marks : List Bool). mark_at marks block) noted ∙ get_or-set_other old.given.items piece.block block true false e ∙ m
  ]

  still_marked : (p : Piece) → IsMarked old.given.items p → IsMarked new.given.items p
  still_marked p m = record { inside = omega (arith, m.inside, long); marked = still p.block m.marked }

  -- and is no hole
  no_hole : ¬ IsHole holes piece.block
  no_hole hole =
      let both : true ≡ false = sym (g.holes_marked piece.block o.inside hole) ∙ o.free in
      absurd (cc both)

  -- an open block was not given before
  other : (p : Piece) → IsMarked old.given.items p → p.block ≢ piece.block
  other p m e =
      let both : true ≡ false = sym m.marked ∙ ap (mark_at old.given.items) e ∙ o.free in
      absurd (cc both)

  pub gives_more : new.pieces.items ≡ old.pieces.items ++ piece ∷ [] → new.passed.items ≡ old.passed.items → IsGiving holes image new
  gives_more more passed = record {
    size = long ∙ g.size;
    holes_marked = λ block l hole. still block (g.holes_marked block (omega (arith, l, long)) hole);
    there = subst (All (λ (p : Piece). ¬ IsHole holes p.block)) (sym more) (All-push (λ (p : Piece). ¬ IsHole holes p.block) old.pieces.items piece g.there no_hole);
    passed = ap length passed ∙ g.passed;
    marked = subst (All (IsMarked new.given.items)) (sym more)
        (All-push (IsMarked new.given.items) old.pieces.items piece (λ k d l. still_marked (get_or old.pieces.items k d) (g.marked k d l)) (record { inside = omega (arith, o.inside, long); marked = now_marked }));
    once = subst AreApart (sym more)
        (all_pairs_push (λ (p : Piece) (q : Piece). p.block ≢ q.block) old.pieces.items piece g.once (λ k d l. other (get_or old.pieces.items k d) (g.marked k d l)));
  }
