use Rattle.ados_faults.proofs.Common.{refl, take_at, ℕ, List, ◌++◌, Some, None, get_or, length, sym, subst, All, InImage, pointers_of, IsHeld}
use Rattle.ados_faults.proofs.ByHeaders.{held_append, held_at, none_held}
use Rattle.std.proofs.lemmas.List.{drop_at}
use Rattle.std.proofs.lemmas.List.Elements.{All-drop, All-take}
use Rattle.ados_faults.proofs.pieces.held_with.Goals as goal

module _ (image : List ℕ) (xs ys : List ℕ) (all : All (InImage image) (xs ++ ys)) where
  own_inside : All (InImage image) xs
  own_inside = subst (All (InImage image)) (take_at xs ys (length xs) refl) (All-take (InImage image) (length xs) (xs ++ ys) all)

  others_inside : All (InImage image) ys
  others_inside = subst (All (InImage image)) (drop_at xs ys (length xs) refl) (All-drop (InImage image) (length xs) (xs ++ ys) all)

pub returns-in_default : goal.returns-in_default
returns-in_default c = λ image blocks inside held others all.
    none_held image (pointers_of image c.args.header) (get_or c.args.held.now c.args.header None) (held_at image c.args.held.now c.args.header held inside) c.in_default.not-Some
    (own_inside image (pointers_of image c.args.header) blocks all)

pub returns-in_default-others : goal.returns-in_default-others
returns-in_default-others c = λ image blocks inside held others all.
    none_held image blocks c.args.others others c.in_default-others.not-Some (others_inside image (pointers_of image c.args.header) blocks all)

pub returns : goal.returns
returns c = λ image blocks inside held others.
    let own : IsHeld image (pointers_of image c.args.header) (Some c.in-Some.own) = subst (IsHeld image (pointers_of image c.args.header)) c.in-Some.is (held_at image c.args.held.now c.args.header held inside) in
    let more : IsHeld image blocks (Some c.in-Some-others.more) = subst (IsHeld image blocks) c.in-Some-others.is others in
    subst (λ (s : ℕ). IsHeld image (pointers_of image c.args.header ++ blocks) (Some s)) (sym c.saturating_add.ensures) (held_append image (pointers_of image c.args.header) blocks c.in-Some.own c.in-Some-others.more own more)
