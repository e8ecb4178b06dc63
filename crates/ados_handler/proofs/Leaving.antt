-- What packets leave untouched in the image.
use Rattle.std.proofs.Common.{◌≡◌, pos, true, inl, inr, sym, ◌∙◌}
use Rattle.ados_handler.proofs.Common.{true≢false, Tree, KeepsRest, Packet, Results, sets_disk_date, HandlerState, LeavesImage, answer_to}

module _ (t : Tree) (old : HandlerState) (packet : Packet) (new : HandlerState) (results : Results) where
  -- no byte changes
  pub leaves_all : new.image ≡ old.image → LeavesImage t old packet new (answer_to packet results)
  leaves_all same = record { keeps = inl same; rest = λ _. same }

  -- a served packet that sets the disk date
  pub leaves_rest : KeepsRest old.image new.image → results.res2 ≡ pos 0 → sets_disk_date t old.session packet ≡ true → LeavesImage t old packet new (answer_to packet results)
  leaves_rest keeps served sets = record {
    keeps = inr keeps;
    rest = λ why. elim why [ inl refused ↦ absurd (refused served) | inr none ↦ absurd (true≢false (sym sets ∙ none)) ];
  }
