use Rattle.ados_salvage.proofs.Common.{◌≡◌, ℕ, ◌+◌, get_or, IfSome, MatchOption, Option, refl, sym, ap, ◌∙◌, subst, arith, get_or_default, Salvaged, State, Lost, IsLoose, broken_length}
use Rattle.std.specs.Prelude.{⊤}
use Rattle.ados_salvage.specs.steps.Counting.{GivesMore}
use Rattle.ados_salvage.proofs.Settling.{settles_lost, settles_same}
use Rattle.ados_salvage.proofs.loose.replace.Goals as goal

pub returns-in-Some-clause-settled : goal.returns-in-Some-clause-settled
returns-in-Some-clause-settled c =
    let was : Salvaged = c.index_mut.result.now in
    let e : Salvaged = record {
      header = was.header;
      above = was.above;
      found = was.found;
      name = was.name;
      endings = was.endings;
      protection = was.protection;
      date = was.date;
      comment = was.comment;
      state = c.in-Some.state;
    } in
    let out = c.args.known.now.left_out in
    let image = c.args.known.now.image in
    let at : (entry : Salvaged) → entry ≡ get_or c.args.gathered.now.entries.items c.args.place entry → was ≡ entry =
    λ entry is. c.index_mut.ensures.value ∙ get_or_default c.args.gathered.now.entries.items c.args.place was entry c.requires.place ∙ sym is in
    let same : was.header ≡ c.index-2.result.now.header = ap (λ (entry : Salvaged). entry.header) (at c.index-2.result.now c.index-2.ensures) in
    let lost : was.state ≡ Lost = ap (λ (entry : Salvaged). entry.state) (at c.index.result.now c.index.ensures) ∙ c.in-Lost.is in
    let loose : IsLoose out image was.header e.state = subst (λ (b : ℕ). IsLoose out image b e.state) (sym same)
    (subst (λ (o : Option State). IfSome o (IsLoose out image c.index-2.result.now.header)) c.in-Some.is c.in_ok-state.ensures.state) in
    let left : broken_length e.state + c.loose_state.new.giving.left ≡ c.args.gathered.now.giving.left =
    subst (λ (o : Option State). MatchOption o (c.loose_state.new.giving.left ≡ c.args.gathered.now.giving.left) (λ state. broken_length state + c.loose_state.new.giving.left ≡ c.args.gathered.now.giving.left))
    c.in-Some.is c.in_ok-state.ensures.left in
    settles_lost c.args.known.now 0 c.args.gathered.now _ c.requires.settled refl c.in_ok-state.ensures.giving c.args.place was e _ c.requires.place c.index_mut.ensures.value refl lost loose refl left
    (subst (λ (h : ℕ). GivesMore image h c.args.place c.args.gathered.now.giving.pieces.items c.loose_state.new.giving.pieces.items) (sym same) c.in_ok-state.ensures.more)

pub returns-in_default-state-clause-settled : goal.returns-in_default-state-clause-settled
returns-in_default-state-clause-settled c =
    let left : c.loose_state.new.giving.left ≡ c.args.gathered.now.giving.left =
    subst (λ (o : Option State). MatchOption o (c.loose_state.new.giving.left ≡ c.args.gathered.now.giving.left) (λ state. broken_length state + c.loose_state.new.giving.left ≡ c.args.gathered.now.giving.left))
    c.in_default-state.is c.in_ok-state.ensures.left in
    let given : c.loose_state.new.giving.pieces.items ≡ c.args.gathered.now.giving.pieces.items =
    subst (λ (o : Option State). MatchOption o (c.loose_state.new.giving.pieces.items ≡ c.args.gathered.now.giving.pieces.items) (λ state. ⊤)) c.in_default-state.is c.in_ok-state.ensures.none in
    settles_same c.args.known.now 0 c.args.gathered.now _ c.requires.settled refl c.in_ok-state.ensures.giving 0 (omega arith) refl left given
