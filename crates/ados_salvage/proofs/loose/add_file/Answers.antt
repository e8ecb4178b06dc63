use Rattle.ados_salvage.proofs.Common.{◌≡◌, ℕ, IfSome, MatchOption, Option, ◌+◌, true, false, refl, sym, ap, ◌∙◌, subst, arith, Giving, on_ok_weaker, State, IsLoose, broken_length, IsGiving}
use Rattle.std.specs.Prelude.{⊤}
use Rattle.ados_salvage.specs.steps.Counting.{GivesMore}
use Rattle.ados_salvage.proofs.Settling.{settles_more, settles_same}
use Rattle.ados_salvage.proofs.loose.add_file.Goals as goal

pub returns-in-Some : goal.returns-in-Some
returns-in-Some c =
    let image = c.args.known.now.image in
    let out = c.args.known.now.left_out in
    let loose : IsLoose out image c.args.header c.in-Some.state = subst (λ (o : Option State). IfSome o (IsLoose out image c.args.header)) c.in-Some.is c.in_ok-state.ensures.state in
    let left : broken_length c.in-Some.state + c.loose_state.new.giving.left ≡ c.args.gathered.now.giving.left =
    subst (λ (o : Option State). MatchOption o (c.loose_state.new.giving.left ≡ c.args.gathered.now.giving.left) (λ state. broken_length state + c.loose_state.new.giving.left ≡ c.args.gathered.now.giving.left))
    c.in-Some.is c.in_ok-state.ensures.left in
    on_ok_weaker c.add_loose.result (λ more next after s.
    settles_more c.args.known.now next c.args.gathered.now c.add_loose.new.self s (ap (λ ps. ps.items) c.add_loose.ensures.places)
    (subst (IsGiving c.args.known.now.holes.items image) (sym c.add_loose.ensures.giving) c.in_ok-state.ensures.giving) more.0 c.args.header after
    (λ some. let both : false ≡ true = sym c.if-has.false ∙ c.has.ensures.1 some in absurd (cc both)) more.1
    (subst (IsLoose out image c.args.header) (sym more.2) loose) more.3
    (omega (arith, ap broken_length more.2, ap (λ (g : Giving). g.left) c.add_loose.ensures.giving, left))
    (subst (λ (n : ℕ). GivesMore image c.args.header n c.args.gathered.now.giving.pieces.items c.add_loose.new.self.giving.pieces.items) (c.len-place.ensures ∙ c.args.gathered.now.entries.ok.0)
    (subst (λ (g : Giving). GivesMore image c.args.header c.len-place.result c.args.gathered.now.giving.pieces.items g.pieces.items) (sym c.add_loose.ensures.giving) c.in_ok-state.ensures.more))) c.add_loose.ensures.entries

pub returns-in-None : goal.returns-in-None
returns-in-None c =
    let left : c.loose_state.new.giving.left ≡ c.args.gathered.now.giving.left =
    subst (λ (o : Option State). MatchOption o (c.loose_state.new.giving.left ≡ c.args.gathered.now.giving.left) (λ state. broken_length state + c.loose_state.new.giving.left ≡ c.args.gathered.now.giving.left))
    c.in-None.is c.in_ok-state.ensures.left in
    let given : c.loose_state.new.giving.pieces.items ≡ c.args.gathered.now.giving.pieces.items =
    subst (λ (o : Option State). MatchOption o (c.loose_state.new.giving.pieces.items ≡ c.args.gathered.now.giving.pieces.items) (λ state. ⊤)) c.in-None.is c.in_ok-state.ensures.none in
    λ next after s. settles_same c.args.known.now next c.args.gathered.now _ s refl c.in_ok-state.ensures.giving (c.args.header + 1) (omega (arith, after)) refl left given
