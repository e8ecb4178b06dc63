use Rattle.ados_salvage.proofs.Common.{◌≡◌, ℕ, ◌+◌, inl, IfSome, Option, sym, subst, refl, arith, Giving, IsGiving}
use Rattle.std.proofs.Common.{rules}
use Rattle.ados_salvage.specs.Due.{IsDue}
use Rattle.ados_salvage.specs.Missing.{wanted_blocks}
use Rattle.ados_salvage.specs.declared.numbered.Kept.{Kept}
use Rattle.ados_salvage.specs.steps.Counting.{GivesFirst}
use Rattle.ados_salvage.proofs.MissingBlocks.{first_all, first_given, first_none}
use Rattle.ados_salvage.proofs.giving.Giving.give.Goals as goal
use Rattle.ados_salvage.proofs.giving.Giving.give.Goals.{in-Some+in_ok-note, in_default+in_ok-kept, then-i, else-i}

pub next_holder-way-requires-clause-giving : goal.next_holder-way-requires-clause-giving
next_holder-way-requires-clause-giving c =
    let holes = c.args.known.now.holes.items in
    let image = c.args.known.now.image in
    elim c.match-found.branch [
      | in-Some+in_ok-note w ↦ subst (λ (giving : Giving). IsGiving holes image giving) (sym w.self-is) (w.in_ok-note.ensures.giving holes image c.loop-i.invariant.giving)
      | in_default+in_ok-kept w ↦ subst (λ (giving : Giving). IsGiving holes image giving) (sym w.self-is) w.in_ok-kept.ensures.giving
    ]

pub loop-i-init : goal.loop-i-init
loop-i-init c =
    let none = c.none-kept in
    let start = first_none c.args.known.now.image c.args.file c.args.place c.args.self.now.pieces.items in
    record {
      giving = c.requires.giving;
      left = refl;
      next = none.ensures.next;
      few = omega (arith, none.ensures.there);
      first = subst (λ (n : ℕ). GivesFirst c.args.known.now.image c.args.file c.args.place n none.result.there c.args.self.now.pieces.items c.args.self.now.pieces.items) (sym none.ensures.next)
          (subst (λ (n : ℕ). GivesFirst c.args.known.now.image c.args.file c.args.place 0 n c.args.self.now.pieces.items c.args.self.now.pieces.items) (sym none.ensures.there) start);
      holder = c.requires.inside;
      holds = inl refl;
      before = c.requires.inside;
    }

pub loop-i-preserved : goal.loop-i-preserved
loop-i-preserved c =
    let holes = c.args.known.now.holes.items in
    let image = c.args.known.now.image in
    let file = c.args.file in
    let place = c.args.place in
    let i = c.loop-i.i in
    let kept = c.loop-i.kept in
    let old = c.args.self.now.pieces.items in
    let noted : IsGiving holes image c.match-found.self = elim c.match-found.branch [
      | in-Some+in_ok-note w ↦ subst (λ (giving : Giving). IsGiving holes image giving) (sym w.self-is) (w.in_ok-note.ensures.giving holes image c.loop-i.invariant.giving)
      | in_default+in_ok-kept w ↦ subst (λ (giving : Giving). IsGiving holes image giving) (sym w.self-is) w.in_ok-kept.ensures.giving
    ] in
    let first : GivesFirst image file place c.match-found.kept.next c.match-found.kept.there old c.match-found.self.pieces.items = elim c.match-found.branch [
      | in-Some+in_ok-note w ↦
          (let due = subst (λ (o : Option ℕ). IfSome o (IsDue image file i)) w.in-Some.is c.block_at-found.ensures.due in
          let next : kept.next + 1 ≡ w.with-kept.result.next = omega (arith, c.loop-i.invariant.next, w.with-kept.ensures.next) in
          subst (λ (giving : Giving). GivesFirst image file place c.match-found.kept.next c.match-found.kept.there old giving.pieces.items) (sym w.self-is)
          (subst (λ (k : Kept). GivesFirst image file place k.next k.there old w.note.new.self.pieces.items) (sym w.kept-is)
          (subst (λ (n : ℕ). GivesFirst image file place n w.with-kept.result.there old w.note.new.self.pieces.items) next
          (subst (λ (n : ℕ). GivesFirst image file place (kept.next + 1) n old w.note.new.self.pieces.items) (sym w.with-kept.ensures.there)
          (first_given image file place kept.next kept.there old c.loop-i.self.pieces.items c.loop-i.invariant.first _ _ refl (sym c.loop-i.invariant.next) due w.in_ok-note.ensures.pieces)))))
      | in_default+in_ok-kept w ↦
          subst (λ (giving : Giving). GivesFirst image file place c.match-found.kept.next c.match-found.kept.there old giving.pieces.items) (sym w.self-is)
          (subst (λ (k : Kept). GivesFirst image file place k.next k.there old w.give_numbered.new.giving.pieces.items) (sym w.kept-is)
          (subst (λ (n : ℕ). GivesFirst image file place n w.in_ok-kept.kept.there old w.give_numbered.new.giving.pieces.items) (sym w.in_ok-kept.ensures.next)
          (w.in_ok-kept.ensures.first old c.loop-i.invariant.first)))
    ] in
    record {
      giving = elim c.if-i.branch [
        | then-i w ↦ subst (λ (giving : Giving). IsGiving holes image giving) (sym w.self-is) w.next_holder-way.ensures.giving
        | else-i w ↦ subst (λ (giving : Giving). IsGiving holes image giving) (sym w.self-is) noted
      ];
      left = search rules;
      next = search rules;
      few = search rules;
      first = elim c.if-i.branch [
        | then-i w ↦
            subst (λ (giving : Giving). GivesFirst image file place c.match-found.kept.next c.match-found.kept.there old giving.pieces.items) (sym w.self-is)
            (subst (λ pieces. GivesFirst image file place c.match-found.kept.next c.match-found.kept.there old pieces.items) (sym w.next_holder-way.ensures.pieces) first)
        | else-i w ↦ subst (λ (giving : Giving). GivesFirst image file place c.match-found.kept.next c.match-found.kept.there old giving.pieces.items) (sym w.self-is) first
      ];
      holder = search rules;
      holds = search rules;
      before = search rules;
    }

pub returns-clause-more : goal.returns-clause-more
returns-clause-more c = (c.in_ok-all.ensures.first c.args.self.now.pieces.items (c.in_ok-more.ensures.more.first c.args.self.now.pieces.items c.loop-i.invariant.first)).gives

pub returns-clause-missing : goal.returns-clause-missing
returns-clause-missing c = λ none.
    let image = c.args.known.now.image in
    let first = c.in_ok-all.ensures.first c.args.self.now.pieces.items (c.in_ok-more.ensures.more.first c.args.self.now.pieces.items c.loop-i.invariant.first) in
    omega (arith, first_all image c.args.file c.args.place _ _ c.args.self.now.pieces.items _ first (wanted_blocks image c.args.file) (omega arith) none)
