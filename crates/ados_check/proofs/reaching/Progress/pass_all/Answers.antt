use Rattle.ados_check.proofs.Common.{rules, ◌≡◌, ◌<◌, length, None, refl, sym, ◌∙◌, subst, arith, false≢true, same_Some, InImage, IsSound, mark_at, mark_of}
use Rattle.ados_check.proofs.MarkLemmas.{marked_within, mark_read, some_is, none_is}
use Rattle.ados_check.proofs.Moves.{skipped, took_at, took_unplaced, took_less, marked_less, reached_next, points_outside, used_twice}
use Rattle.ados_check.proofs.FilesTold.{place_told}
use Rattle.ados_check.proofs.reaching.Progress.pass_all.Goals as goal

pub loop-i-preserved-in_default : goal.loop-i-preserved-in_default
loop-i-preserved-in_default c = record {
  hand = skipped c.args.source.now.bytes c.loop-i.self.marks.items c.loop-i.self.pending.items c.args.holder c.loop-i.i c.args.role c.loop-i.invariant.hand
      (λ next p. c.in_default.not-Some next ((c.place_role.ensures next).1 p));
  less = c.loop-i.invariant.less;
  capacity = c.loop-i.invariant.capacity;
}

pub long-block-requires-clause-block : goal.long-block-requires-clause-block
long-block-requires-clause-block c =
    let hand = c.loop-i.invariant.hand in
    omega (arith, marked_within c.loop-i.self.marks.items c.args.holder hand.mark hand.held, hand.but.size)

pub long-block-requires-clause-told : goal.long-block-requires-clause-told
long-block-requires-clause-told c =
    let hand = c.loop-i.invariant.hand in
    let sound = subst (IsSound c.args.source.now.bytes c.args.holder) hand.of_role (hand.but.sound c.args.holder hand.mark hand.held) in
    place_told c.args.source.now c.args.holder c.loop-i.i c.args.role c.in-Some.next ((c.place_role.ensures c.in-Some.next).0 c.in-Some.is) sound

pub returns-then-not-contains-clause-shown : goal.returns-then-not-contains-clause-shown
returns-then-not-contains-clause-shown c =
    let image = c.args.source.now.bytes in
    points_outside image c.loop-i.self.marks.items c.loop-i.self.pending.items c.args.holder c.loop-i.i c.args.role c.in-Some.next c.loop-i.invariant.hand ((c.place_role.ensures c.in-Some.next).0 c.in-Some.is)
    (λ inside. false≢true (sym c.if-not-contains.true ∙ c.contains.ensures.1 (subst (InImage image) (sym c.long-block.ensures) inside)))

pub returns-then-is_some-clause-shown : goal.returns-then-is_some-clause-shown
returns-then-is_some-clause-shown c =
    let marks = c.loop-i.self.marks.items in
    let block = c.long-block.result in
    let place = (c.place_role.ensures c.in-Some.next).0 c.in-Some.is in
    let inside = c.if-not-contains.ensures.0 refl in
    let there : block < length marks = omega (arith, inside.1, c.loop-i.invariant.hand.but.size) in
    let some = some_is c.index.result.now (sym c.is_some.ensures ∙ c.if-is_some.true) in
    used_twice c.args.source.now.bytes marks c.loop-i.self.pending.items c.args.holder c.loop-i.i c.args.role c.in-Some.next block some.0 c.long-block.ensures c.loop-i.invariant.hand place inside
    (mark_read marks block c.index.result.now there c.index.ensures ∙ some.1)

pub look-requires-clause-reached : goal.look-requires-clause-reached
look-requires-clause-reached c =
    let place = (c.place_role.ensures c.in-Some.next).0 c.in-Some.is in
    reached_next c.args.source.now.bytes c.loop-i.self.marks.items c.loop-i.self.pending.items c.args.holder c.loop-i.i c.args.role c.in-Some.next c.long-block.result c.long-block.ensures c.loop-i.invariant.hand place (c.if-not-contains.ensures.0 refl)

pub loop-i-preserved : goal.loop-i-preserved
loop-i-preserved c =
    let image = c.args.source.now.bytes in
    let marks = c.loop-i.self.marks.items in
    let block = c.long-block.result in
    let place = (c.place_role.ensures c.in-Some.next).0 c.in-Some.is in
    let inside = c.if-not-contains.ensures.0 refl in
    let there : block < length marks = omega (arith, inside.1, c.loop-i.invariant.hand.but.size) in
    let none : mark_at marks block ≡ None = mark_read marks block c.index.result.now there c.index.ensures ∙ none_is c.index.result.now (sym c.is_some.ensures ∙ c.if-is_some.false) in
    record {
      hand = took_at image marks c.loop-i.self.pending.items c.push_reserved.new.self.items c.args.holder c.loop-i.i c.args.role c.in-Some.next block c.long-block.ensures c.loop-i.invariant.hand place
          (λ other p. same_Some other c.in-Some.next (sym ((c.place_role.ensures other).1 p) ∙ c.in-Some.is))
          inside c.in_default-look.ensures none c.push_reserved.ensures.items;
      less = omega (arith, c.loop-i.invariant.less, took_less marks c.loop-i.self.pending.items c.push_reserved.new.self.items block (mark_of c.in-Some.next c.args.holder c.loop-i.i) there none c.push_reserved.ensures.items);
      capacity = search rules;
    }

pub loop-i-preserved-then-not-has_places : goal.loop-i-preserved-then-not-has_places
loop-i-preserved-then-not-has_places c =
    let image = c.args.source.now.bytes in
    let marks = c.loop-i.self.marks.items in
    let block = c.long-block.result in
    let place = (c.place_role.ensures c.in-Some.next).0 c.in-Some.is in
    let inside = c.if-not-contains.ensures.0 refl in
    let there : block < length marks = omega (arith, inside.1, c.loop-i.invariant.hand.but.size) in
    let none : mark_at marks block ≡ None = mark_read marks block c.index.result.now there c.index.ensures ∙ none_is c.index.result.now (sym c.is_some.ensures ∙ c.if-is_some.false) in
    record {
      hand = took_unplaced image marks c.loop-i.self.pending.items c.args.holder c.loop-i.i c.args.role c.in-Some.next block c.long-block.ensures c.loop-i.invariant.hand place
          (λ other p. same_Some other c.in-Some.next (sym ((c.place_role.ensures other).1 p) ∙ c.in-Some.is))
          inside c.in_default-look.ensures none (c.has_places.ensures c.if-not-has_places.true image block);
      less = omega (arith, c.loop-i.invariant.less, marked_less marks block (mark_of c.in-Some.next c.args.holder c.loop-i.i) there none);
      capacity = c.loop-i.invariant.capacity;
    }
