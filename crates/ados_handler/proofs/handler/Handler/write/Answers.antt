use Rattle.std.proofs.Common.{sym, ap, ◌∙◌, subst, arith}
use Rattle.ados_handler.proofs.Common.{denies_write, Stands, holds_file, Shown, HandlerState}
use Rattle.ados_handler.proofs.Meant.{sound_on}
use Rattle.ados_handler.proofs.Rewriting.{write_keeps}
use Rattle.ados_handler.proofs.WritingBytes.{write_gives, written_end}
use Rattle.ados_handler.proofs.handler.Handler.write.Goals as goal

pub overflow_cast-count : goal.overflow_cast-count
overflow_cast-count c =
    let t = c.self.invariant.tree in
    let shown = subst (λ (h : HandlerState). Stands h.image t) c.self.view_is c.self.invariant.stands in
    omega (arith, written_end c.write-written.new.self.image t shown.proper c.args.now c.in-Some.hold.key c.in-Some.hold.position (ap holds_file (c.in-Some.ensures.file t shown).1) (c.in-Some.ensures.within t shown) c.bytes-shown.result.now (c.in-Ok.ensures.done t c.self.invariant.stands).1)

pub overflow_add-after : goal.overflow_add-after
overflow_add-after c =
    let t = c.self.invariant.tree in
    let shown = subst (λ (h : HandlerState). Stands h.image t) c.self.view_is c.self.invariant.stands in
    omega (arith, written_end c.write-written.new.self.image t shown.proper c.args.now c.in-Some.hold.key c.in-Some.hold.position (ap holds_file (c.in-Some.ensures.file t shown).1) (c.in-Some.ensures.within t shown) c.bytes-shown.result.now (c.in-Ok.ensures.done t c.self.invariant.stands).1)

pub counted-requires : goal.counted-requires
counted-requires c =
    let t = c.self.invariant.tree in
    let shown = subst (λ (h : HandlerState). Stands h.image t) c.self.view_is c.self.invariant.stands in
    omega (arith, written_end c.write-written.new.self.image t shown.proper c.args.now c.in-Some.hold.key c.in-Some.hold.position (ap holds_file (c.in-Some.ensures.file t shown).1) (c.in-Some.ensures.within t shown) c.bytes-shown.result.now (c.in-Ok.ensures.done t c.self.invariant.stands).1)

pub returns-clause-gives : goal.returns-clause-gives
returns-clause-gives c =
    let t = c.self.invariant.tree in
    let stands = c.self.invariant.stands in
    let shown = subst (λ (h : HandlerState). Stands h.image t) c.self.view_is stands in
    let wrote = c.write-written in
    let writable = ap denies_write (sym (c.file_protection.ensures t shown)) ∙ sym c.denies_write.ensures ∙ c.if-denies_write.false in
    write_gives _ c.args.self.now c.self.view_is t stands c.args.handle c.in-Some.hold (sym c.hold_of.ensures.hold ∙ c.in-Some.is) c.args.now c.args.bytes c.bytes-shown.result.now c.bytes-shown.ensures
    wrote.new.self.image wrote.new.self.was_validated c.set_position.new.self.held _ c.counted.result c.if-self.false writable
    (c.in-Ok.ensures.done t stands) wrote.ensures.keeps (λ e. ap (λ (v : Shown). v.image) (wrote.ensures.none e)) wrote.ensures.validated
    c.set_position.ensures.held c.counted.ensures

pub invariant_of-self-2 : goal.invariant_of-self-2
invariant_of-self-2 c = sound_on c.self.view_is (returns-clause-gives c) (write_keeps c.args.handle c.args.bytes) c.self.invariant
