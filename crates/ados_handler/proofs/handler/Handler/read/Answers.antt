use Rattle.std.proofs.Common.{length, sym, ap, ◌∙◌, subst, arith}
use Rattle.ados_handler.proofs.Common.{with_items_is, denies_read, bytes_of, Stands, Read, HandlerState}
use Rattle.ados_handler.proofs.HandleFiles.{sound_read}
use Rattle.ados_handler.proofs.ReadingBytes.{filled_length, read_ends, read_gives}
use Rattle.ados_handler.proofs.handler.Handler.read.Goals as goal

pub overflow_cast-count : goal.overflow_cast-count
overflow_cast-count c =
    let t = c.self.invariant.tree in
    let stands = c.self.invariant.stands in
    let shown = subst (λ (h : HandlerState). Stands h.image t) c.self.view_is stands in
    omega (arith, read_ends c.self.inside.volume.image t stands c.in-Some.hold.key c.in-Some.hold.position (length c.deref_mut.result.now) c.read_on-length.result (c.in-Some.ensures.within t shown) (c.read_on-length.ensures.count t stands))

pub overflow_add-end : goal.overflow_add-end
overflow_add-end c =
    let t = c.self.invariant.tree in
    let stands = c.self.invariant.stands in
    let shown = subst (λ (h : HandlerState). Stands h.image t) c.self.view_is stands in
    omega (arith, read_ends c.self.inside.volume.image t stands c.in-Some.hold.key c.in-Some.hold.position (length c.deref_mut.result.now) c.read_on-length.result (c.in-Some.ensures.within t shown) (c.read_on-length.ensures.count t stands))

pub counted-requires : goal.counted-requires
counted-requires c =
    let t = c.self.invariant.tree in
    let stands = c.self.invariant.stands in
    let shown = subst (λ (h : HandlerState). Stands h.image t) c.self.view_is stands in
    omega (arith, read_ends c.self.inside.volume.image t stands c.in-Some.hold.key c.in-Some.hold.position (length c.deref_mut.result.now) c.read_on-length.result (c.in-Some.ensures.within t shown) (c.read_on-length.ensures.count t stands))

pub returns-clause-gives : goal.returns-clause-gives
returns-clause-gives c =
    let t = c.self.invariant.tree in
    let hold = c.in-Some.hold in
    let stands = c.self.invariant.stands in
    let shown = subst (λ (h : HandlerState). Stands h.image t) c.self.view_is stands in
    let vec = c.into_vec-bytes.result in
    let was = c.deref_mut.ensures.value ∙ c.into_vec-bytes.ensures in
    let count = c.read_on-length.ensures.count t stands in
    let bytes = c.read_on-length.ensures.bytes t stands in
    let long = filled_length (bytes_of t hold.key) c.deref_mut.result.now c.read_on-length.new.buffer hold.position c.read_on-length.result count bytes in
    let full = with_items_is vec c.read_on-length.new.buffer (long ∙ ap length c.deref_mut.ensures.value ∙ sym vec.ok.0) in
    let readable = ap denies_read (sym (c.file_protection.ensures t shown)) ∙ sym c.denies_read.ensures ∙ c.if-denies_read.false in
    read_gives _ c.args.self.now c.self.view_is t stands c.args.handle c.args.buffer hold (sym c.hold_of.ensures.hold ∙ c.in-Some.is)
    c.read_on-length.result (rw was at count) c.read_on-length.new.self c.read_on-length.ensures.same c.from_vec.result c.set_position.new.self.held _ c.counted.result c.if-self.false readable
    (c.from_vec.ensures ∙ full ∙ rw was at bytes) c.set_position.ensures.held c.counted.ensures

pub invariant_of-self : goal.invariant_of-self
invariant_of-self c =
    sound_read _ c.args.self.now c.self.view_is c.set_position.new.self.held _ (Read c.args.handle c.args.buffer) c.counted.result c.read_on-length.new.self c.read_on-length.ensures.same tt
    c.self.invariant (returns-clause-gives c)
