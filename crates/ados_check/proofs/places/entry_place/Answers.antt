use Rattle.ados_check.proofs.Common.{◌≡◌, ◌+◌, ◌-◌, sym, ap, ◌∙◌, arith, long, directory_slot, next_entry, header_pointer, first_extension}
use Rattle.ados_check.proofs.PlaceLemmas.{is_only}
use Rattle.ados_check.proofs.places.entry_place.Goals as goal

pub returns-then-is_named : goal.returns-then-is_named
returns-then-is_named c =
    let here = c.if-i-eq-NEXT_IN_CHAIN.true in
    is_only (sym here) (next_entry (λ z. c.if-is_named.true (c.long-is_named.ensures ∙ ap (long c.args.source.now.bytes c.args.block) here ∙ z)))

pub returns-then-is_named-2 : goal.returns-then-is_named-2
returns-then-is_named-2 c =
    let range = c.is_slot.ensures.0 c.if-is_slot.true in
    let e : c.args.i ≡ 6 + (c.args.i - 6) = omega (arith, range.0) in
    is_only (sym e) (directory_slot (sym c.long-kind.ensures ∙ c.if-kind-eq-DIRECTORY_TYPE.true) (omega (arith, range.0, range.1))
    (λ z. c.if-is_named-2.true (c.long-is_named.ensures ∙ ap (long c.args.source.now.bytes c.args.block) e ∙ z)))

pub returns-then-is_pointer : goal.returns-then-is_pointer
returns-then-is_pointer c =
    let at = c.is_pointer.ensures.0 c.if-is_pointer.true in
    let e : 77 - (77 - c.args.i) ≡ c.args.i = omega (arith, at.0) in
    is_only e (header_pointer (sym c.long-kind.ensures ∙ c.if-kind.true) at.1)

pub returns-then-is_named-3 : goal.returns-then-is_named-3
returns-then-is_named-3 c =
    let here = c.if-i-eq-NEXT_EXTENSION.true in
    is_only (sym here) (first_extension (sym c.long-kind.ensures ∙ c.if-kind-2.true) (λ z. c.if-is_named-3.true (c.long-is_named.ensures ∙ ap (long c.args.source.now.bytes c.args.block) here ∙ z)))
