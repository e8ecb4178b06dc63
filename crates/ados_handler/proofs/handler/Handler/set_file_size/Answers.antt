use Rattle.std.proofs.Common.{ℤ, w32, sym, ap, ap₂, ◌∙◌, subst}
use Rattle.std.proofs.lemmas.Int.{to_z-of_z}
use Rattle.ados_handler.proofs.Common.{denies_write, Stands, Session, HandlerState, Places, is_bad_target, target_number, seek_target}
use Rattle.ados_handler.proofs.Meant.{sound_on}
use Rattle.ados_handler.proofs.Rewriting.{set_file_size_keeps}
use Rattle.ados_handler.proofs.Resizing.{bad_gives, full_gives, sized_gives}
use Rattle.ados_handler.proofs.handler.Handler.set_file_size.Goals as goal

pub returns-in_default-number_within-clause-gives : goal.returns-in_default-number_within-clause-gives
returns-in_default-number_within-clause-gives c =
    let t = c.self.invariant.tree in
    let shown = subst (λ (h : HandlerState). Stands h.image t) c.self.view_is c.self.invariant.stands in
    let free = ap denies_write (sym (c.file_protection.ensures t shown)) ∙ sym c.denies_write.ensures ∙ c.if-denies_write.false in
    let target = c.target_of-target.ensures ∙ ap₂ (λ (o m : ℤ). seek_target c.in-Some.hold.position c.file_size-held.result o m) (to_z-of_z w32 c.args.offset c.ranges.offset) (to_z-of_z w32 c.args.mode c.ranges.mode) in
    bad_gives _ c.args.self.now c.self.view_is t c.self.invariant.stands c.args.handle c.args.offset c.args.mode c.args.now c.in-Some.hold (sym c.hold_of.ensures.hold ∙ c.in-Some.is) c.if-self.false free
    c.file_size-held.result (c.file_size-held.ensures.size t shown) c.refused-in_default-number_within.result
    (ap (is_bad_target 2147483647) (sym target) ∙ c.in_default-number_within.ensures) c.refused-in_default-number_within.ensures

pub returns-in-Err-clause-gives : goal.returns-in-Err-clause-gives
returns-in-Err-clause-gives c =
    let t = c.self.invariant.tree in
    let stands = c.self.invariant.stands in
    let shown = subst (λ (h : HandlerState). Stands h.image t) c.self.view_is stands in
    let free = ap denies_write (sym (c.file_protection.ensures t shown)) ∙ sym c.denies_write.ensures ∙ c.if-denies_write.false in
    let target = c.target_of-target.ensures ∙ ap₂ (λ (o m : ℤ). seek_target c.in-Some.hold.position c.file_size-held.result o m) (to_z-of_z w32 c.args.offset c.ranges.offset) (to_z-of_z w32 c.args.mode c.ranges.mode) in
    let held : Session = record { locks = c.self.inside.locks.held; handles = c.self.inside.handles.held; died = c.self.inside.died } in
    let places : Places = record { for_lock = c.self.inside.locks.ready; for_handle = c.self.inside.handles.ready } in
    let new : HandlerState = record { image = c.resize.new.volume.image; was_validated = c.resize.new.volume.was_validated; session = held; places = places } in
    let full = c.in-Err.ensures.done in
    full_gives _ c.args.self.now c.self.view_is t stands c.args.handle c.args.offset c.args.mode c.args.now c.in-Some.hold (sym c.hold_of.ensures.hold ∙ c.in-Some.is) c.if-self.false free
    c.file_size-held.result (c.file_size-held.ensures.size t shown) c.in-Some-number_within.size
    (ap (is_bad_target 2147483647) (sym target) ∙ c.in-Some-number_within.ensures.0) (c.in-Some-number_within.ensures.1 ∙ ap target_number target)
    new c.refused-in-Err.result (full.1 t stands) (λ i. record { image = (full.0 i).image; was_validated = (full.0 i).was_validated; session = held; places = places }) c.refused-in-Err.ensures

pub returns-clause-gives : goal.returns-clause-gives
returns-clause-gives c =
    let t = c.self.invariant.tree in
    let stands = c.self.invariant.stands in
    let shown = subst (λ (h : HandlerState). Stands h.image t) c.self.view_is stands in
    let free = ap denies_write (sym (c.file_protection.ensures t shown)) ∙ sym c.denies_write.ensures ∙ c.if-denies_write.false in
    let target = c.target_of-target.ensures ∙ ap₂ (λ (o m : ℤ). seek_target c.in-Some.hold.position c.file_size-held.result o m) (to_z-of_z w32 c.args.offset c.ranges.offset) (to_z-of_z w32 c.args.mode c.ranges.mode) in
    let held : Session = record { locks = c.self.inside.locks.held; handles = c.keep_within.new.self.held; died = c.self.inside.died } in
    let places : Places = record { for_lock = c.self.inside.locks.ready; for_handle = c.keep_within.new.self.ready } in
    let new : HandlerState = record { image = c.resize.new.volume.image; was_validated = c.resize.new.volume.was_validated; session = held; places = places } in
    let sized = c.in-Ok.ensures.done t stands in
    sized_gives _ c.args.self.now c.self.view_is t stands c.args.handle c.args.offset c.args.mode c.args.now c.in-Some.hold (sym c.hold_of.ensures.hold ∙ c.in-Some.is) c.if-self.false free
    c.file_size-held.result (c.file_size-held.ensures.size t shown) c.in-Some-number_within.size
    (ap (is_bad_target 2147483647) (sym target) ∙ c.in-Some-number_within.ensures.0) (c.in-Some-number_within.ensures.1 ∙ ap target_number target)
    new c.done.result sized.0 sized.1 c.in-Ok.ensures.keeps (c.in-Ok.ensures.same t stands) c.in-Ok.ensures.validated
    (λ i. record { locks = c.self.inside.locks.held; handles = c.keep_within.ensures.held i; died = c.self.inside.died }) c.done.ensures

pub invariant_of-self-2 : goal.invariant_of-self-2
invariant_of-self-2 c = sound_on c.self.view_is (returns-clause-gives c) (set_file_size_keeps c.args.handle c.args.offset c.args.mode) c.self.invariant
