use Rattle.std.proofs.Common.{ℤ, w32, arith, sym, ap, ap₂, ◌∙◌, subst}
use Rattle.std.proofs.lemmas.Int.{to_z-of_z}
use Rattle.ados_handler.proofs.Common.{Stands, Seek, is_bad_target, target_number, seek_target, HandlerState}
use Rattle.ados_handler.proofs.Sizes.{size_small}
use Rattle.ados_handler.proofs.HandleFiles.{sound_moved}
use Rattle.ados_handler.proofs.Seeking.{seek_gives}
use Rattle.ados_handler.proofs.handler.Handler.seek.Goals as goal

pub counted-requires : goal.counted-requires
counted-requires c =
    let t = c.self.invariant.tree in
    let shown = subst (λ (h : HandlerState). Stands h.image t) c.self.view_is c.self.invariant.stands in
    omega (arith, c.in-Some.ensures.within t shown, size_small c.args.self.now.image t shown c.in-Some.hold.key)

pub returns-clause-gives : goal.returns-clause-gives
returns-clause-gives c =
    let offset = to_z-of_z w32 c.args.offset c.ranges.offset in
    let mode = to_z-of_z w32 c.args.mode c.ranges.mode in
    let target = c.target_of-target.ensures ∙ ap₂ (λ (o m : ℤ). seek_target c.in-Some.hold.position c.file_size-size.result o m) offset mode in
    seek_gives _ c.args.self.now c.self.view_is c.self.invariant.tree c.self.invariant.stands c.args.handle c.args.offset c.args.mode c.in-Some.hold (sym c.hold_of.ensures.hold ∙ c.in-Some.is)
    c.file_size-size.result c.file_size-size.ensures.size c.in-Some-number_within.position c.set_position.new.self.held _ c.counted.result c.if-self.false
    (ap (is_bad_target c.file_size-size.result) (sym target) ∙ c.in-Some-number_within.ensures.0)
    (c.in-Some-number_within.ensures.1 ∙ ap target_number target)
    c.set_position.ensures.held c.counted.ensures

pub invariant_of-self : goal.invariant_of-self
invariant_of-self c = sound_moved _ c.args.self.now c.self.view_is c.set_position.new.self.held _ (Seek c.args.handle c.args.offset c.args.mode) c.counted.result tt c.self.invariant (returns-clause-gives c)
