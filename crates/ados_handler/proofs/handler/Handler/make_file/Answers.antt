use Rattle.std.proofs.Common.{rules, ◌≡◌, false, sym, ap, ◌∙◌, subst}
use Rattle.ados_handler.proofs.Common.{true≢false, not-true, IsName, Stands, lacks, HandlerState, none_free_lacks, can_make_in, BringsHandle}
use Rattle.ados_handler.proofs.MakingFile.{made_opens, made_sound}
use Rattle.ados_handler.proofs.handler.Handler.make_file.Goals as goal

pub create-requires : goal.create-requires
create-requires c =
    let valid : IsName c.args.name = search rules in
    can_make_in c.args.self.now.image c.args.dir c.args.name c.requires.directory valid c.requires.new_name _ (ap (λ (h : HandlerState). h.image) c.self.view_is)

pub unreachable-requires : goal.unreachable-requires
unreachable-requires c =
    let sound = c.self.invariant in
    let room : lacks sound.tree 1 ≡ false = not-true _ (sym (c.has_room.ensures sound.tree (subst (λ (h : HandlerState). Stands h.image sound.tree) c.self.view_is sound.stands)) ∙ c.if-not-has_room.false) in
    true≢false (sym (none_free_lacks _ sound.tree sound.stands c.in_default.ensures.done.0) ∙ room)

pub invariant_of-self-2 : goal.invariant_of-self-2
invariant_of-self-2 c =
    let valid : IsName c.args.name = search rules in
    let can = can_make_in c.args.self.now.image c.args.dir c.args.name c.requires.directory valid c.requires.new_name _ (ap (λ (h : HandlerState). h.image) c.self.view_is) in
    made_sound _ _ c.args.dir c.args.name c.args.now c.in-Ok.key c.in-Ok.ensures.done.0 _ c.in-Ok.ensures.done.1 c.args.exclusive _ _ _ c.opened.ensures.brings c.reserve.ensures.held c.self.invariant can

pub returns-clause-opens : goal.returns-clause-opens
returns-clause-opens c =
    let sound = c.self.invariant in
    let room : lacks sound.tree 1 ≡ false = not-true _ (sym (c.has_room.ensures sound.tree (subst (λ (h : HandlerState). Stands h.image sound.tree) c.self.view_is sound.stands)) ∙ c.if-not-has_room.false) in
    let brings : BringsHandle c.in-Ok.key c.args.exclusive c.reserve.new.self.held c.opened.new.handles.held c.opened.result = search rules in
    made_opens _ _ c.args.dir c.args.name c.args.now c.in-Ok.key c.in-Ok.ensures.done.0 _ c.in-Ok.ensures.done.1 c.args.exclusive _ _ _ brings c.reserve.ensures.held c.args.self.now _ _ _ c.self.view_is
    sound.tree sound.stands room c.create.ensures.keeps _ c.create.ensures.validated
