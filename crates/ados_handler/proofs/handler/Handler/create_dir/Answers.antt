use Rattle.std.proofs.Common.{◌≡◌, [], not, true, false, sym, ap, ◌∙◌, subst, refl, rules}
use Rattle.ados_handler.proofs.Common.{is_some, FinMap, insert, nat_cmp, true≢false, not-true, IsName, Directory, Stands, KeepsRest, made, Shown, CreateDir, Results, Session, IsFreeNumber, with_lock, HandlerState, LockHold, lacks, can_make_new, new_key, none_free_lacks, MethodMeans}
use Rattle.ados_handler.proofs.Leaving.{leaves_rest}
use Rattle.ados_handler.proofs.MakingDirectory.{create_dir_means, create_dir_passes, create_dir_sound}
use Rattle.ados_handler.proofs.Meant.{no_place_gives, refused_gives}
use Rattle.ados_handler.proofs.Placed.{place_refused}
use Rattle.ados_handler.proofs.handler.Handler.create_dir.Goals as goal

pub create-requires : goal.create-requires
create-requires c = λ t s.
    let opened = subst (λ (v : Shown). Stands v.image t) c.child.ensures.same s in
    let stood = subst (λ (h : HandlerState). Stands h.image t) (c.self-2.view_is ∙ c.placed.ensures.same) opened in
    let valid : IsName c.in-Ok.found.1 = search rules in
    let none = ap is_some (sym (c.child.ensures.child t opened)) ∙ sym c.is_some.ensures ∙ c.if-is_some.false in
    can_make_new t c.in-Ok.found.0 c.in-Ok.found.1 (c.in-Ok.ensures.directory t stood) valid none

pub unreachable-requires : goal.unreachable-requires
unreachable-requires c =
    let t = c.self-2.invariant.tree in
    let stands = subst (λ (v : Shown). Stands v.image t) (sym c.child.ensures.same) c.self-2.invariant.stands in
    let lack = none_free_lacks c.child.new.self.image t stands c.in_default.ensures.done.0 in
    true≢false (sym c.if-not-has_room.false ∙ c.has_room.ensures t stands ∙ ap not lack)

pub returns-in-Err-clause-gives : goal.returns-in-Err-clause-gives
returns-in-Err-clause-gives c =
    let t = c.self.invariant.tree in
    let old = c.args.self.now in
    let stood = subst (λ (h : HandlerState). Stands h.image t) c.self.view_is c.self.invariant.stands in
    let alive = sym (ap (λ (h : HandlerState). h.session.died) c.self.view_is) ∙ c.if-self.false in
    let none = sym (c.placed.ensures.place t stood) ∙ c.in-Err.is in
    refused_gives old c.placed.new.self (CreateDir c.args.lock c.args.path.now) c.args.now c.refused-in-Err.result t c.in-Err.error stood c.placed.ensures.same
    (place_refused t old.session (CreateDir c.args.lock c.args.path.now) c.args.lock c.args.path.now c.in-Err.error _ refl alive none) c.refused-in-Err.ensures

pub returns-then-is_err-clause-gives : goal.returns-then-is_err-clause-gives
returns-then-is_err-clause-gives c =
    let same = c.self-2.view_is ∙ c.placed.ensures.same in
    let t = c.self-2.invariant.tree in
    let opened = c.self-2.invariant.stands in
    let stood = subst (λ (h : HandlerState). Stands h.image t) same opened in
    let stands = subst (λ (v : Shown). Stands v.image t) (sym c.child.ensures.same) opened in
    let alive = sym (ap (λ (h : HandlerState). h.session.died) c.self.view_is) ∙ c.if-self.false in
    let place = sym (c.placed.ensures.place t stood) ∙ c.in-Ok.is in
    let none = ap is_some (sym (c.child.ensures.child t opened)) ∙ sym c.is_some.ensures ∙ c.if-is_some.false in
    let room = not-true (lacks t 1) (sym (c.has_room.ensures t stands) ∙ c.if-not-has_room.false) in
    let held : ◌≡◌ {A = Session} (record { locks = c.reserve.new.self.held; handles = c.self-2.inside.handles.held; died = c.self-2.inside.died }) (record { locks = c.self-2.inside.locks.held; handles = c.self-2.inside.handles.held; died = c.self-2.inside.died }) = λ i. record { locks = c.reserve.ensures.held i; handles = c.self-2.inside.handles.held; died = c.self-2.inside.died } in
    let full : c.self-2.inside.locks.ready ≡ false = search rules in
    no_place_gives c.args.self.now _ (CreateDir c.args.lock c.args.path.now) c.args.now c.refused-then-is_err.result t stood
    (ap (λ (v : Shown). v.image) c.child.ensures.same ∙ ap (λ (h : HandlerState). h.image) same) (ap (λ (v : Shown). v.was_validated) c.child.ensures.same ∙ ap (λ (h : HandlerState). h.was_validated) same)
    (held ∙ ap (λ (h : HandlerState). h.session) same)
    (create_dir_passes t c.args.self.now.session c.in-Ok.found c.args.lock c.args.path.now alive place none room) refl
    (sym (ap (λ (h : HandlerState). h.places.for_lock) same) ∙ full) c.refused-then-is_err.ensures

pub returns-clause-gives : goal.returns-clause-gives
returns-clause-gives c =
    let same = c.self-2.view_is ∙ c.placed.ensures.same in
    let t = c.self-2.invariant.tree in
    let s = c.args.self.now.session in
    let there = c.in-Ok.found in
    let key = c.in-Ok-create.key in
    let number = c.insert_reserved-number.result in
    let opened = c.self-2.invariant.stands in
    let stood = subst (λ (h : HandlerState). Stands h.image t) same opened in
    let stands = subst (λ (v : Shown). Stands v.image t) (sym c.child.ensures.same) opened in
    let alive = sym (ap (λ (h : HandlerState). h.session.died) c.self.view_is) ∙ c.if-self.false in
    let place = sym (c.placed.ensures.place t stood) ∙ c.in-Ok.is in
    let none = ap is_some (sym (c.child.ensures.child t opened)) ∙ sym c.is_some.ensures ∙ c.if-is_some.false in
    let room = not-true (lacks t 1) (sym (c.has_room.ensures t stands) ∙ c.if-not-has_room.false) in
    let fresh = new_key c.child.new.self.image t stands key c.in-Ok-create.ensures.done.0 in
    let held : Session = record { locks = c.self-2.inside.locks.held; handles = c.self-2.inside.handles.held; died = c.self-2.inside.died } in
    let kept : held ≡ s = ap (λ (h : HandlerState). h.session) same in
    let locks = c.reserve.ensures.held ∙ ap (λ (x : Session). x.locks) kept in
    let free = subst (λ (m : FinMap nat_cmp LockHold). IsFreeNumber m number) locks c.insert_reserved-number.ensures.free in
    let new : Session = record { locks = c.insert_reserved-number.new.self.held; handles = c.self-2.inside.handles.held; died = c.self-2.inside.died } in
    let more = c.insert_reserved-number.ensures.held ∙ ap (λ (m : FinMap nat_cmp LockHold). insert m number (record { key = key; exclusive = true })) locks in
    let is : new ≡ with_lock number key true s = λ i. record { locks = more i; handles = (kept i).handles; died = (kept i).died } in
    let u = made c.args.now there.0 key there.1 (Directory []) t in
    let keeps = subst (λ (v : Shown). KeepsRest v.image c.create.new.self.image) c.child.ensures.same c.create.ensures.keeps in
    record {
      old_tree = t;
      new_tree = u;
      stood = stood;
      stands = c.in-Ok-create.ensures.done.1 t stands;
      means = subst (λ (r : Results). MethodMeans c.args.self.now.places t s (CreateDir c.args.lock c.args.path.now) c.args.now u new r) (sym c.counted.ensures)
          (create_dir_means t s new c.args.now there key number fresh free is c.args.self.now.places c.args.lock c.args.path.now alive place none room);
      leaves = leaves_rest t c.args.self.now (CreateDir c.args.lock c.args.path.now) _ c.counted.result (subst (λ (h : HandlerState). KeepsRest h.image c.create.new.self.image) same keeps) (ap (λ (r : Results). r.res2) c.counted.ensures) refl;
      validated = c.create.ensures.validated ∙ ap (λ (v : Shown). v.was_validated) c.child.ensures.same ∙ ap (λ (h : HandlerState). h.was_validated) same;
    }

pub invariant_of-self-3 : goal.invariant_of-self-3
invariant_of-self-3 c =
    let same = c.self-2.view_is ∙ c.placed.ensures.same in
    let t = c.self-2.invariant.tree in
    let there = c.in-Ok.found in
    let key = c.in-Ok-create.key in
    let number = c.insert_reserved-number.result in
    let opened = c.self-2.invariant.stands in
    let stands = subst (λ (v : Shown). Stands v.image t) (sym c.child.ensures.same) opened in
    let stood = subst (λ (h : HandlerState). Stands h.image t) same opened in
    let none = ap is_some (sym (c.child.ensures.child t opened)) ∙ sym c.is_some.ensures ∙ c.if-is_some.false in
    let valid : IsName there.1 = search rules in
    let can = can_make_new t there.0 there.1 (c.in-Ok.ensures.directory t stood) valid none in
    let held : Session = record { locks = c.self-2.inside.locks.held; handles = c.self-2.inside.handles.held; died = c.self-2.inside.died } in
    let new : Session = record held { locks = c.insert_reserved-number.new.self.held } in
    let free = subst (λ (m : FinMap nat_cmp LockHold). IsFreeNumber m number) c.reserve.ensures.held c.insert_reserved-number.ensures.free in
    let more = c.insert_reserved-number.ensures.held ∙ ap (λ (m : FinMap nat_cmp LockHold). insert m number (record { key = key; exclusive = true })) c.reserve.ensures.held in
    create_dir_sound t held new c.args.now there key number (new_key c.child.new.self.image t stands key c.in-Ok-create.ensures.done.0) free (λ i. record held { locks = more i })
    c.create.new.self.image opened.proper c.self-2.invariant.holds can (c.in-Ok-create.ensures.done.1 t stands)
