use Rattle.ados_salvage.proofs.KnownCommon.{◌≡◌, ℕ, refl, sym, ◌∙◌, subst, on_ok_weaker, parent_key, IsPlaceIn, MayBeHeader}
use Rattle.ados_salvage.proofs.Naming.{named_header}
use Rattle.ados_salvage.proofs.known.headers.Found.follow_long.Goals as goal
use Rattle.ados_salvage.proofs.known.headers.Found.follow_long.Goals.{then-not-may_be_header-via-then-not-may_be_header, then-not-may_be_header-via-else-not-may_be_header+then-long-dir}

pub returns-clause-more : goal.returns-clause-more
returns-clause-more c =
    let out = c.args.left_out.now in
    let image = c.args.image.now in
    let parent : parent_key image c.long-named.result ≡ c.in-Some.dir = sym c.long.ensures ∙ c.if-long-dir.false in
    let place = subst (λ (dir : ℕ). IsPlaceIn image dir c.args.block c.args.at) (sym parent) ((c.in-Some.ensures c.in-Some.dir).1 refl) in
    let header = named_header out image c.requires.accepted place (sym c.long-named.ensures) (c.may_be_header.ensures.0 c.if-not-may_be_header.false) in
    on_ok_weaker c.note.result (λ more. more out image header c.requires.found) c.note.ensures.more

pub returns-in_default-clause-sought : goal.returns-in_default-clause-sought
returns-in_default-clause-sought c = λ named place. absurd (cc ((c.in_default.ensures (parent_key c.args.image.now named)).0 place))

pub returns-then-not-may_be_header-clause-sought : goal.returns-then-not-may_be_header-clause-sought
returns-then-not-may_be_header-clause-sought c = λ named place is looks.
    let here : c.long-named.result ≡ named = c.long-named.ensures ∙ is in
    elim c.then-not-may_be_header.branch [
      | then-not-may_be_header-via-then-not-may_be_header w ↦
          absurd (cc (c.may_be_header.ensures.1 (subst (MayBeHeader c.args.left_out.now c.args.image.now) (sym here) looks), w.if-not-may_be_header.true))
      | then-not-may_be_header-via-else-not-may_be_header+then-long-dir w ↦
          absurd (w.if-long-dir.true (cc (w.long.ensures, here, (c.in-Some.ensures (parent_key c.args.image.now named)).0 place)))
    ]
