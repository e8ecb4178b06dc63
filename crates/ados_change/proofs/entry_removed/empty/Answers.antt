use Rattle.ados_change.proofs.Common.{refl, ◌≡◌, ◌≢◌, sym, ◌∙◌, FILE_TYPE, secondary_type, shortened}
use Rattle.ados_change.proofs.Emptier.{beside_none, cut_to_nothing, is_file, key_inside, not_file}
use Rattle.ados_change.proofs.Keeping.{same_keeps}
use Rattle.ados_change.proofs.entry_removed.empty.Goals as goal

pub long-requires-clause-block : goal.long-requires-clause-block
long-requires-clause-block c = key_inside c.args.image.now c.requires.tree.0 c.requires.tree.1 c.args.key (c.requires.can c.requires.tree.0 c.requires.tree.1)

pub returns-then-long-clause-empties : goal.returns-then-long-clause-empties
returns-then-long-clause-empties c = λ t s.
    let other : secondary_type c.args.image.now c.args.key ≢ FILE_TYPE = λ e. c.if-long.true (c.long.ensures ∙ e) in
    (t, s, record { can = c.requires.can t s; no_bytes = not_file c.args.image.now t s c.args.key (c.requires.can t s) other; others = λ k o. refl; same = refl })

pub cut-requires-clause-file : goal.cut-requires-clause-file
cut-requires-clause-file c = λ t s.
    let typed : secondary_type c.args.image.now c.args.key ≡ FILE_TYPE = sym c.long.ensures ∙ c.if-long.false in
    is_file c.args.image.now t s c.args.key (c.requires.can t s) typed

pub returns-clause-empties : goal.returns-clause-empties
returns-clause-empties c = λ t s. (shortened c.args.moment c.args.key 0 t, c.cut.ensures.stands t s, cut_to_nothing c.args.image.now t s c.args.key (c.requires.can t s) c.args.moment)

pub returns-clause-only : goal.returns-clause-only
returns-clause-only c = λ b i l beside apart.
    let t = c.requires.tree.0 in
    let s = c.requires.tree.1 in
    c.cut.ensures.others b i l (beside_none c.args.image.now t s c.args.key (c.requires.can t s) c.args.moment c.cut.new.image (c.cut.ensures.stands t s) b beside) apart

pub returns-then-long-clause-keeps : goal.returns-then-long-clause-keeps
returns-then-long-clause-keeps c = same_keeps c.args.image.now
