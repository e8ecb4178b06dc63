use Rattle.ados_volume.proofs.Common.{IsName, arith, false≢true, some_in, subst, sym, ◌∙◌}
use Rattle.ados_volume.proofs.Bridge.{name_is, name_valid}
use Rattle.ados_volume.proofs.examine.name_in.Goals as goal

pub text_in-requires-clause-room : goal.text_in-requires-clause-room
text_in-requires-clause-room c =
    let t = c.requires.tree.0 in
    let s = c.requires.tree.1 in
    let n = some_in (t.nodes c.args.key) (c.requires.key t s) in
    omega (arith, (s.nodes c.args.key n.0 n.1).name.counted, (s.proper.name c.args.key n.0 n.1).short)

pub unreachable-requires : goal.unreachable-requires
unreachable-requires c =
    let t = c.requires.tree.0 in
    let s = c.requires.tree.1 in
    let n = some_in (t.nodes c.args.key) (c.requires.key t s) in
    false≢true (c.in-Err.ensures.valid.1 (subst IsName (sym c.text_in.ensures) (name_valid c.args.image.now t s c.args.key n.0 n.1)))

pub returns : goal.returns
returns c = λ t node s e. c.in-Ok.ensures.ok ∙ c.text_in.ensures ∙ name_is c.args.image.now t s c.args.key node e
