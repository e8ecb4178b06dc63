use Rattle.adf_script.proofs.Common.{◌∷◌, ◌++◌, ◌+◌, ◌-◌, length, take, drop, sym, ap, ◌∙◌, arith, length-drop, Some, None, take_all}
use Rattle.adf_script.proofs.Splitting.{split_at}
use Rattle.adf_script.proofs.pieces.split_once.Goals as goal

pub returns-in-Some : goal.returns-in-Some
returns-in-Some c =
    let split = split_at c.args.separator c.args.bytes.now (Some c.in-Some.place) c.in-Some.ensures
    in (
      split.1 ∙ ap (λ l. take c.in-Some.place c.args.bytes.now ++ c.args.separator ∷ l)
          (sym (take_all (length c.args.bytes.now - (c.in-Some.place + 1)) (drop (c.in-Some.place + 1) c.args.bytes.now) (omega (arith, length-drop (c.in-Some.place + 1) c.args.bytes.now)))),
      split.2,
    )

pub returns-in-None : goal.returns-in-None
returns-in-None c = split_at c.args.separator c.args.bytes.now None c.in-None.ensures
