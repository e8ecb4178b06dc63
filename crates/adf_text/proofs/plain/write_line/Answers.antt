use Rattle.adf_text.proofs.Common.{IfSome_then, on_ok_weaker, Appends-trans}
use Rattle.adf_text.proofs.plain.write_line.Goals as goal

pub returns : goal.returns
returns g c =
    on_ok_weaker c.write_plain-written.result (λ told. IfSome_then (g.T.Display.output c.args.text) told (λ bytes front. Appends-trans _ _ _ _ _ front c.in_ok-put.ensures)) c.write_plain-written.ensures
