use Rattle.adf_text.proofs.Common.{IfSome_then, rules, on_ok_weaker}
use Rattle.adf_text.proofs.PlainLemmas.{took_in_calls}
use Rattle.adf_text.proofs.plain.write_plain.Goals as goal

pub returns : goal.returns
returns g c =
    on_ok_weaker c.write-written.result
    (λ told. IfSome_then (g.T.Display.output c.args.text) told
    (λ bytes calls. let (same, appended) = took_in_calls (λ s. s.writer.ghost_name) (λ s. g.W.Write.contents s.writer.now) _ bytes _ calls in search rules))
    c.write-written.ensures.writes
