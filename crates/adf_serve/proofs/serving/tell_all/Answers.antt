use Rattle.std.proofs.Common.{ap, subst, ◌∙◌}
use Rattle.adf_io.proofs.Prefixes.{writes_first}
use Rattle.adf_io.specs.Prefix.{WritesFront}
use Rattle.adf_serve.specs.Served.{text_of}
use Rattle.adf_serve.proofs.Clients.{text_front}
use Rattle.adf_serve.proofs.serving.tell_all.Goals as goal

pub returns-in-Err : goal.returns-in-Err
returns-in-Err g c =
    let front = subst (WritesFront (g.W.Write.contents c.loop-told.writer) (g.W.Write.contents c.write_output.new.writer)) (c.as_slice.ensures.value ∙ ap text_of c.told-item.is)
    (writes_first _ _ _ _ c.in-Err.ensures.prefix) in
    text_front c.args.texts.now c.loop-told.told-index c.told-item.result c.loop-told-test.true _ _ _ c.loop-told.invariant front
