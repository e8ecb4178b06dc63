use Rattle.std.proofs.Common.{◌≡◌, rules, inl, refl, ap, ◌∙◌}
use Rattle.adf_c.specs.Answers.{buffer_after}
use Rattle.adf_c.specs.Spelling.{packet_of}
use Rattle.adf_c.proofs.Coming.{serves}
use Rattle.adf_c.proofs.serve.jip_lib_serve.Goals as goal

pub returns : goal.returns
returns c =
    let load = c.in-Ok.ensures in
    let action = c.kind-action in
    let after : c.if-fills.buffer ≡ buffer_after c.in-Ok-packet.spelled c.args.buffer.now c.serve-answered.result.body = search rules in
    inl (
      refl,
      serves _ _ _ _ _ _ _ _ _ _ _ _ _ _ c.in-Some.ensures.value c.deref_mut.ensures.value c.put.ensures c.date.ensures
          (load.0, load.1, (action.result, action.ensures, c.in-Ok-packet.ensures ∙ ap (packet_of action.result c.args.packet.now c.args.path.now c.args.text.now) load.2))
          (c.serve-answered.result, c.serve-answered.ensures, c.of.ensures, after),
    )
