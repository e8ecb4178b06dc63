use Rattle.adf_script.proofs.Common.{◌≡◌, ◌+◌, [], ◌∷◌, length, length-append, sym, ap, subst, ◌∙◌, on_ok_weaker, NextPuts, NextIsFaulty, NoneIsLeft, answer_value}
use Rattle.adf_script.specs.Next.{LinesView}
use Rattle.adf_script.proofs.Telling.{nothing_told, told_fault, told_reply, told_closed, told_end}
use Rattle.adf_script.proofs.runner.run_lines.Goals as goal

pub loop-values-init : goal.loop-values-init
loop-values-init g c = record {
  told = rw c.new-values.ensures.items (nothing_told g.S.Server.gives g.S.Server.has_died c.args.exchange.now.port c.args.moment c.args.script.now (g.W.Write.contents c.args.writer.now) c.requires.quiet);
  lines = rw c.new-values.ensures.items c.of-lines.ensures;
}

pub returns-in-End-clause-whole : goal.returns-in-End-clause-whole
returns-in-End-clause-whole g c =
    let none = subst (λ (l : LinesView). NoneIsLeft l.lines l.count) c.loop-values.invariant.lines (rw c.in-End.is at c.in_ok-next.ensures)
    in told_end g.S.Server.gives g.S.Server.has_died c.args.exchange.now.port c.args.moment c.args.script.now (g.W.Write.contents c.args.writer.now)
    c.loop-values.values.items c.loop-values.exchange.port (g.W.Write.contents c.loop-values.writer) c.loop-values.invariant.told c.requires.short none

pub returns-in-Faulty-clause-faulty : goal.returns-in-Faulty-clause-faulty
returns-in-Faulty-clause-faulty g c = λ is_fault.
    let faulty = subst (λ (l : LinesView). NextIsFaulty l.lines c.loop-values.values.items l.count c.in-Faulty.number) c.loop-values.invariant.lines
    (rw c.deref.ensures.value at (rw c.in-Faulty.is at c.in_ok-next.ensures))
    in told_fault g.S.Server.gives g.S.Server.has_died c.args.exchange.now.port c.args.moment c.args.script.now (g.W.Write.contents c.args.writer.now)
    c.loop-values.values.items c.loop-values.exchange.port (g.W.Write.contents c.loop-values.writer) c.loop-values.invariant.told
    c.in-Faulty.number (g.W.Write.contents c.write_fault.new.writer) c.requires.short faulty c.in_ok-write_fault-in-Faulty.ensures.text

pub loop-values-preserved : goal.loop-values-preserved
loop-values-preserved g c =
    let next = rw c.deref.ensures.value at (rw c.in-Puts.is at c.in_ok-next.ensures)
    in let puts = subst (λ (l : LinesView). NextPuts l.lines c.loop-values.values.items l.count c.in-Puts.packet) c.loop-values.invariant.lines next.1
    in let goes = c.in-Ok.ensures (length c.loop-values.values.items) c.loop-values.invariant.told.quiet
    in let more = length-append c.loop-values.values.items (answer_value c.in-Ok.reply.answer ∷ [])
    in let counted : c.in-Puts.number ≡ length c.loop-values.values.items + 1 = next.0 ∙ ap (λ (l : LinesView). l.count + 1) c.loop-values.invariant.lines
    in record {
      told = rw c.in_ok-tell_reply-in-Ok.ensures.value (told_reply g.S.Server.gives g.S.Server.has_died c.args.exchange.now.port c.args.moment c.args.script.now (g.W.Write.contents c.args.writer.now)
          c.loop-values.values.items c.loop-values.exchange.port (g.W.Write.contents c.loop-values.writer) c.loop-values.invariant.told
          c.in-Puts.packet puts c.in-Ok.reply c.call.new.exchange.port (g.W.Write.contents c.tell_reply.new.writer) goes.0 goes.1 goes.2 c.in_ok-tell_reply-in-Ok.ensures.text);
      lines = rw c.in_ok-tell_reply-in-Ok.ensures.value (next.2 ∙ (λ i. record { lines = (c.loop-values.invariant.lines i).lines; count = (counted ∙ sym more) i }));
    }

pub returns-in-Err-clause-whole : goal.returns-in-Err-clause-whole
returns-in-Err-clause-whole g c =
    let next = rw c.deref.ensures.value at (rw c.in-Puts.is at c.in_ok-next.ensures)
    in let puts = subst (λ (l : LinesView). NextPuts l.lines c.loop-values.values.items l.count c.in-Puts.packet) c.loop-values.invariant.lines next.1
    in let counted : c.in-Puts.number ≡ length c.loop-values.values.items + 1 = next.0 ∙ ap (λ (l : LinesView). l.count + 1) c.loop-values.invariant.lines
    in let step = c.in-Err.ensures (length c.loop-values.values.items) c.loop-values.invariant.told.quiet
    in on_ok_weaker c.tell_refused.result
    (λ told.
    told_closed g.S.Server.gives g.S.Server.has_died c.args.exchange.now.port c.args.moment c.args.script.now (g.W.Write.contents c.args.writer.now)
    c.loop-values.values.items c.loop-values.exchange.port (g.W.Write.contents c.loop-values.writer) c.loop-values.invariant.told
    c.in-Puts.packet puts told.0 c.call.new.exchange.port (g.W.Write.contents c.tell_refused.new.writer) c.requires.short (rw told.1 at step) (rw counted at told.2))
    c.tell_refused.ensures.closed
