use Rattle.std.proofs.Common.{List, Vec, ℕ, Global, map, subst}
use Rattle.adf_script.specs.declared.ending.ClientEnding.{ClientEnding}
use Rattle.adf_serve.specs.Served.{EndsBy, ending_of}
use Rattle.adf_serve.proofs.Clients.{AreWritten, all_told, left_done, some_told}
use Rattle.adf_serve.proofs.serving.finish.Goals as goal

pub returns-in_err-write_held : goal.returns-in_err-write_held
returns-in_err-write_held g c = λ job served.
    let told = subst (λ (clients : List (Vec ℕ Global × ClientEnding)). AreWritten clients (g.W.Write.contents c.args.writer.now) (g.W.Write.contents c.tell_all-is_told.new.writer) c.tell_all-is_told.result) c.deref.ensures.value c.tell_all-is_told.ensures in
    left_done job _ _ c.in_err-write_held.field-0.0 _ c.in_err-write_held.ensures.no_image c.in_err-write_held.ensures.no_refusal c.from_residual.ensures.1
    (some_told job _ _ c.args.served.now.texts.items served c.tell_all-is_told.result told)

pub returns-then-not-is_told : goal.returns-then-not-is_told
returns-then-not-is_told g c = λ job served.
    let told = subst (λ (clients : List (Vec ℕ Global × ClientEnding)). AreWritten clients (g.W.Write.contents c.args.writer.now) (g.W.Write.contents c.tell_all-is_told.new.writer) c.tell_all-is_told.result) c.deref.ensures.value c.tell_all-is_told.ensures in
    some_told job _ _ c.args.served.now.texts.items served c.tell_all-is_told.result told

pub returns : goal.returns
returns g c = λ job served.
    let told = subst (λ (clients : List (Vec ℕ Global × ClientEnding)). AreWritten clients (g.W.Write.contents c.args.writer.now) (g.W.Write.contents c.tell_all-is_told.new.writer) c.tell_all-is_told.result) c.deref.ensures.value c.tell_all-is_told.ensures in
    let ends = subst (λ (clients : List (Vec ℕ Global × ClientEnding)). EndsBy (map ending_of clients) c.judge.result) c.deref-2.ensures.value c.judge.ensures in
    all_told job _ _ c.args.served.now.texts.items served c.judge.result c.tell_all-is_told.result (cc c.if-not-is_told.false) told ends
