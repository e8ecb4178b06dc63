use Rattle.std.proofs.Common.{true, false}
use Rattle.std.proofs.lemmas.Result.{on_ok_weaker}
use Rattle.adf_serve.proofs.Telling.{of_front}
use Rattle.adf_serve.proofs.script.try_script.Goals as goal

pub returns-clause-whole : goal.returns-clause-whole
returns-clause-whole g c =
    on_ok_weaker c.run_bytes.result
    (of_front _ _ _ _ c.in_ok-script.script.items c.deref.result.now true c.deref.ensures.value c.in_ok-script.ensures.read)
    c.run_bytes.ensures.whole

pub returns-clause-faulty : goal.returns-clause-faulty
returns-clause-faulty g c = λ is_fault.
    of_front _ _ _ _ c.in_ok-script.script.items c.deref.result.now false c.deref.ensures.value c.in_ok-script.ensures.read (c.run_bytes.ensures.faulty is_fault)
