use Rattle.std.proofs.Common.{◌≡◌, ℕ, List, Some, Bool, Global, Vec, subst, sym}
use Rattle.std.specs.Io.KnownBytes.{Appends}
use Rattle.adf_io.specs.Prefix.{WritesFront}
use Rattle.adf_serve.specs.Refusals.{told_line}
use Rattle.adf_serve.proofs.Printing.{job_broken, job_failed, job_told, job_unsaid, none_told, plain, some_told}
use Rattle.adf_serve.proofs.output.refuse.Goals as goal

abbrev bytes : Vec ℕ Global → List ℕ
bytes text = text.items

pub returns-in-Ok-None : goal.returns-in-Ok-None
returns-in-Ok-None g c = λ styled job old form did.
    job_failed styled job old _ c.args.fault did (plain c.args.json c.args.fault (none_told bytes c.in-Ok-None.field-0 _ c.in-Ok-None.ensures c.in-Ok-None.field-0-is))

pub returns-in-Ok : goal.returns-in-Ok
returns-in-Ok g c = λ styled job old form did.
    let tells = some_told bytes c.in-Ok-Some.field-0 c.in-Ok-Some.line _ c.in-Ok-Some.ensures c.in-Ok-Some.field-0-is in
    let told = subst (λ (l : List ℕ). Appends (g.W.Write.contents c.args.writer.now) (g.W.Write.contents c.tell.new.writer) l) c.deref.ensures.value c.in-Ok.ensures.ok in
    job_told styled job old _ _ c.in-Ok-Some.line.items c.args.fault (subst (λ (json : Bool). told_line json c.args.fault ≡ Some c.in-Ok-Some.line.items) (sym form) tells) did told

pub returns-in-Ok-Some : goal.returns-in-Ok-Some
returns-in-Ok-Some g c = λ styled job old form did.
    let tells = some_told bytes c.in-Ok-Some.field-0 c.in-Ok-Some.line _ c.in-Ok-Some.ensures c.in-Ok-Some.field-0-is in
    let front = subst (λ (l : List ℕ). WritesFront (g.W.Write.contents c.args.writer.now) (g.W.Write.contents c.tell.new.writer) l) c.deref.ensures.value c.in-Err-tell.ensures.front in
    job_broken styled job old _ _ c.in-Ok-Some.line.items c.args.fault c.in-Err-tell.other (subst (λ (json : Bool). told_line json c.args.fault ≡ Some c.in-Ok-Some.line.items) (sym form) tells) did front c.in-Err-tell.ensures.output

pub returns : goal.returns
returns g c = λ styled job old form did. job_unsaid styled job old _ c.args.fault c.from.result did c.from.ensures
