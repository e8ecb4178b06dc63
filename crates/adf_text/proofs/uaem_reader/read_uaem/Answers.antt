use Rattle.adf_text.proofs.Common.{◌≡◌, ℕ, List, All, Bor, Result, Ok, Err, IfErr, IsErrAnd, sym, ap, refl, subst, ◌∙◌, ⊤, IsUtf8, All-same, chars_from_encodes, IsByte, letters, Date3, IsStamp, BeginsWithDate, HasNoDate, IsUaemFaultOf}
use Rattle.std.specs.Str.{chars}
use Rattle.adf_text.proofs.DatedLemmas.{none-in, some-in}
use Rattle.adf_text.proofs.ReadsLemmas.{line-read, line-fault, bits-fault, date-fault, comment-fault, note-read}
use Rattle.adf_text.proofs.uaem_reader.read_uaem.Goals as goal

if-err : {T E : Type 0} (r : Result T E) (P : E → Type 0) (x : E) → IsErrAnd r (λ y. y ≡ x) → P x → IfErr r P
if-err (Ok v) P x is holds = tt
if-err (Err y) P x is holds = subst P (sym is) holds

-- the letters of the file, each of which is a byte
found : (file text items shown : List ℕ) → text ≡ file → IsUtf8 file → letters items ≡ text → shown ≡ items → All IsByte (chars text) → (letters shown ≡ file) × All IsByte shown
found file text items shown is utf8 ok view small = (
  ap letters view ∙ ok ∙ is,
  All-same IsByte shown (chars text) (view ∙ chars_from_encodes items file utf8 (ok ∙ is) ∙ ap chars (sym is)) small,
)

pub returns-in_err-line-clause-fault : goal.returns-in_err-line-clause-fault
returns-in_err-line-clause-fault c =
    let file = c.args.file.now in
    let view = found file c.in-Ok.text.now c.in_ok-letters.letters.items c.deref.result.now c.in-Ok.ensures.cases.0 c.in-Ok.ensures.cases.1 c.in_ok-letters.ensures.ok c.deref.ensures.value c.in_ok-letters.ensures.letters in
    if-err c.from_residual-in_err-line.result (IsUaemFaultOf file) c.in_err-line.field-0.0 c.from_residual-in_err-line.ensures.1
    (line-fault file c.deref.result.now view.0 view.1 c.in_err-line.field-0.0 c.in_err-line.ensures.fault)

pub returns-in_default-clause-fault : goal.returns-in_default-clause-fault
returns-in_default-clause-fault c =
    let file = c.args.file.now in
    let view = found file c.in-Ok.text.now c.in_ok-letters.letters.items c.deref.result.now c.in-Ok.ensures.cases.0 c.in-Ok.ensures.cases.1 c.in_ok-letters.ensures.ok c.deref.ensures.value c.in_ok-letters.ensures.letters in
    let has = line-read file c.deref.result.now view.0 view.1 c.in_ok-line.line.now c.in_ok-line.ensures.ok in
    bits-fault file c.in_ok-line.line.now has c.in_default.ensures.none

pub returns-in_default-2-clause-fault : goal.returns-in_default-2-clause-fault
returns-in_default-2-clause-fault c =
    let file = c.args.file.now in
    let view = found file c.in-Ok.text.now c.in_ok-letters.letters.items c.deref.result.now c.in-Ok.ensures.cases.0 c.in-Ok.ensures.cases.1 c.in_ok-letters.ensures.ok c.deref.ensures.value c.in_ok-letters.ensures.letters in
    let line = c.in_ok-line.line.now in
    let has = line-read file c.deref.result.now view.0 view.1 line c.in_ok-line.ensures.ok in
    let bits = c.in-Some.protect.0 in
    let dated = c.in-Some.dated.now in
    let begins = c.in-Some.ensures.bits in
    let eight = c.in-Some.ensures.eight in
    date-fault file line has bits dated begins eight
    (none-in c.in_ok-date.field-0 (HasNoDate dated) (λ (f : Date3 × Bor (List ℕ)). BeginsWithDate dated f.0 f.1.now) c.in_default-2.is c.in_ok-date.ensures.found)

pub returns-in_err-comment-clause-fault : goal.returns-in_err-comment-clause-fault
returns-in_err-comment-clause-fault c =
    let file = c.args.file.now in
    let view = found file c.in-Ok.text.now c.in_ok-letters.letters.items c.deref.result.now c.in-Ok.ensures.cases.0 c.in-Ok.ensures.cases.1 c.in_ok-letters.ensures.ok c.deref.ensures.value c.in_ok-letters.ensures.letters in
    let line = c.in_ok-line.line.now in
    let has = line-read file c.deref.result.now view.0 view.1 line c.in_ok-line.ensures.ok in
    let bits = c.in-Some.protect.0 in
    let dated = c.in-Some.dated.now in
    let begins = c.in-Some.ensures.bits in
    let eight = c.in-Some.ensures.eight in
    let date = some-in c.in_ok-date.field-0 _ (HasNoDate dated) (λ (f : Date3 × Bor (List ℕ)). BeginsWithDate dated f.0 f.1.now) c.in-Some-2.is c.in_ok-date.ensures.found in
    let stamp = some-in c.in_ok-date.field-0 _ ⊤ (λ (f : Date3 × Bor (List ℕ)). IsStamp f.0) c.in-Some-2.is c.in_ok-date.ensures.stamp in
    if-err c.from_residual-in_err-comment.result (IsUaemFaultOf file) c.in_err-comment.field-0.0 c.from_residual-in_err-comment.ensures.1
    (comment-fault file line has bits dated begins eight c.in-Some-2.date c.in-Some-2.behind.now stamp date c.in_err-comment.field-0.0 c.in_err-comment.ensures.fault)

pub returns-clause-ok : goal.returns-clause-ok
returns-clause-ok c =
    let file = c.args.file.now in
    let view = found file c.in-Ok.text.now c.in_ok-letters.letters.items c.deref.result.now c.in-Ok.ensures.cases.0 c.in-Ok.ensures.cases.1 c.in_ok-letters.ensures.ok c.deref.ensures.value c.in_ok-letters.ensures.letters in
    let line = c.in_ok-line.line.now in
    let has = line-read file c.deref.result.now view.0 view.1 line c.in_ok-line.ensures.ok in
    let bits = c.in-Some.protect.0 in
    let dated = c.in-Some.dated.now in
    let begins = c.in-Some.ensures.bits in
    let eight = c.in-Some.ensures.eight in
    let date = some-in c.in_ok-date.field-0 _ (HasNoDate dated) (λ (f : Date3 × Bor (List ℕ)). BeginsWithDate dated f.0 f.1.now) c.in-Some-2.is c.in_ok-date.ensures.found in
    let stamp = some-in c.in_ok-date.field-0 _ ⊤ (λ (f : Date3 × Bor (List ℕ)). IsStamp f.0) c.in-Some-2.is c.in_ok-date.ensures.stamp in
    note-read file line has bits dated begins eight c.in-Some-2.date c.in-Some-2.behind.now stamp date
    (record { protect = c.in-Some.protect; date = c.in-Some-2.date; comment = c.in_ok-comment.comment }) refl refl c.in_ok-comment.ensures.ok
