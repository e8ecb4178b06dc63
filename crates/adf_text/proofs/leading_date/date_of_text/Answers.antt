use Rattle.adf_text.proofs.Common.{List, ℕ, Bor, ⊤, Date3, IsStamp, BeginsWithDate, HasNoDate}
use Rattle.adf_text.proofs.DatedLemmas.{alone-dated, has-length, no-length, none-alone, none-dated, none-in, some-in}
use Rattle.adf_text.proofs.leading_date.date_of_text.Goals as goal

pub returns-in_default : goal.returns-in_default
returns-in_default c =
    let text = c.args.text.now in
    none-dated text (none-in c.in_ok-found.found (HasNoDate text) (λ (f : Date3 × Bor (List ℕ)). BeginsWithDate text f.0 f.1.now) c.in_default.is c.in_ok-found.ensures.found)

pub returns-then-not-is_empty : goal.returns-then-not-is_empty
returns-then-not-is_empty c =
    let text = c.args.text.now in
    let begins = some-in c.in_ok-found.found _ (HasNoDate text) (λ (f : Date3 × Bor (List ℕ)). BeginsWithDate text f.0 f.1.now) c.in-Some.is c.in_ok-found.ensures.found in
    let stamp = some-in c.in_ok-found.found _ ⊤ (λ (f : Date3 × Bor (List ℕ)). IsStamp f.0) c.in-Some.is c.in_ok-found.ensures.stamp in
    none-alone text c.in-Some.behind.now c.in-Some.date stamp begins (has-length _ _ c.is_empty.ensures c.if-not-is_empty.true)

pub returns : goal.returns
returns c =
    let text = c.args.text.now in
    let begins = some-in c.in_ok-found.found _ (HasNoDate text) (λ (f : Date3 × Bor (List ℕ)). BeginsWithDate text f.0 f.1.now) c.in-Some.is c.in_ok-found.ensures.found in
    alone-dated text c.in-Some.behind.now c.in-Some.date begins (no-length _ _ c.is_empty.ensures c.if-not-is_empty.false)
