use Rattle.ados_name.proofs.Common.{ℕ, ◌≡◌, ◌≤◌, ◌==◌, Option, List, [], ◌∷◌, Bool, true, false, is_some, length, All, ◌<◌, refl, subst, sym, ◌∙◌, true≢false, list_any, IsFirstByte, is_in, Separator, is_separator, IsName}
use Rattle.ados_name.proofs.SeparatorLemmas.{is_in-separators, list_any-found}
use Rattle.ados_name.proofs.NameLemmas.{IsName-from_plain, first_fault-separator, plain-from_IsName, no_name_is_same}
use Rattle.ados_name.proofs.name.Name.new.Goals as goal

found-separator : (text : List ℕ) (r : Option ℕ) (found : Bool) → IsFirstByte (is_in (47 ∷ 58 ∷ [])) text r → found ≡ is_some r → list_any is_separator text ≡ found
found-separator text r found search is = list_any-found is_separator text r (subst (λ test. IsFirstByte test text r) is_in-separators search) ∙ sym is

pub returns-then-is_some-clause-fault : goal.returns-then-is_some-clause-fault
returns-then-is_some-clause-fault c =
    let text = c.args.text.now in
    first_fault-separator text (sym c.if-is_empty.ensures) c.if-text-gt-MAX_LEN.false
    (found-separator text c.find_byteset.result true c.find_byteset.ensures c.if-is_some.ensures)

pub returns-then-is_some-clause-valid : goal.returns-then-is_some-clause-valid
returns-then-is_some-clause-valid c =
    let text = c.args.text.now in
    let found = found-separator text c.find_byteset.result true c.find_byteset.ensures c.if-is_some.ensures in
    (λ e. absurd (true≢false (sym e)), λ name. sym (plain-from_IsName text name) ∙ found)

module _ (text : List ℕ) (r : Option ℕ) (some : (length text == 0) ≡ false) (short : length text ≤ 30)
    (search : IsFirstByte (is_in (47 ∷ 58 ∷ [])) text r) (none : false ≡ is_some r) where
  is_name : All (λ c. c < 256) text → IsName text
  is_name bytes = IsName-from_plain text some short bytes (found-separator text r false search none)

pub invariant_of-result : goal.invariant_of-result
invariant_of-result c =
    rw c.new.ensures.value (is_name c.args.text.now c.find_byteset.result (sym c.if-is_empty.ensures) c.if-text-gt-MAX_LEN.false
    c.find_byteset.ensures c.if-is_some.ensures c.new.ensures.bytes)

pub returns-clause-valid : goal.returns-clause-valid
returns-clause-valid c = (
  λ _. is_name c.args.text.now c.find_byteset.result (sym c.if-is_empty.ensures) c.if-text-gt-MAX_LEN.false
      c.find_byteset.ensures c.if-is_some.ensures c.new.ensures.bytes,
  λ _. refl,
)

pub returns-then-is_some-clause-foreign : goal.returns-then-is_some-clause-foreign
returns-then-is_some-clause-foreign c = no_name_is_same c.args.text.now Separator (returns-then-is_some-clause-fault c)
