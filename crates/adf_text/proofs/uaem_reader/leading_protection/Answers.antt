use Rattle.adf_text.proofs.Common.{◌≡◌, ℕ, ◌∷◌, ◌++◌, List, take, drop, sym, ap, ◌∙◌, arith, both_ways, take-append-drop, protection_letters}
use Rattle.adf_text.proofs.ReadsLemmas.{letters-of_bits}
use Rattle.adf_text.proofs.uaem_reader.leading_protection.Goals as goal

joined : (line front back : List ℕ) → front ≡ take 8 line → back ≡ drop 8 line → line ≡ front ++ back
joined line front back first second = sym (take-append-drop 8 line) ∙ (λ i. sym first i ++ sym second i)

pub returns-then-not-are_letters_of-clause-none : goal.returns-then-not-are_letters_of-clause-none
returns-then-not-are_letters_of-clause-none c = λ bits behind begins.
    let front = c.in_ok-front.front.now in
    let back = c.in_ok-front.behind.now in
    let cut = c.in_ok-front.ensures.cases in
    let letters = letters-of_bits c.args.line.now front back bits behind (joined c.args.line.now front back cut.1 cut.2) cut.3 begins in
    both_ways c.are_letters_of.result c.if-not-are_letters_of.true
    (c.are_letters_of.ensures.1 (letters.0 ∙ ap protection_letters (sym c.spelled_bits-protect.ensures.value)))

pub returns-clause-bits : goal.returns-clause-bits
returns-clause-bits c =
    let front = c.in_ok-front.front.now in
    let back = c.in_ok-front.behind.now in
    let cut = c.in_ok-front.ensures.cases in
    let letters = c.are_letters_of.ensures.0 c.if-not-are_letters_of.false in
    let space : c.in_ok-space.space.now ≡ 32 = omega arith in
    let behind = c.in_ok-space.ensures.cases.0 in
    joined c.args.line.now front back cut.1 cut.2 ∙ ap (λ x. x ++ back) letters ∙ ap (λ x. protection_letters c.spelled_bits-protect.result.0 ++ x) (behind ∙ ap (λ x. x ∷ c.in_ok-space.dated.now) space)
