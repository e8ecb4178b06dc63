use Rattle.adf_where.proofs.Common.{ℕ, false, List, [], ◌∷◌, ◌++◌, codes, ap, ap₂, ◌∙◌, IfOk-weaker}
use Rattle.json.specs.Print.{print}
use Rattle.json.specs.Token.{Token, boolean, end_object, key, string}
use Rattle.adf_where.specs.FaultyMap.{faulty_map_tokens}
use Rattle.adf_where.specs.Refused.{fault_reason}
use Rattle.adf_where.proofs.map_object.faulty_map_object.Goals as goal

pub returns : goal.returns
returns c =
    let kind = c.args.reason.kind.now in
    let at = c.args.reason.block in
    let before = c.in_ok-put_flag.ensures.before ∙ c.in_ok-put_text.ensures.before ∙ c.in_ok-put_fault_reason.ensures.before ∙ c.in_ok-writer.ensures.before in
    let tokens =
    c.in_ok-put_flag.ensures.tokens
    ∙ ap (λ (l : List Token). l ++ (key (codes "more") ∷ boolean false ∷ []))
    (c.in_ok-put_text.ensures.tokens
    ∙ ap (λ (l : List Token). l ++ (key (codes "map") ∷ string c.as_str.result.now ∷ [])) (c.in_ok-put_fault_reason.ensures.tokens ∙ ap (λ (l : List Token). l ++ fault_reason kind at) c.in_ok-writer.ensures.tokens)) in
    let marks = ap (λ (m : List ℕ). print (faulty_map_tokens kind at m) ++ codes "\n") (c.as_str.ensures.value ∙ c.in_ok-marks.ensures) in
    IfOk-weaker c.end_refused.result _ _ (λ text is. is ∙ ap₂ (λ (b : List ℕ) (l : List Token). b ++ (print (l ++ end_object ∷ []) ++ codes "\n")) before tokens ∙ marks) c.end_refused.ensures
