use Rattle.adf_export.proofs.Common.{ℕ, ◌++◌, List, [], ◌∷◌, Bool, true, append_assoc, refl, ap, ap₂, ◌∙◌, to_second, comment_text, right_in, shown, styled_path}
use Rattle.adf_script.specs.Text.{spaced}
use Rattle.adf_record.specs.Shown.{bold}
use Rattle.adf_export.proofs.Padding.{six_pieces}
use Rattle.adf_export.proofs.long.push_long.Goals as goal

pub returns : goal.returns
returns c =
    let size = c.in_ok-push_right.ensures ∙ ap (λ (w : List ℕ). c.args.text.now.items ++ right_in 8 w) (c.as_bytes.ensures.value ∙ c.size_word.ensures) in
    let letters = c.in_ok-push_spaced.ensures ∙ ap₂ (λ (l w : List ℕ). l ++ spaced w) size c.protection_letters.ensures in
    let date = c.in_ok-push_date.ensures in
    let dated = date.2 ∙ ap (λ (l : List ℕ). l ++ spaced (to_second date.0)) letters in
    let names = styled_path c.args.styled c.args.info.now c.args.path.now in
    let space = c.in_ok-push.ensures.items ∙ ap (λ (l : List ℕ). l ++ 32 ∷ []) dated in
    let path = c.in_ok-push_path.ensures ∙ ap₂ (λ (l : List ℕ) (b : Bool). l ++ bold b (shown true c.args.path.now)) space c.is_bold.ensures ∙ append_assoc _ (32 ∷ []) names in
    let comment = c.in_ok-push_comment.ensures ∙ ap₂ (λ (l w : List ℕ). l ++ comment_text w) path c.bytes.ensures.value in
    let whole = c.in_ok-push-2.ensures.items ∙ ap (λ (l : List ℕ). l ++ 10 ∷ []) comment in
    (_, (date.0, date.1, refl), whole ∙ six_pieces c.args.text.now.items _ _ _ _ _ (10 ∷ []))
