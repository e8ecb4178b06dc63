use Rattle.adf_text.proofs.Common.{◌≡◌, ℕ, List, [], ◌∷◌, ◌++◌, append_assoc, ap, ◌∙◌, codes, IfOk-weaker, string_bytes, Comment, letters, escaped, protection_letters}
use Rattle.adf_text.proofs.uaem.uaem_line.Goals as goal

-- the parts of the line
joined : (protection date comment line shown_protection shown_comment : List ℕ) → protection ≡ shown_protection → comment ≡ shown_comment
    → line ≡ protection ++ (32 ∷ (date ++ (32 ∷ (comment ++ 10 ∷ [])))) → line ≡ shown_protection ++ codes " " ++ date ++ codes " " ++ shown_comment ++ 10 ∷ []
joined protection date comment line shown_protection shown_comment of_bits of_comment written = rw (← of_bits, ← of_comment) (simp append_assoc written)

pub returns : goal.returns
returns c =
    let noted = c.args.noted.now in
    let of_bits : string_bytes c.in_ok-protection.protection ≡ letters (protection_letters noted.protect.0) =
    c.in_ok-protection.ensures ∙ ap letters c.protection_letters.ensures in
    let of_comment : string_bytes c.in_ok-comment.comment ≡ letters (escaped Comment noted.comment) =
    c.in_ok-comment.ensures ∙ ap letters (c.deref.ensures.value ∙ c.in_ok-shown.ensures ∙ ap (escaped Comment) c.bytes.ensures.value) in
    IfOk-weaker c.format.result _ _
    (λ text written. (
      string_bytes c.in_ok-date.date,
      c.in_ok-date.ensures,
      joined _ (string_bytes c.in_ok-date.date) _ (string_bytes text) _ _ of_bits of_comment written,
    ))
    c.format.ensures.ok
