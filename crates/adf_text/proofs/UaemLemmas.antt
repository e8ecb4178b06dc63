-- A line belongs to one content only.
use Rattle.adf_text.proofs.Common.{◌≡◌, ℕ, List, [], ◌∷◌, ◌++◌, drop, All, append_assoc, refl, sym, ap, ◌∙◌, codes, same_from_push, encodes_same, percent_decode, Comment, Uaem, IsByte, letters, escaped, protection_letters, protection_of, IsLineOf, IsNoted, TellsSame}
use Rattle.adf_text.proofs.EscapesLemmas.{percent_decode-escaped}
use Rattle.adf_text.proofs.ProtectionLettersLemmas.{protection_of-letters, letters-protection_letters}
use Rattle.adf_text.proofs.DatedLemmas.{split-same, dates-same}

comments-same : (c e : List ℕ) → All IsByte c → All IsByte e → letters (escaped Comment c) ++ 10 ∷ [] ≡ letters (escaped Comment e) ++ 10 ∷ [] → c ≡ e
comments-same c e of_c of_e same =
    let shown = encodes_same (escaped Comment c) (escaped Comment e) (same_from_push (letters (escaped Comment c)) (letters (escaped Comment e)) 10 10 same).0 in
    sym (percent_decode-escaped Comment c of_c) ∙ ap percent_decode shown ∙ percent_decode-escaped Comment e of_e

pieces : (protection date comment : List ℕ) → protection ++ codes " " ++ date ++ codes " " ++ comment ++ 10 ∷ [] ≡ protection ++ (32 ∷ (date ++ 32 ∷ (comment ++ 10 ∷ [])))
pieces protection date comment = simp append_assoc refl

pub line-shape : (bits : ℕ) (date comment : List ℕ) → letters (protection_letters bits) ++ codes " " ++ date ++ codes " " ++ comment ++ 10 ∷ []
    ≡ protection_letters bits ++ (32 ∷ (date ++ 32 ∷ (comment ++ 10 ∷ [])))
line-shape bits date comment =
    ap (λ p. p ++ codes " " ++ date ++ codes " " ++ comment ++ 10 ∷ []) (letters-protection_letters bits) ∙ pieces (protection_letters bits) date comment

pub line_tells_one : (line : List ℕ) (noted other : Uaem) → IsNoted noted → IsNoted other → IsLineOf noted line → IsLineOf other line → TellsSame noted other
line_tells_one line noted other is_noted is_other first second =
    let shapes = sym (line-shape noted.protect.0 first.0 (letters (escaped Comment noted.comment))) ∙ sym first.2 ∙ second.2 ∙ line-shape other.protect.0 second.0 (letters (escaped Comment other.comment)) in
    let front = split-same (protection_letters noted.protect.0) (protection_letters other.protect.0) _ _ refl shapes in
    let back = dates-same noted.date other.date first.0 second.0 _ _ is_noted.date is_other.date (ap (drop 1) front.1) first.1 second.1 in
    record {
      protect = sym (protection_of-letters noted.protect.0) ∙ ap protection_of front.0 ∙ protection_of-letters other.protect.0;
      date = back.0;
      comment = comments-same noted.comment other.comment is_noted.comment.bytes is_other.comment.bytes back.1;
    }
