-- The reasons of entries, one after the other.
use Rattle.std.proofs.Common.{◌≡◌, ℕ, ◌+◌, ◌<◌, List, [], ◌∷◌, ◌++◌, length, get_or, take, Option, sym, ap, ◌∙◌, subst}
use Rattle.std.specs.List.{AllZip}
use Rattle.std.proofs.lemmas.List.{take_more}
use Rattle.std.proofs.lemmas.Slice.Zip.{all_zipped_more}
use Rattle.ados_salvage.specs.declared.salvaged.Salvaged.{Salvaged}
use Rattle.ados_salvage.specs.Salvaged.{Saved}
use Rattle.adf_rescue.specs.declared.doubt.Doubt.{Doubt}
use Rattle.adf_rescue.specs.Reasons.{IsReason}

abbrev pub IsReasonOf : Saved → Salvaged → Option Doubt → Type 0
IsReasonOf saved entry doubt = IsReason saved entry.header entry.state doubt

-- the reason of one more entry
pub doubts_more : (saved : Saved) (entries : List Salvaged) (i : ℕ) (doubts : List (Option Doubt)) (entry : Salvaged) (doubt : Option Doubt) → i < length entries → entry ≡ get_or entries i entry → AllZip (IsReasonOf saved) (take i entries) doubts
    → IsReasonOf saved entry doubt → AllZip (IsReasonOf saved) (take (i + 1) entries) (doubts ++ doubt ∷ [])
doubts_more saved entries i doubts entry doubt inside is so_far here =
    subst (λ (es : List Salvaged). AllZip (IsReasonOf saved) es (doubts ++ doubt ∷ [])) (sym (take_more entries i entry inside ∙ ap (λ (e : Salvaged). take i entries ++ e ∷ []) (sym is)))
    (all_zipped_more (IsReasonOf saved) (take i entries) doubts entry doubt so_far here)
