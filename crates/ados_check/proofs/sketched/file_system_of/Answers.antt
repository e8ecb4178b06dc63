use Rattle.ados_check.proofs.Common.{◌≡◌, ◌∷◌, [], refl, sym, ◌∙◌, bytes_at}
use Rattle.std.proofs.lemmas.Slice.Eq.{bytes_eq-Decides}
use Rattle.ados_check.proofs.BootBytes.{is_dos, kind_is, names_kind}
use Rattle.ados_check.proofs.sketched.file_system_of.Goals as goal

pub returns-then-eq : goal.returns-then-eq
returns-then-eq c =
    let image = c.args.sketch.now in
    let is : bytes_at image 0 0 4 ≡ 68 ∷ 79 ∷ 83 ∷ 0 ∷ [] = sym c.boot-boot.ensures ∙ (bytes_eq-Decides c.boot-boot.result (68 ∷ 79 ∷ 83 ∷ 0 ∷ [])).0 (sym c.if-eq.ensures) in
    ((is_dos image 0 is, kind_is image 0 is), names_kind image 0 is refl)

pub returns-then-eq-2 : goal.returns-then-eq-2
returns-then-eq-2 c =
    let image = c.args.sketch.now in
    let is : bytes_at image 0 0 4 ≡ 68 ∷ 79 ∷ 83 ∷ 1 ∷ [] = sym c.boot-boot.ensures ∙ (bytes_eq-Decides c.boot-boot.result (68 ∷ 79 ∷ 83 ∷ 1 ∷ [])).0 (sym c.if-eq-2.ensures) in
    ((is_dos image 1 is, kind_is image 1 is), names_kind image 1 is refl)
