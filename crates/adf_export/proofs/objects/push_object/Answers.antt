use Rattle.adf_export.proofs.Common.{◌≡◌, ℕ, ◌++◌, List, refl, ap₂, ◌∙◌, string_bytes, on_ok_weaker, PushesEntry}
use Rattle.adf_cli.specs.declared.query.ListForm.TheVariants.{Json}
use Rattle.adf_export.specs.Objects.{object_line}
use Rattle.adf_export.proofs.objects.push_object.Goals as goal

pub returns : goal.returns
returns c =
    let old = c.args.text.now.items in
    let new = c.push_told.new.text.items in
    let told : new ≡ old ++ object_line c.args.info.now c.as_str.result.now c.as_str-2.result.now → PushesEntry Json old new c.args.info.now c.args.path.now =
    λ e. (
      _,
      (string_bytes c.in_ok-date.date, c.in_ok-date.ensures, refl),
      e ∙ ap₂ (λ (p d : List ℕ). old ++ object_line c.args.info.now p d) (c.as_str.ensures.value ∙ c.in_ok-letters.ensures) c.as_str-2.ensures.value,
    ) in
    on_ok_weaker c.push_told.result told c.push_told.ensures
