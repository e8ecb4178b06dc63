use Rattle.std.proofs.Common.{◌≡◌, ℕ, List, refl, sym, ap, ◌∙◌, subst}
use Rattle.adf_import.proofs.Common.{All, HasTree, Shown, Stands}
use Rattle.adf_import.specs.SavedVolume.{HasBootOf, IsHeadFor}
use Rattle.adf_import.specs.declared.saved_look.Looked.{Looked}
use Rattle.adf_import.specs.steps.Spots.{IsLooked}
use Rattle.adf_import.proofs.saved_volume.volume_of_salvage.Goals as goal

pub left_entries-requires : goal.left_entries-requires
left_entries-requires c =
    subst (λ (v : Shown). All (IsLooked v.image c.args.salvage.now c.in_ok-plan.plan.own) c.deref.result.now) (sym c.in_ok-looked.ensures.same)
    (subst (λ (xs : List Looked). All (IsLooked c.in-Ok.volume.image c.args.salvage.now c.in_ok-plan.plan.own) xs) (sym c.deref.ensures.value) c.in_ok-looked.ensures.looked)

pub returns : goal.returns
returns c =
    let same : c.image-else-not-is_headed.result.now ≡ c.look_through.new.volume.image = c.image-else-not-is_headed.ensures.same ∙ sym (ap (λ (v : Shown). v.image) c.in_ok-looked.ensures.same) in
    record {
      stands = subst HasTree (sym (ap (λ (v : Shown). v.image) c.in_ok-looked.ensures.same)) c.image-else-not-is_headed.ensures.stands;
      entries = c.in_ok-left.ensures.saved;
      left_out = c.in_ok-left.ensures.left;
      head = λ t s.
          let before : Stands c.in-Ok.volume.image t = subst (λ (v : Shown). Stands v.image t) c.in_ok-looked.ensures.same s in (
            c.head_of-head.result,
            subst (λ (i : List ℕ). IsHeadFor i c.args.moment c.head_of-head.result) c.image.ensures.image c.head_of-head.ensures,
            c.in_ok-is_headed.ensures t before c.if-not-is_headed.false,
          );
      boot = subst (HasBootOf c.args.salvage.now) same (c.if-not-has_boot.ensures refl);
    }
