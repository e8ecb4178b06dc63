use Rattle.ados_volume.proofs.Common.{Content, Directory, File, None, Option, Some, ap, entry_type, of_z, refl, to_z, w32, ℕ, ℤ, ◌∙◌, ◌≡◌}
use Rattle.ados_volume.proofs.examine.examine_in.Goals as goal

-- a type is unchanged by a conversion to 32 bits and back
kept_type : (parent : Option ℕ) (content : Content) → to_z w32 (of_z w32 (entry_type parent content)) ≡ entry_type parent content
kept_type None content = refl
kept_type (Some dir) (Directory keys) = refl
kept_type (Some dir) (File bytes) = refl

pub returns : goal.returns
returns c = λ t node s e.
    let type_is = ap (λ (z : ℤ). to_z w32 (of_z w32 z)) (c.entry_type_in.ensures t node s e) ∙ kept_type node.parent node.content in
    λ i. record {
      key = c.args.key;
      entry_type = type_is i;
      name = c.name_in.ensures t node s e i;
      protection = record { 0 = c.protection_in.ensures t node s e i };
      size = c.size_in-size.ensures t node s e i;
      blocks = c.cost_in.ensures t node s e i;
      date = c.date_in.ensures t node s e i;
      comment = c.comment_in.ensures t node s e i;
    }
