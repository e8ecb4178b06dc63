-- The blank floppy represents its tree.
use Rattle.std.proofs.Common.{ℕ, ◌<◌, List, [], ◌∷◌, codes, arith, lit<, lit≤}
use Rattle.std.proofs.lemmas.List.Elements.{All-nil, All-cons}
use Rattle.adf_block.specs.declared.layout.Format.TheVariants.{Ffs}
use Rattle.ados_name.specs.Name.{IsName, IsNameByte}
use Rattle.ados_model.specs.Blank.{IsBlank, blank_tree}
use Rattle.ados_model.specs.Stands.{Stands}
use Rattle.ados_model.proofs.Blank.{blank_stands}
use Rattle.adf_serve.specs.Script.{first_moment}

letter : (c : ℕ) → c < 256 → 58 < c → IsNameByte c
letter c byte above = record { byte = byte; no_slash = λ e. omega (arith, above, e); no_colon = λ e. omega (arith, above, e) }

work_is_name : IsName (codes "Work")
work_is_name = record {
  not_empty = lit≤ tt;
  short = lit≤ tt;
  plain = All-cons IsNameByte 87 (111 ∷ 114 ∷ 107 ∷ []) (letter 87 (lit< tt) (lit< tt))
      (All-cons IsNameByte 111 (114 ∷ 107 ∷ []) (letter 111 (lit< tt) (lit< tt))
      (All-cons IsNameByte 114 (107 ∷ []) (letter 114 (lit< tt) (lit< tt))
      (All-cons IsNameByte 107 [] (letter 107 (lit< tt) (lit< tt)) (All-nil IsNameByte))));
}

pub work_stands : (image : List ℕ) → IsBlank Ffs 1760 (codes "Work") first_moment image → Stands image (blank_tree Ffs 1760 (codes "Work") first_moment)
work_stands image blank = blank_stands Ffs 1760 (codes "Work") first_moment image work_is_name blank
