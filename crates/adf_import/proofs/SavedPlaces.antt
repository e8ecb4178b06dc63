-- Paths of places in a new volume, and what is found there.
use Rattle.std.proofs.Common.{◌≡◌, ℕ, Bool, true, false, List, [], ◌∷◌, ◌++◌, Option, Some, None, option_map, slice_get, refl, sym, ap, ◌∙◌, subst, append_assoc, append-nil}
use Rattle.adf_import.proofs.Common.{HasDirectory, Stands, Tree, child_of, root}
use Rattle.ados_salvage.specs.Salvaged.{Saved}
use Rattle.ados_salvage.specs.declared.salvaged.Salvaged.{Salvaged}
use Rattle.adf_import.specs.SavedNames.{name_for}
use Rattle.adf_import.specs.SavedVolume.{IsAtSpot, IsPathOf, front_for}
use Rattle.adf_import.specs.SavedVolume.IsPathOf.{top, below}
use Rattle.adf_import.specs.SavedVolume.LeadsTo.{at_root, child}
use Rattle.adf_import.specs.declared.saved_names.OwnNames.{OwnNames}
use Rattle.adf_import.specs.declared.spots.Spot.{Spot}
use Rattle.adf_import.specs.SavedLeft.{IsNameAt, IsNameIn, above_in, root_spot, spot_above, spot_with}
use Rattle.adf_import.specs.declared.saved_look.AtPath.{AtPath}
use Rattle.adf_import.specs.declared.saved_look.AtPath.TheVariants as paths
use Rattle.adf_import.specs.steps.Spots.{IsChildAt, IsFoundAt}

-- the path of no entry is empty
no_path : (entries : List Salvaged) (o : Option ℕ) (path : List (List ℕ)) → IsPathOf entries o path → o ≡ None → path ≡ []
no_path entries None path top none = refl
no_path entries (Some place) path (below at front) none = absurd (cc none)

-- the root is at its place
pub root_at : (t : Tree) (entries : List Salvaged) (own : OwnNames) → IsAtSpot t entries own root_spot (root t)
root_at t entries own = record { path = []; spelled = record { rest = []; old = top; all = refl }; leads = at_root }

pub root_is_at : (t : Tree) (entries : List Salvaged) (own : OwnNames) (at : Spot) (key : ℕ) → at ≡ root_spot → key ≡ root t → IsAtSpot t entries own at key
root_is_at t entries own at key is_root is =
    subst (λ (s : Spot). IsAtSpot t entries own s key) (sym is_root) (subst (IsAtSpot t entries own root_spot) (sym is) (root_at t entries own))

-- the name of an entry is that of its place
pub named_entry : (entries : List Salvaged) (own : OwnNames) (at : Spot) (place : ℕ) (entry : Salvaged) (name : List ℕ) → at.entry ≡ Some place → slice_get entries place ≡ Some entry → name ≡ name_for entry
    → IsNameAt entries own at name
named_entry entries own at place entry name is there named = subst (λ (o : Option ℕ). IsNameIn entries own at.damaged at.found o name) (sym is) (entry, there, named)

-- what stands in front of a path in the directory for what was found
front_found : (own : OwnNames) (damaged : Bool) → front_for own damaged true ≡ front_for own damaged false ++ own.found ∷ []
front_found own true = refl
front_found own false = refl

-- the place of an entry is one step behind that of its directory
module _ (t : Tree) (entries : List Salvaged) (own : OwnNames) (name : List ℕ) (dir key : ℕ) (is : child_of t dir name ≡ Some key) where
  -- of an entry
  entry_step : (damaged found : Bool) (place : ℕ) (entry : Salvaged) → slice_get entries place ≡ Some entry → name ≡ name_for entry → IsAtSpot t entries own (spot_with damaged found entry.above) dir
      → IsAtSpot t entries own (spot_with damaged found (Some place)) key
  entry_step damaged found place entry there named at = record {
    path = at.path ++ name ∷ [];
    spelled = record {
      rest = at.spelled.rest ++ name_for entry ∷ [];
      old = below there at.spelled.old;
      all =
          ap (λ (p : List (List ℕ)). p ++ name ∷ []) at.spelled.all ∙ ap (λ (n : List ℕ). (front_for own damaged found ++ at.spelled.rest) ++ n ∷ []) named
          ∙ append_assoc (front_for own damaged found) at.spelled.rest (name_for entry ∷ []);
    };
    leads = child name at.leads is;
  }

  -- of one of the two directories
  own_step : (damaged found : Bool) (above : Spot) → above.entry ≡ None → front_for own damaged found ≡ front_for own above.damaged above.found ++ name ∷ []
      → IsAtSpot t entries own above dir → IsAtSpot t entries own (spot_with damaged found None) key
  own_step damaged found above none fronts at =
      let empty : at.spelled.rest ≡ [] = no_path entries above.entry at.spelled.rest at.spelled.old none in
      let before : at.path ≡ front_for own above.damaged above.found = at.spelled.all ∙ ap (λ (r : List (List ℕ)). front_for own above.damaged above.found ++ r) empty ∙ append-nil _ in
      record {
        path = at.path ++ name ∷ [];
        spelled = record { rest = []; old = top; all = ap (λ (p : List (List ℕ)). p ++ name ∷ []) before ∙ sym fronts ∙ sym (append-nil _) };
        leads = child name at.leads is;
      }

  step_in : (damaged found : Bool) (entry : Option ℕ) (above : Spot) → above_in entries damaged found entry ≡ Some above → IsNameIn entries own damaged found entry name
      → IsAtSpot t entries own above dir → IsAtSpot t entries own (spot_with damaged found entry) key
  step_in damaged found (Some place) above up (entry, there, named) at =
      let told : Some (spot_with damaged found entry.above) ≡ Some above = sym (ap (option_map (λ (e : Salvaged). spot_with damaged found e.above)) there) ∙ up in
      let same : spot_with damaged found entry.above ≡ above = cc told in
      entry_step damaged found place entry there named (subst (λ (s : Spot). IsAtSpot t entries own s dir) (sym same) at)
  step_in damaged true None above up named at =
      let same : spot_with damaged false None ≡ above = cc up in
      own_step damaged true (spot_with damaged false None) refl (front_found own damaged ∙ ap (λ (n : List ℕ). front_for own damaged false ++ n ∷ []) (sym named))
      (subst (λ (s : Spot). IsAtSpot t entries own s dir) (sym same) at)
  step_in true false None above up named at =
      let same : root_spot ≡ above = cc up in
      own_step true false root_spot refl (ap (λ (n : List ℕ). n ∷ []) (sym named)) (subst (λ (s : Spot). IsAtSpot t entries own s dir) (sym same) at)
  step_in false false None above up named at = absurd (cc up)

  pub step_down : (at above : Spot) → spot_above entries at ≡ Some above → IsNameAt entries own at name → IsAtSpot t entries own above dir → IsAtSpot t entries own at key
  step_down at above up named there =
      let here = step_in at.damaged at.found at.entry above up named there in
      record { path = here.path; spelled = record { rest = here.spelled.rest; old = here.spelled.old; all = here.spelled.all }; leads = here.leads }

-- what a directory has under the name of a place is what is at the path of this place
pub found_in : (image : List ℕ) (saved : Saved) (own : OwnNames) (spot : Spot) (dir : ℕ) (name : List ℕ) (there : AtPath) → HasDirectory image dir
    → ((t : Tree) → Stands image t → (above : Spot) × (spot_above saved.entries spot ≡ Some above) × IsAtSpot t saved.entries own above dir) → IsNameAt saved.entries own spot name
    → IsChildAt image saved spot dir name there → IsFoundAt image saved own spot there
found_in image saved own spot dir name (paths.Object key has_all) directory at named its = record {
  known = its.known;
  there = λ t s. let above = at t s in step_down t saved.entries own name dir key (its.child t s) spot above.0 above.1 named above.2;
  same = its.same;
}
found_in image saved own spot dir name paths.Nothing directory at named none = λ t s.
    let above = at t s in
    record { above = above.0; up = above.1; dir = dir; at_path = above.2; directory = directory t s; name = name; named = named; none = none t s }
found_in image saved own spot dir name paths.NoDirectory directory at named never = absurd never
found_in image saved own spot dir name paths.Unknown directory at named never = absurd never
