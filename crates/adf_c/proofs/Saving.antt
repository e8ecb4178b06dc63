-- What a handle or a salvage holds, by what was taken out of it.
use Rattle.std.proofs.Common.{◌≡◌, ◌<◌, ◌≤◌, ℕ, zero, suc, arith, true, false, List, [], ◌∷◌, length, Option, Some, None, Result, Ok, Err, inr, refl, sym, ap, ◌∙◌, subst}
use Rattle.std.specs.Prelude.{MatchResult, is_some}
use Rattle.std.proofs.lemmas.Bool.{false≢true, true≢false}
use Rattle.adf_block.specs.Whole.{IsImage}
use Rattle.ados_model.specs.Stands.{Stands}
use Rattle.ados_model.specs.Tree.{Tree}
use Rattle.ados_salvage.specs.Salvaged.{AreOfTree, Salvages, Saved}
use Rattle.ados_salvage.specs.Saved.{IsAt}
use Rattle.ados_salvage.specs.declared.salvaged.Salvaged.{Salvaged}
use Rattle.adf_c.specs.Buffers.{Refuses}
use Rattle.adf_c.specs.Owners.{MapsOwners}
use Rattle.adf_c.specs.Blocks.{TellsAll}
use Rattle.adf_c.specs.declared.values.blocks.JipTold.{JipTold}
use Rattle.adf_c.specs.declared.values.owners.JipOwner.{JipOwner}
use Rattle.adf_c.specs.declared.values.refusal.Refusal.{Refusal}
use Rattle.adf_c.specs.declared.values.refusal.Refusal.TheVariants.{NotAnImage, NoMemory, WrongArgument}
use Rattle.adf_c.specs.declared.values.salvaged.JipSalvaged.{JipSalvaged}
use Rattle.adf_c.specs.Map.{MapsHeld, RefusesMap}
use Rattle.adf_c.specs.Salvaging.{AtPlace, InSaved, IsNoPlace, IsOpened, IsPast, IsToldAs, Opens, RefusesPlace}
use Rattle.adf_c.specs.Telling.{RefusesBlocks, TellsHeld}
use Rattle.adf_c.specs.declared.desk.Desk.{Desk}

-- the owners are those of the handle's image
pub maps : {A : Type 0} (r : Result A Refusal) (items : A → List JipOwner) (held : Option Desk) (desk : Desk) (image : List ℕ) → held ≡ Some desk → image ≡ desk.handler.image
    → MatchResult r (λ told. MapsOwners image (items told)) (λ refusal. refusal ≡ NoMemory) → MatchResult r (λ told. MapsHeld held (items told)) (RefusesMap held)
maps (Ok told) items held desk image holds is mapped = (desk, holds, subst (λ (i : List ℕ). MapsOwners i (items told)) is mapped)
maps (Err refusal) items held desk image holds is why = subst (RefusesMap held) (sym why) tt

-- the blocks are those of the image of a salvage that C holds
pub tells : {A : Type 0} (r : Result A Refusal) (items : A → List JipTold) (held : Option Saved) (saved lent : Saved) → held ≡ Some saved → lent ≡ saved
    → MatchResult r (λ told. TellsAll lent (items told)) (λ refusal. refusal ≡ NoMemory) → MatchResult r (λ told. TellsHeld held (items told)) (RefusesBlocks held)
tells (Ok told) items held saved lent holds lends fact = (saved, holds, subst (λ (s : Saved). TellsAll s (items told)) lends fact)
tells (Err refusal) items held saved lent holds lends why = subst (RefusesBlocks held) (sym why) tt

-- a salvage is open if it has a value
pub some_is_opened : (held : Option Saved) → is_some held ≡ true → IsOpened held
some_is_opened (Some saved) t = (saved, refl)
some_is_opened None t = absurd (false≢true t)

pub none_is_closed : (held : Option Saved) → is_some held ≡ false → held ≡ None
none_is_closed (Some saved) t = absurd (true≢false t)
none_is_closed None t = refl

-- a salvage is opened on the bytes of an image
pub opens : (bytes image : List ℕ) (old new : Option Saved) (saved made : Saved) → old ≡ None → image ≡ bytes → IsImage image → Salvages image saved → ((t : Tree) → Stands image t → AreOfTree t saved)
    → made ≡ saved → new ≡ Some made → Opens bytes old new
opens bytes image old new saved made closed is whole salvages of_tree boxed put = record {
  closed = closed;
  image = subst IsImage is whole;
  saved = saved;
  holds = put ∙ ap Some boxed;
  salvages = subst (λ (b : List ℕ). Salvages b saved) is salvages;
  tree = λ t stands. of_tree t (subst (λ (b : List ℕ). Stands b t) (sym is) stands);
}

-- a fact about an entry is one of what C holds
pub at_place : {A : Type 0} (r : Result A Refusal) (is : A → Saved → Salvaged → Type 0) (held : Option Saved) (saved lent : Saved) (place : ℕ) → held ≡ Some saved → lent ≡ saved
    → MatchResult r (λ told. InSaved (is told) lent place) (Refuses (length lent.entries ≤ place)) → MatchResult r (λ told. AtPlace (is told) held place) (Refuses (IsNoPlace held place))
at_place (Ok told) is held saved lent place holds lends fact = (saved, holds, subst (λ (s : Saved). InSaved (is told) s place) lends fact)
at_place (Err NotAnImage) is held saved lent place holds lends none = none
at_place (Err NoMemory) is held saved lent place holds lends none = tt
at_place (Err WrongArgument) is held saved lent place holds lends past = inr (saved, holds, subst (λ (s : Saved). length s.entries ≤ place) lends past)

pub told_at : (r : Result JipSalvaged Refusal) (held : Option Saved) (saved lent : Saved) (place : ℕ) → held ≡ Some saved → lent ≡ saved
    → MatchResult r (λ told. InSaved (IsToldAs told) lent place) (IsPast lent place) → MatchResult r (λ told. AtPlace (IsToldAs told) held place) (RefusesPlace held place)
told_at (Ok told) held saved lent place holds lends fact = (saved, holds, subst (λ (s : Saved). InSaved (IsToldAs told) s place) lends fact)
told_at (Err refusal) held saved lent place holds lends past = (past.0, inr (saved, holds, subst (λ (s : Saved). length s.entries ≤ place) lends past.1))

-- there is an entry at each position of the list
pub an_entry : (entries : List Salvaged) (place : ℕ) → place < length entries → (entry : Salvaged) × IsAt entries place entry
an_entry [] place within = absurd (omega (arith, within))
an_entry (entry ∷ rest) zero within = (entry, refl)
an_entry (entry ∷ rest) (suc place) within = let less : suc place < suc (length rest) = within in an_entry rest place (omega (arith, less))
