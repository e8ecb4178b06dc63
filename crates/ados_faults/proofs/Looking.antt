-- The rules that a block breaks in each role, noted one by one.
use Rattle.ados_faults.proofs.Common.{All, ◌≡◌, ℕ, ◌+◌, List, Bool, Some, arith, slice_get, kind_of, NoLink, OwnKey, Parent, Name, Chain, Comment, PointerCount, FirstData, BadSum, BadType, MarkedFree, Role, Data, IsOfs, Step, AreLookedAt, AreWrongsNoted, IsFieldNoted, IsLookedAt, AreStillNoted, cell_of, FieldRule, FIELD_RULES, POINTER_RULES}
use Rattle.ados_faults.proofs.Firsts.{one_more}

-- each rule is in one of the two lists
module _ (image : List ℕ) (cells : List Bool) (block : ℕ) (role : Role) where
  abbrev Noted : FieldRule → Type 0
  Noted rule = IsFieldNoted image cells block role rule

  pub fields_noted : All Noted FIELD_RULES → All Noted POINTER_RULES → (rule : FieldRule) → Noted rule
  fields_noted fields pointers NoLink = fields 0 NoLink (omega arith)
  fields_noted fields pointers OwnKey = fields 1 NoLink (omega arith)
  fields_noted fields pointers Parent = fields 2 NoLink (omega arith)
  fields_noted fields pointers Name = fields 3 NoLink (omega arith)
  fields_noted fields pointers Chain = fields 4 NoLink (omega arith)
  fields_noted fields pointers Comment = fields 5 NoLink (omega arith)
  fields_noted fields pointers PointerCount = pointers 0 NoLink (omega arith)
  fields_noted fields pointers FirstData = pointers 1 NoLink (omega arith)

-- data blocks without a checksum and fields break no rule
pub bare_noted : (image : List ℕ) (cells : List Bool) (block file : ℕ) → ¬ IsOfs image → AreWrongsNoted image cells block (Data file)
bare_noted image cells block file other = record { sum = λ h. absurd (other h.0); types = λ h. absurd (other h.0); fields = none }
  where
    none : (rule : FieldRule) → IsFieldNoted image cells block (Data file) rule
    none Parent h = absurd (other h.0)
    none _ h = absurd h

-- what stays noted
pub looked_on : (image : List ℕ) (cells later : List Bool) (step : Step) → AreStillNoted cells later → IsLookedAt image cells step → IsLookedAt image later step
looked_on image cells later step on l = record {
  wrongs = record {
    sum = λ h. on.stay (cell_of BadSum step.block) (l.wrongs.sum h);
    types = λ h. on.stay (cell_of BadType step.block) (l.wrongs.types h);
    fields = λ rule h. on.stay (cell_of (kind_of rule) step.block) (l.wrongs.fields rule h);
  };
  free = λ h. on.stay (cell_of MarkedFree step.block) (l.free h);
}

pub looked_none : (image : List ℕ) (cells : List Bool) (steps : List Step) → AreLookedAt image cells steps 0
looked_none image cells steps = record { looked = λ k step l e. absurd (omega (arith, l)) }

pub looked_more : (image : List ℕ) (cells later : List Bool) (steps : List Step) (n : ℕ) (step : Step) → slice_get steps n ≡ Some step → AreLookedAt image cells steps n → AreStillNoted cells later → IsLookedAt image later step
    → AreLookedAt image later steps (n + 1)
looked_more image cells later steps n step at before on this = record { looked = one_more steps (IsLookedAt image cells) (IsLookedAt image later) n step at (λ other. looked_on image cells later other on) this before.looked }
