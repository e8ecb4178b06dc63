-- What remains of a port when all its ends are held at once.
use Rattle.std.specs.Prelude.{◌≡◌, List, [], ◌∷◌, ◌++◌, map, Option, Some, None, Vec}
use Rattle.std.specs.declared.alloc.Global.{Global}
use Rattle.ados_port.specs.declared.step.Reply.{Reply}
use Rattle.ados_port.specs.Lawful.{ClientLists, numbered}
use Rattle.ados_port.specs.Ends.{ClientView}

-- after the old takes, one take found each of these packets, in their order, and then one found nothing
abbrev pub TakesRest : {X : Type 0} → List (Option X) → List X → List (Option X) → Type 0
TakesRest old packets new = new ≡ old ++ (map Some packets ++ None ∷ [])

module _ {M A : Type 0} where
  -- the answers in these replies
  abbrev pub answers : List (M × A) → List A
  answers replies = map (λ r. r.1) replies

module _ {Q M A : Type 0} where
  -- the lists of a client's end, with its untaken replies
  abbrev pub lists_of : ClientView Q M A → Vec (Reply A) Global → ClientLists Q A
  lists_of c untaken = record { put = c.put; taken = numbered 1 (answers c.taken); untaken = untaken.items }

  -- the lists of all clients' ends
  abbrev pub all_lists : List (ClientView Q M A) → List (Vec (Reply A) Global) → List (ClientLists Q A)
  all_lists [] untaken = []
  all_lists (c ∷ cs) [] = []
  all_lists (c ∷ cs) (u ∷ us) = lists_of c u ∷ all_lists cs us
