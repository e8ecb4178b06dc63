-- Scripts over the volume of a handler, from the lists of the port's ends.
use Rattle.std.proofs.Common.{◌≡◌, ℕ, zero, suc, ◌+◌, ◌<◌, ◌≤◌, Bool, List, [], ◌∷◌, ◌++◌, length, map, get_or, Some, None, slice_get, arith, refl, sym, ap, ◌∙◌, subst, ⊎_elim}
use Rattle.std.specs.declared.alloc.Global.{Global}
use Rattle.ados_run.proofs.Common.{Vec, length-map, slice_get_within, slice_get_cases, Date3, Tree, Stands, one_tree, ClientLists, Lawful, Serving, Reply, ClientView, HandlerView, AreEnds, CloseMeansDeath, IsNew, Serves, Packet, Answer, HandlerState, HandlerGives, ClientEnding, Spoken, Tells, EachTells, handler_over, both_died, beside, handlers_of, ListsFollowTree, handler_died, KeepsServed, ServesBoth}
use mathlib.Core.List.{map-map}
use Rattle.ados_port.specs.Gathering.{all_lists, lists_of}
use Rattle.ados_port.proofs.Gathers.{get_map}
use Rattle.ados_port.proofs.Replayed.{lists_have_a_history}
use Rattle.ados_run.specs.ServesVolume.{EachSpeaks}
use Rattle.ados_run.proofs.Closed.{spoken_closed}
use Rattle.ados_run.proofs.Following.{handlers_run, lists_follow_trees}
use Rattle.ados_run.proofs.Resting.{dead_handlers_rest}

-- an end with its script, and with its output
abbrev Given : Type 0
Given = ClientView Packet Date3 Answer × List ℕ

abbrev Done : Type 0
Done = ClientView Packet Date3 Answer × (List ℕ × ClientEnding)

abbrev ends_of : List Done → List (ClientView Packet Date3 Answer)
ends_of done = map (λ d. d.0) done

-- each client's end has its lists, and these are all lists
lists_of_end : (ends : List (ClientView Packet Date3 Answer)) (untaken : List (Vec (Reply Answer) Global)) (place : ℕ) (end : ClientView Packet Date3 Answer) → length untaken ≡ length ends → slice_get ends place ≡ Some end
    → (u : Vec (Reply Answer) Global) × (slice_get (all_lists ends untaken) place ≡ Some (lists_of end u))
lists_of_end [] untaken place end long at = cc
lists_of_end (first ∷ ends) [] place end long at = absurd (omega arith)
lists_of_end (first ∷ ends) (u ∷ untaken) zero end long at = (u, ap (λ x. Some (lists_of x u)) (let same : first ≡ end = cc in same))
lists_of_end (first ∷ ends) (u ∷ untaken) (suc place) end long at = lists_of_end ends untaken place end (omega arith) at

as_many_lists : (ends : List (ClientView Packet Date3 Answer)) (untaken : List (Vec (Reply Answer) Global)) → length untaken ≡ length ends → length (all_lists ends untaken) ≡ length ends
as_many_lists [] untaken long = refl
as_many_lists (end ∷ ends) [] long = absurd (omega arith)
as_many_lists (end ∷ ends) (u ∷ untaken) long = ap suc (as_many_lists ends untaken (omega arith))

-- a script was given to an end
given_at : (given : List Given) (place : ℕ) (script : List ℕ) → slice_get (map (λ g. g.1) given) place ≡ Some script → (g : Given) × (slice_get given place ≡ Some g) × (g.1 ≡ script)
given_at given place script at =
    let within : place < length (map (λ (g : Given). g.1) given) = slice_get_within (map (λ (g : Given). g.1) given) place script at in
    let as_long : length (map (λ (g : Given). g.1) given) ≡ length given = length-map given (λ g. g.1) in
    ⊎_elim
    (λ (e : (g : Given) × (place < length given) × (slice_get given place ≡ Some g) × (get_or given place g ≡ g)).
    let there : slice_get (map (λ (g : Given). g.1) given) place ≡ Some e.0.1 = get_map (λ (g : Given). g.1) given place e.0 e.2 in
    (e.0, e.2, (let same : e.0.1 ≡ script = cc in same)))
    (λ (e : (length given ≤ place) × (slice_get given place ≡ None)). let far = e.0 in absurd (omega (arith, within, as_long, far)))
    (slice_get_cases given place).1

each_speaks : (h : HandlerView HandlerState Packet Date3 Answer) (given : List Given) (done : List Done) (untaken : List (Vec (Reply Answer) Global)) (died : Bool)
    → EachTells given done → AreEnds h (ends_of done) → length untaken ≡ length (ends_of done) → CloseMeansDeath (ends_of done) died
    → EachSpeaks (map (λ g. g.1) given) (all_lists (ends_of done) untaken) died (map (λ d. d.1) done)
each_speaks h given done untaken died tells ends long closed =
    let as_many : length done ≡ length (map (λ (g : Given). g.1) given) = tells.0 ∙ sym (length-map given (λ g. g.1)) in (
      as_many_lists (ends_of done) untaken long ∙ (length-map done (λ d. d.0) ∙ as_many),
      length-map done (λ d. d.1) ∙ as_many,
      λ place script at.
          let g = given_at given place script at in
          let d = tells.1 place g.0 g.1 in
          let end_at : slice_get (ends_of done) place ≡ Some d.0.0 = get_map (λ (d : Done). d.0) done place d.0 d.1 in
          let u = lists_of_end (ends_of done) untaken place d.0.0 long end_at in
          let lists : ClientLists Packet Answer = lists_of d.0.0 u.0 in
          let spoken : Spoken d.0.0.number script lists.put lists.taken d.0.0.knows d.0.1.0 d.0.1.1 = subst (λ s. Tells s d.0.0 d.0.1.0 d.0.1.1) g.2 d.3 in (
            lists,
            d.0.1,
            u.1,
            get_map (λ (d : Done). d.1) done place d.0 d.1,
            spoken_closed (place + 1) script lists.put lists.taken d.0.1.0 d.0.1.1 d.0.0.knows died (closed place d.0.0 end_at)
                (subst (λ (n : ℕ). Spoken n script lists.put lists.taken d.0.0.knows d.0.1.0 d.0.1.1) (ends.1 place d.0.0 end_at).2 spoken),
          ),
    )

-- clients with their ends and scripts, and with their output at the end
module _ {C D : Type 0} (end_of : C → ClientView Packet Date3 Answer) (script_of : C → List ℕ) (client_of : D → ClientView Packet Date3 Answer) (told_of : D → List ℕ × ClientEnding) where
  pub keeps_served : (image : List ℕ) (was_validated : Bool) (moment : Date3) (opening : HandlerState) (first last : HandlerView HandlerState Packet Date3 Answer) (served : List (Serving Packet Date3 Answer))
      (clients : List C) (done : List D) (scripts : List (List ℕ)) (ends : List (ClientView Packet Date3 Answer)) (told : List (List ℕ × ClientEnding)) (untaken : List (Vec (Reply Answer) Global)) (unanswered : List (ℕ × Packet)) (closing : HandlerState)
      → (t : Tree) × Stands image t
      → opening ≡ handler_over image was_validated
      → IsNew opening first → Serves HandlerGives moment first served last
      → scripts ≡ map script_of clients → ends ≡ map client_of done → told ≡ map told_of done
      → EachTells (map (λ c. (end_of c, script_of c)) clients) (map (λ d. (client_of d, told_of d)) done) → AreEnds last ends → length untaken ≡ length ends
      → Lawful HandlerGives last.opening (all_lists ends untaken) last.served unanswered closing
      → CloseMeansDeath ends (handler_died closing)
      → KeepsServed image was_validated scripts moment told closing
  keeps_served image was_validated moment opening first last served clients done scripts ends told untaken unanswered closing stood is new serves are_scripts are_ends are_told tells all_ends long lawful closed =
      let start : HandlerState = handler_over image was_validated in
      let opened : last.opening ≡ start = serves.opening ∙ (new.0 ∙ is) in
      let all_served : last.served ≡ served = serves.served_more ∙ ap (λ l. l ++ served) new.2 in
      let given : List Given = map (λ c. (end_of c, script_of c)) clients in
      let dones : List Done = map (λ d. (client_of d, told_of d)) done in
      let scripts_are : map (λ (g : Given). g.1) given ≡ scripts = map-map (λ (g : Given). g.1) (λ c. (end_of c, script_of c)) clients ∙ sym are_scripts in
      let ends_are : ends_of dones ≡ ends = map-map (λ (d : Done). d.0) (λ d. (client_of d, told_of d)) done ∙ sym are_ends in
      let told_are : map (λ (d : Done). d.1) dones ≡ told = map-map (λ (d : Done). d.1) (λ d. (client_of d, told_of d)) done ∙ sym are_told in
      let speaks : EachSpeaks (map (λ (g : Given). g.1) given) (all_lists (ends_of dones) untaken) (handler_died closing) (map (λ (d : Done). d.1) dones) =
      each_speaks last given dones untaken (handler_died closing) tells (subst (λ l. AreEnds last l) (sym ends_are) all_ends) (long ∙ ap (λ (l : List (ClientView Packet Date3 Answer)). length l) (sym ends_are)) (subst (λ l. CloseMeansDeath l (handler_died closing)) (sym ends_are) closed) in
      let follows : ListsFollowTree ServesBoth stood.0 start (all_lists ends untaken) served unanswered closing =
      lists_follow_trees stood.0 start (all_lists ends untaken) served unanswered closing stood.1
      (subst (λ (z : HandlerState × List (Serving Packet Date3 Answer)). Lawful HandlerGives z.0 (all_lists ends untaken) z.1 unanswered closing) (λ i. (opened i, all_served i)) lawful) in
      record {
        tree = stood.0;
        stands = stood.1;
        only = λ other stands. one_tree image other stood.0 stands stood.1;
        clients = all_lists ends untaken;
        served = served;
        unanswered = unanswered;
        speaks = subst (λ (z : List (List ℕ) × (List (ClientView Packet Date3 Answer) × List (List ℕ × ClientEnding))). EachSpeaks z.0 (all_lists z.1.0 untaken) (handler_died closing) z.1.1) (λ i. (scripts_are i, (ends_are i, told_are i))) speaks;
        moments = serves.moments;
        follows = follows;
        history = (lists_have_a_history ServesBoth both_died (beside stood.0 start) (all_lists ends untaken) served unanswered (beside follows.last_tree closing) refl).0 follows.lawful;
        rests = dead_handlers_rest start served (handlers_of follows.lawful.meaning.0) (handlers_run (beside stood.0 start) served follows.lawful.meaning.0 follows.lawful.meaning.1);
      }
