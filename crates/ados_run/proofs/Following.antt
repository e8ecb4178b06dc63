-- A history of a handler's port is one of its tree, side by side.
use Rattle.std.proofs.Common.{◌≡◌, ℕ, Bool, List, [], ◌∷◌, map, take, refl, sym, ap, ◌∙◌, subst}
use Rattle.ados_run.proofs.Common.{take-map, Date3, Tree, Stands, one_tree, PortState, Event, PortHistory, Serving, Run, last_server, events_of, served_count, OutcomeFits, served_by, Lawful, Step, Outcome, Packet, Answer, HandlerState, HandlerGives, BothSides, port_beside, both_died, handlers_of, beside, handler_died, ServesBoth}
use Rattle.ados_model.specs.Meaning.{Meaning}
use Rattle.ados_run.specs.TreePort.{TreeState, means, tree_died, with_tree}
use Rattle.ados_run.specs.Laws.{EachSideIsAHistory, EachSideIsLawful, HistoriesFollowTrees, ListsFollowTrees}

-- servers, each seen as another
module _ {S T : Type 0} (f : S → T) where
  last_server-map : (opening : S) (servers : List S) → f (last_server opening servers) ≡ last_server (f opening) (map f servers)
  last_server-map opening [] = refl
  last_server-map opening (server ∷ servers) = last_server-map server servers

  last_server-take : (opening : S) (servers : List S) (n : ℕ) → last_server (f opening) (take n (map f servers)) ≡ f (last_server opening (take n servers))
  last_server-take opening servers n = ap (last_server (f opening)) (take-map f n servers) ∙ sym (last_server-map opening (take n servers))

  module _ {Q M A : Type 0} (gives : S → Q → M → S → A → Type 0) (also : T → Q → M → T → A → Type 0)
      (seen : (old new : S) (packet : Q) (moment : M) (answer : A) → gives old packet moment new answer → also (f old) packet moment (f new) answer) where
    run-map : (opening : S) (served : List (Serving Q M A)) (servers : List S) → Run gives opening served servers → Run also (f opening) served (map f servers)
    run-map opening [] [] run = tt
    run-map opening [] (new ∷ servers) run = elim run [ ]
    run-map opening (s ∷ served) [] run = elim run [ ]
    run-map opening (s ∷ served) (new ∷ servers) run = (seen opening new s.packet s.moment s.answer run.0, run-map new served servers run.1)

-- a history in which other servers replace its own, and die when they do
module _ {S T Q M A : Type 0} (gives : S → Q → M → S → A → Type 0) (has_died : S → Bool) (also : T → Q → M → T → A → Type 0) (also_died : T → Bool)
    (opening : PortState S Q A) (steps : List (Step Q M)) (outcomes : List (Outcome Q A)) (closing : PortState S Q A) (h : PortHistory gives has_died opening steps outcomes closing) where
  abbrev with_server : T → PortState S Q A → PortState T Q A
  with_server server port = record { server = server; clients = port.clients; waiting = port.waiting }

  other_servers : (first last : T) (servers : List T) → Run also first h.served servers → last ≡ last_server first servers
      → ((n : ℕ) → also_died (last_server first (take n servers)) ≡ has_died (last_server opening.server (take n h.servers)))
      → PortHistory also also_died (with_server first opening) steps outcomes (with_server last closing)
  other_servers first last servers run is_last dies = record {
    served = h.served;
    servers = servers;
    meaning = run;
    in_order = h.in_order;
    moments = h.moments;
    as_long = h.as_long;
    fits = λ i e at_i.
        let before : List (Event Q M A) = take i (events_of steps outcomes) in
        subst (λ (died : Bool). OutcomeFits (with_server first opening) (served_by before h.served) died before e.step e.outcome)
        (sym (dies (served_count before))) (h.fits i e at_i);
    closing_server = is_last;
    closing_waiting = h.closing_waiting;
    closing_clients = h.closing_clients;
  }

-- a handler of both, and a tree
abbrev handler_side : BothSides → HandlerState
handler_side both = both.handler

abbrev tree_side : BothSides → TreeState
tree_side both = with_tree both.tree both.handler

-- the trees next to a run of a handler with this tree
record BothRun (old : HandlerState) (t : Tree) (served : List (Serving Packet Date3 Answer)) (servers : List HandlerState) : Type 0 where
  states : List BothSides
  run : Run ServesBoth (beside t old) served states
  handlers : handlers_of states ≡ servers
  stands : Stands (last_server old servers).image (last_server (beside t old) states).tree

both_run : (old : HandlerState) (t : Tree) → Stands old.image t → (served : List (Serving Packet Date3 Answer)) (servers : List HandlerState)
    → Run HandlerGives old served servers → BothRun old t served servers
both_run old t stood [] [] run = record { states = []; run = tt; handlers = refl; stands = stood }
both_run old t stood [] (new ∷ servers) run = elim run [ ]
both_run old t stood (s ∷ served) [] run = elim run [ ]
both_run old t stood (s ∷ served) (new ∷ servers) run =
    let first : HandlerGives old s.packet s.moment new s.answer = run.0 in
    let rest : BothRun new first.new_tree served servers = both_run new first.new_tree first.stands served servers run.1 in
    let meant : Meaning t old.session s.packet s.moment first.new_tree new.session s.answer =
    subst (λ (u : Tree). Meaning u old.session s.packet s.moment first.new_tree new.session s.answer) (one_tree old.image first.old_tree t first.stood stood) first.means in
    let served_first : ServesBoth (beside t old) s.packet s.moment (beside first.new_tree new) s.answer = record { gives = first; meant = record { means = meant; stands = first.stands } } in
    record {
      states = beside first.new_tree new ∷ rest.states;
      run = (served_first, rest.run);
      handlers = ap (λ l. new ∷ l) rest.handlers;
      stands = rest.stands;
    }

-- the last of both is the last handler with its tree
last_beside : (old : HandlerState) (t : Tree) (served : List (Serving Packet Date3 Answer)) (servers : List HandlerState) (both : BothRun old t served servers)
    → beside (last_server (beside t old) both.states).tree (last_server old servers) ≡ last_server (beside t old) both.states
last_beside old t served servers both =
    let last : BothSides = last_server (beside t old) both.states in
    let same : last_server old servers ≡ last.handler = ap (last_server old) (sym both.handlers) ∙ sym (last_server-map handler_side (beside t old) both.states) in
    λ i. record { tree = last.tree; handler = same i }

pub histories_follow_trees : HistoriesFollowTrees
histories_follow_trees t opening steps outcomes closing stood h =
    let both : BothRun opening.server t h.served h.servers = both_run opening.server t stood h.served h.servers h.meaning in
    let first : BothSides = beside t opening.server in
    let last : Tree = (last_server first both.states).tree in
    record {
      last_tree = last;
      history = other_servers HandlerGives handler_died ServesBoth both_died opening steps outcomes closing h first (beside last closing.server) both.states both.run
          (ap (beside last) h.closing_server ∙ last_beside opening.server t h.served h.servers both)
          (λ n. ap handler_died (sym (last_server-take handler_side first both.states n) ∙ ap (λ l. last_server opening.server (take n l)) both.handlers));
      stands = subst (λ (s : HandlerState). Stands s.image last) (sym h.closing_server) both.stands;
    }

pub lists_follow_trees : ListsFollowTrees
lists_follow_trees t opening clients served unanswered closing stood h =
    let both : BothRun opening t served h.meaning.0 = both_run opening t stood served h.meaning.0 h.meaning.1 in
    let last : Tree = (last_server (beside t opening) both.states).tree in
    record {
      last_tree = last;
      lawful = record {
        meaning = (both.states, both.run, sym (last_beside opening t served h.meaning.0 both) ∙ ap (beside last) h.meaning.2);
        each_put = h.each_put;
        each_reply = h.each_reply;
        known = h.known;
      };
      stands = subst (λ (s : HandlerState). Stands s.image last) h.meaning.2 both.stands;
    }

-- a packet served side by side is served on each side
abbrev on_tree : (old new : BothSides) (packet : Packet) (moment : Date3) (answer : Answer) → ServesBoth old packet moment new answer → means (tree_side old) packet moment (tree_side new) answer
on_tree old new packet moment answer given = given.meant.means

abbrev on_handler : (old new : BothSides) (packet : Packet) (moment : Date3) (answer : Answer) → ServesBoth old packet moment new answer → HandlerGives old.handler packet moment new.handler answer
on_handler old new packet moment answer given = given.gives

pub handlers_run : (opening : BothSides) (served : List (Serving Packet Date3 Answer)) (states : List BothSides) → Run ServesBoth opening served states → Run HandlerGives opening.handler served (handlers_of states)
handlers_run opening served states run = run-map handler_side ServesBoth HandlerGives on_handler opening served states run

pub each_side_is_a_history : EachSideIsAHistory
each_side_is_a_history t opening steps outcomes closing follows =
    let h : PortHistory ServesBoth both_died (port_beside t opening) steps outcomes (port_beside follows.last_tree closing) = follows.history in
    let first : BothSides = beside t opening.server in (
      other_servers ServesBoth both_died means tree_died (port_beside t opening) steps outcomes (port_beside follows.last_tree closing) h
          (tree_side first) (with_tree follows.last_tree closing.server) (map tree_side h.servers)
          (run-map tree_side ServesBoth means on_tree first h.served h.servers h.meaning)
          (ap tree_side h.closing_server ∙ last_server-map tree_side first h.servers)
          (λ n. ap tree_died (last_server-take tree_side first h.servers n)),
      other_servers ServesBoth both_died HandlerGives handler_died (port_beside t opening) steps outcomes (port_beside follows.last_tree closing) h
          opening.server closing.server (handlers_of h.servers)
          (handlers_run first h.served h.servers h.meaning)
          (ap handler_side h.closing_server ∙ last_server-map handler_side first h.servers)
          (λ n. ap handler_died (last_server-take handler_side first h.servers n)),
    )

pub each_side_is_lawful : EachSideIsLawful
each_side_is_lawful t opening clients served unanswered closing follows =
    let h : Lawful ServesBoth (beside t opening) clients served unanswered (beside follows.last_tree closing) = follows.lawful in
    let first : BothSides = beside t opening in (
      record {
        meaning = (map tree_side h.meaning.0, run-map tree_side ServesBoth means on_tree first served h.meaning.0 h.meaning.1, sym (last_server-map tree_side first h.meaning.0) ∙ ap tree_side h.meaning.2);
        each_put = h.each_put;
        each_reply = h.each_reply;
        known = h.known;
      },
      record {
        meaning = (handlers_of h.meaning.0, handlers_run first served h.meaning.0 h.meaning.1, sym (last_server-map handler_side first h.meaning.0) ∙ ap handler_side h.meaning.2);
        each_put = h.each_put;
        each_reply = h.each_reply;
        known = h.known;
      },
    )
