-- A packet served in one way was served in each way that follows from it, by the same servers.
use Rattle.std.proofs.Common.{ℕ, Bool, List, [], ◌∷◌, length}
use Rattle.ados_run.proofs.Common.{Date3, PortState, opening_port, PortHistory, Serving, ServerMeaning, Run, Step, Outcome, ClientLists, Lawful, Packet, Answer, HandlerState, ClientEnding, HandlerPort, PacketOutcomes, PacketSteps, BothSides, MeansBoth, handler_over, port_beside, RunsVolume, RunsWith, both_died, beside, ServesBoth}
use Rattle.ados_run.specs.ServesVolume.{ServesVolume, ServesWith}

module _ {S Q M A : Type 0} (gives also : ServerMeaning S Q M A)
    (weaker : (old : S) (packet : Q) (moment : M) (new : S) (answer : A) → gives old packet moment new answer → also old packet moment new answer) where
  weaker_run : (opening : S) (served : List (Serving Q M A)) (servers : List S) → Run gives opening served servers → Run also opening served servers
  weaker_run opening [] [] run = tt
  weaker_run opening [] (new ∷ servers) run = elim run [ ]
  weaker_run opening (s ∷ served) [] run = elim run [ ]
  weaker_run opening (s ∷ served) (new ∷ servers) run = (weaker opening s.packet s.moment new s.answer run.0, weaker_run new served servers run.1)

  abbrev weaker_history : (has_died : S → Bool) (opening : PortState S Q A) (steps : List (Step Q M)) (outcomes : List (Outcome Q A)) (closing : PortState S Q A)
      → PortHistory gives has_died opening steps outcomes closing → PortHistory also has_died opening steps outcomes closing
  weaker_history has_died opening steps outcomes closing h = record {
    served = h.served;
    servers = h.servers;
    meaning = weaker_run opening.server h.served h.servers h.meaning;
    in_order = h.in_order;
    moments = h.moments;
    as_long = h.as_long;
    fits = h.fits;
    closing_server = h.closing_server;
    closing_waiting = h.closing_waiting;
    closing_clients = h.closing_clients;
  }

  abbrev weaker_lists : (opening : S) (clients : List (ClientLists Q A)) (served : List (Serving Q M A)) (unanswered : List (ℕ × Q)) (closing : S)
      → Lawful gives opening clients served unanswered closing → Lawful also opening clients served unanswered closing
  weaker_lists opening clients served unanswered closing l = record {
    meaning = (l.meaning.0, weaker_run opening served l.meaning.0 l.meaning.1, l.meaning.2);
    each_put = l.each_put;
    each_reply = l.each_reply;
    known = l.known;
  }

meant : (old : BothSides) (packet : Packet) (moment : Date3) (new : BothSides) (answer : Answer) → ServesBoth old packet moment new answer → MeansBoth old packet moment new answer
meant old packet moment new answer given = given.meant

-- a run that keeps everything else and follows the meaning follows the meaning
pub meant_run : (image : List ℕ) (clients : ℕ) (steps : PacketSteps) (outcomes : PacketOutcomes) (closing : HandlerPort)
    → RunsWith ServesBoth image clients steps outcomes closing → RunsVolume image clients steps outcomes closing
meant_run image clients steps outcomes closing r = record {
  opening = r.opening;
  accepted = r.accepted;
  bytes = r.bytes;
  unused = r.unused;
  tree = r.tree;
  stands = r.stands;
  only = r.only;
  follows = record {
    last_tree = r.follows.last_tree;
    history = weaker_history ServesBoth MeansBoth meant both_died (port_beside r.tree (opening_port r.opening clients)) steps outcomes (port_beside r.follows.last_tree closing) r.follows.history;
    stands = r.follows.stands;
  };
  closed = r.closed;
  rests = r.rests;
}

-- the same for clients' scripts
pub meant_scripts : (image : List ℕ) (was_validated : Bool) (scripts : List (List ℕ)) (moment : Date3) (told : List (List ℕ × ClientEnding)) (closing : HandlerState)
    → ServesWith ServesBoth image was_validated scripts moment told closing → ServesVolume image was_validated scripts moment told closing
meant_scripts image was_validated scripts moment told closing r =
    let opening : HandlerState = handler_over image was_validated in
    record {
      tree = r.tree;
      stands = r.stands;
      only = r.only;
      clients = r.clients;
      served = r.served;
      unanswered = r.unanswered;
      speaks = r.speaks;
      moments = r.moments;
      follows = record {
        last_tree = r.follows.last_tree;
        lawful = weaker_lists ServesBoth MeansBoth meant (beside r.tree opening) r.clients r.served r.unanswered (beside r.follows.last_tree closing) r.follows.lawful;
        stands = r.follows.stands;
      };
      history = record {
        steps = r.history.steps;
        outcomes = r.history.outcomes;
        last = r.history.last;
        history = weaker_history ServesBoth MeansBoth meant both_died (opening_port (beside r.tree opening) (length r.clients)) r.history.steps r.history.outcomes r.history.last r.history.history;
        lists = r.history.lists;
        all_served = r.history.all_served;
        all_waiting = r.history.all_waiting;
        last_server = r.history.last_server;
      };
      rests = r.rests;
    }
