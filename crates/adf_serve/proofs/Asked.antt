-- A port's only client puts DISK_INFO, it is served, and the reply is taken: the answer is that for the image's tree.
use Rattle.std.proofs.Common.{◌≡◌, ◌⊎◌, inl, inr, ℕ, zero, suc, false, List, [], ◌∷◌, ◌++◌, ◌+◌, ◌-◌, get_or, length, map, take, slice_get, Some, arith, refl, sym, ap, ◌∙◌, subst}
use Rattle.std.proofs.lemmas.List.{length-append}
use Rattle.std.proofs.lemmas.Option.{same_Some, slice_get-get_or}
use Rattle.std.proofs.Math.Seq.{get_or-append_seam}
use Rattle.ados_name.specs.declared.stamp.Date3.{Date3}
use Rattle.ados_model.specs.DiskDate.{sets_disk_date}
use Rattle.ados_model.specs.Meaning.{Meaning}
use Rattle.ados_model.specs.Session.{Session, opening_session}
use Rattle.ados_handler.specs.HandlerState.{HandlerState}
use Rattle.ados_model.specs.Tree.{Tree}
use Rattle.ados_model.specs.declared.answer.Answer.{Answer}
use Rattle.ados_model.specs.declared.packet.Packet.{Packet}
use Rattle.ados_model.specs.declared.packet.Packet.TheVariants.{DiskInfo}
use Rattle.ados_port.specs.History.{PortHistory, Run, Serving, accepted_in, events_of, last_server, opening_port, packets_by, served_count, take_outcome}
use Rattle.ados_port.specs.declared.step.{Step.TheVariants.Put, Step.TheVariants.Serve, Step.TheVariants.Take}
use Rattle.ados_port.specs.declared.step.{Outcome.Outcome, Outcome.TheVariants.Accepted, Outcome.TheVariants.Idle, Outcome.TheVariants.NoClient, Outcome.TheVariants.Nothing, Outcome.TheVariants.Refused, Outcome.TheVariants.Served, Outcome.TheVariants.Taken}
use Rattle.ados_run.specs.Keeping.{KeepsVolume, ServesBoth}
use Rattle.ados_run.specs.Runs.{BothSides, HandlerPort, PacketOutcomes, PacketSteps, port_beside}
use Rattle.ados_run.specs.TreeLists.{beside, both_died}
use Rattle.adf_serve.specs.Asked.{AnswersDisk, TakesLast}
use Rattle.adf_serve.specs.Script.{first_moment}
use Rattle.adf_serve.specs.Texts.{disk_answer}

-- the steps: the only client puts DISK_INFO, it is served, and the client takes the reply
abbrev pub disk_steps : PacketSteps
disk_steps = Put 1 DiskInfo ∷ Serve first_moment ∷ Take 1 ∷ []

-- the last element of a list
pub last_of : {X : Type 0} (xs : List X) (y : X) → slice_get (xs ++ y ∷ []) (length (xs ++ y ∷ []) - 1) ≡ Some y
last_of xs y =
    let long : length (xs ++ y ∷ []) ≡ length xs + 1 = length-append xs (y ∷ []) in
    let at : length (xs ++ y ∷ []) - 1 ≡ length xs = omega (arith, long) in
    slice_get-get_or (xs ++ y ∷ []) (length (xs ++ y ∷ []) - 1) y (omega (arith, long))
    ∙ ap Some (ap (λ n. get_or (xs ++ y ∷ []) n y) at ∙ get_or-append_seam xs y [] y)

-- the packet that the first of these steps adds to the port, at most
at_most_one : (o1 o2 o3 : Outcome Packet Answer) → (accepted_in (events_of disk_steps (o1 ∷ o2 ∷ o3 ∷ [])) ≡ []) ⊎ (accepted_in (events_of disk_steps (o1 ∷ o2 ∷ o3 ∷ [])) ≡ (1, DiskInfo) ∷ [])
at_most_one (Accepted number) o2 o3 = inr refl
at_most_one (Refused why) o2 o3 = inl refl
at_most_one Served o2 o3 = inl refl
at_most_one Idle o2 o3 = inl refl
at_most_one (Taken reply) o2 o3 = inl refl
at_most_one Nothing o2 o3 = inl refl
at_most_one (NoClient packet) o2 o3 = inl refl

-- a served packet with its client
abbrev of_client : Serving Packet Date3 Answer → ℕ × Packet
of_client s = (s.client, s.packet)

-- the packets served in front of others: none, or this one alone
only_served : (served : List (Serving Packet Date3 Answer)) (queued : List (ℕ × Packet)) → (queued ≡ []) ⊎ (queued ≡ (1, DiskInfo) ∷ [])
    → map of_client served ≡ take (length served) queued
    → (served ≡ []) ⊎ ((s : Serving Packet Date3 Answer) × (served ≡ s ∷ []) × (s.client ≡ 1) × (s.packet ≡ DiskInfo))
only_served [] queued one same = inl refl
only_served (s ∷ more) queued (inl none) same = absurd (cc (same ∙ ap (take (suc (length more))) none))
only_served (s ∷ []) queued (inr one) same =
    let first : of_client s ∷ [] ≡ (1, DiskInfo) ∷ [] = same ∙ ap (take 1) one in
    let only : of_client s ≡ (1, DiskInfo) = cc first in
    inr (s, refl, ap (λ (p : ℕ × Packet). p.0) only, ap (λ (p : ℕ × Packet). p.1) only)
only_served (s ∷ next ∷ more) queued (inr one) same = absurd (cc (same ∙ ap (take (suc (suc (length more)))) one))

-- the replies of client 1 begin with the answer to a packet of its own
first_reply : (client : ℕ) (answer : Answer) (more : List (ℕ × Answer)) → client ≡ 1 → packets_by 1 ((client, answer) ∷ more) ≡ answer ∷ packets_by 1 more
first_reply client answer more one = subst (λ (n : ℕ). packets_by 1 ((n, answer) ∷ more) ≡ answer ∷ packets_by 1 more) (sym one) refl

-- the replies of client 1 to the first `count` of these packets
abbrev replies : ℕ → List (Serving Packet Date3 Answer) → List Answer
replies count served = packets_by 1 (map (λ s. (s.client, s.answer)) (take count served))

-- the answer that an outcome brings, or this one
abbrev answer_of : Answer → Outcome Packet Answer → Answer
answer_of other (Taken reply) = reply.answer
answer_of other _ = other

-- a reply that is taken is the answer to the only served packet
taken_first : (count number : ℕ) (s : Serving Packet Date3 Answer) (answer : Answer) → s.client ≡ 1
    → take_outcome {Q = Packet} 0 (replies count (s ∷ [])) ≡ Taken (record { number = number; answer = answer }) → answer ≡ s.answer
taken_first zero number s answer one same = absurd (cc same)
taken_first (suc count) number s answer one same =
    let more : List (ℕ × Answer) = map (λ (t : Serving Packet Date3 Answer). (t.client, t.answer)) (take count []) in
    ap (answer_of s.answer) (sym same ∙ ap (take_outcome {Q = Packet} 0) (first_reply s.client s.answer more one))

-- a packet that is served alone, with its meaning and the handler after it
module _ (tree : Tree) (opening : HandlerState) (unused : opening.session ≡ opening_session) where
  abbrev served_alone : Serving Packet Date3 Answer → BothSides → Type 0
  served_alone s new = ServesBoth (beside tree opening) s.packet s.moment new s.answer

  -- its answer is that of DISK_INFO
  disk_answered : (s : Serving Packet Date3 Answer) (new : BothSides) → s.packet ≡ DiskInfo → served_alone s new → s.answer ≡ disk_answer tree
  disk_answered s new is given =
      go (subst (λ (z : Packet × Session). Meaning tree z.1 z.0 s.moment new.tree new.handler.session s.answer) (λ i. (is i, unused i)) given.meant.means)
    where
      go : Meaning tree opening_session DiskInfo s.moment new.tree new.handler.session s.answer → s.answer ≡ disk_answer tree
      go (inl served) = λ i. record { action = served.action i; res1 = (served.success i).res1; res2 = served.res2 i; body = (served.success i).body }
      go (inr (makes, refused)) = absurd (cc makes)

  -- no byte of the image changes
  disk_stays : (s : Serving Packet Date3 Answer) (new : BothSides) → s.packet ≡ DiskInfo → served_alone s new → new.handler.image ≡ opening.image
  disk_stays s new is given =
      given.gives.leaves.rest (inr (subst (λ (p : Packet). sets_disk_date given.gives.old_tree opening.session p ≡ false) (sym is) refl))

-- the only server after the only packet
only_server : (first : BothSides) (s : Serving Packet Date3 Answer) (servers : List BothSides) → Run ServesBoth first (s ∷ []) servers
    → (new : BothSides) × (ServesBoth first s.packet s.moment new s.answer) × (last_server first servers ≡ new)
only_server first s [] run = absurd run
only_server first s (new ∷ []) run = (new, run.0, refl)
only_server first s (new ∷ next ∷ more) run = absurd run.1

-- a list as long as the steps
three : (outcomes : PacketOutcomes) → length outcomes ≡ 3 → (o1 : Outcome Packet Answer) × (o2 : Outcome Packet Answer) × (o3 : Outcome Packet Answer) × (outcomes ≡ o1 ∷ o2 ∷ o3 ∷ [])
three [] e = absurd (omega (arith, e))
three (a ∷ []) e = absurd (omega (arith, e))
three (a ∷ b ∷ []) e = absurd (omega (arith, e))
three (a ∷ b ∷ c ∷ []) e = (a, b, c, refl)
three (a ∷ b ∷ c ∷ d ∷ more) e = absurd (omega (arith, e))

from_three : (image : List ℕ) (closing : HandlerPort) (o1 o2 o3 : Outcome Packet Answer) → KeepsVolume image 1 disk_steps (o1 ∷ o2 ∷ o3 ∷ []) closing
    → (answer : Answer) → TakesLast (o1 ∷ o2 ∷ o3 ∷ []) answer → AnswersDisk image answer closing.server.image
from_three image closing o1 o2 o3 k answer (number, last) = go h.served h.servers h.meaning h.closing_server (fits_take h.served refl) (only_served h.served _ (at_most_one o1 o2 o3) h.in_order)
  where
    first : BothSides
    first = beside k.tree k.opening

    h : PortHistory ServesBoth both_died (port_beside k.tree (opening_port k.opening 1)) disk_steps (o1 ∷ o2 ∷ o3 ∷ []) (port_beside k.follows.last_tree closing)
    h = k.follows.history

    count : ℕ
    count = served_count (take 2 (events_of disk_steps (o1 ∷ o2 ∷ o3 ∷ [])))

    fits_take : (served : List (Serving Packet Date3 Answer)) → h.served ≡ served → take_outcome {Q = Packet} 0 (replies count served) ≡ Taken (record { number = number; answer = answer })
    fits_take served same = ap (λ (l : List (Serving Packet Date3 Answer)). take_outcome {Q = Packet} 0 (replies count l)) (sym same) ∙ sym (h.fits 2 _ refl) ∙ same_Some _ _ last

    go : (served : List (Serving Packet Date3 Answer)) (servers : List BothSides) → Run ServesBoth first served servers → beside k.follows.last_tree closing.server ≡ last_server first servers
        → take_outcome {Q = Packet} 0 (replies count served) ≡ Taken (record { number = number; answer = answer })
        → (served ≡ []) ⊎ ((s : Serving Packet Date3 Answer) × (served ≡ s ∷ []) × (s.client ≡ 1) × (s.packet ≡ DiskInfo))
        → AnswersDisk image answer closing.server.image
    go served servers run closed taken (inl none) =
        absurd (nothing_taken count (subst (λ (l : List (Serving Packet Date3 Answer)). take_outcome {Q = Packet} 0 (replies count l) ≡ Taken (record { number = number; answer = answer })) none taken))
      where
        nothing_taken : (n : ℕ) → take_outcome {Q = Packet} 0 (replies n []) ≡ Taken (record { number = number; answer = answer }) → ⊥
        nothing_taken zero same = cc same
        nothing_taken (suc n) same = cc same
    go served servers run closed taken (inr (s, is, one, disk)) =
        let alone : (new : BothSides) × (ServesBoth first s.packet s.moment new s.answer) × (last_server first servers ≡ new) =
        only_server first s servers (subst (λ (l : List (Serving Packet Date3 Answer)). Run ServesBoth first l servers) is run) in
        let same_image : closing.server.image ≡ k.opening.image =
        ap (λ (b : BothSides). b.handler.image) (closed ∙ alone.2) ∙ disk_stays k.tree k.opening k.unused s alone.0 disk alone.1 in
        let answered : answer ≡ s.answer = taken_first count number s answer one (subst (λ (l : List (Serving Packet Date3 Answer)). take_outcome {Q = Packet} 0 (replies count l) ≡ Taken (record { number = number; answer = answer })) is taken) in
        (k.opening.was_validated, k.opening.image, k.tree, k.accepted, k.stands, (same_image, answered ∙ disk_answered k.tree k.opening k.unused s alone.0 disk alone.1))

pub asked_disk : (image : List ℕ) (steps : PacketSteps) (outcomes : PacketOutcomes) (closing : HandlerPort) → steps ≡ disk_steps → KeepsVolume image 1 steps outcomes closing
    → (answer : Answer) → TakesLast outcomes answer → AnswersDisk image answer closing.server.image
asked_disk image steps outcomes closing are k answer last =
    let (o1, o2, o3, is) = three outcomes (k.follows.history.as_long ∙ ap (λ (l : PacketSteps). length l) are) in
    from_three image closing o1 o2 o3 (subst (λ (z : PacketSteps × PacketOutcomes). KeepsVolume image 1 z.0 z.1 closing) (λ i. (are i, is i)) k) answer (subst (λ (l : PacketOutcomes). TakesLast l answer) is last)
