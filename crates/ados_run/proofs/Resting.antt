-- After a handler's death each packet is refused and nothing changes.
use Rattle.std.proofs.Common.{◌≡◌, ◌≢◌, ℕ, zero, suc, ◌+◌, pos, Bool, true, false, List, [], ◌∷◌, take, drop, slice_get, Some, MatchOption, arith, refl, sym, ap, ◌∙◌, subst, inl}
use Rattle.std.proofs.lemmas.List.Elements.{All-nil, All-cons}
use Rattle.std.proofs.lemmas.Bool.{true≢false}
use Rattle.ados_run.proofs.Common.{All, none-some, same_Some, Date3, Tree, Serving, Run, last_server, Packet, Answer, Session, HandlerState, HandlerGives, handler_after, RestsAfter, handler_died}
use Rattle.ados_model.specs.declared.dos_error.DosError.TheVariants.{DeviceNotMounted}
use Rattle.ados_model.specs.Packet.{refused_answer}
use Rattle.ados_model.specs.Refusals.{first_refusal, refuse, refusals}
use Rattle.ados_model.specs.Meaning.{Meaning, IsRefused, is_closing, is_number}
use Rattle.ados_model.specs.Phrases.{ServedOrNoMemory}
use Rattle.ados_handler.specs.steps.Closes.{serves_closing}
use Rattle.ados_run.specs.Laws.{DeadHandlersRest}

-- a packet was refused because the handler was dead
abbrev IsTooLate : Serving Packet Date3 Answer → Type 0
IsTooLate s = s.answer ≡ refused_answer s.packet DeviceNotMounted

-- after death each packet is refused
dead_refused : (t u : Tree) (s v : Session) (packet : Packet) (now : Date3) (answer : Answer) → s.died ≡ true → Meaning t s packet now u v answer → IsRefused t s packet DeviceNotMounted u v answer
dead_refused t u s v packet now answer dead means = go s.died dead means
  where
    go : (b : Bool) → b ≡ true
        → MatchOption (first_refusal (refuse DeviceNotMounted b ∷ refusals t s packet)) (ServedOrNoMemory t s packet now u v answer) (λ code. IsRefused t s packet code u v answer)
        → IsRefused t s packet DeviceNotMounted u v answer
    go true e refused = refused
    go false e other = absurd (true≢false (sym e))

-- without packets, the handler is the old one
last_of_none : (old : HandlerState) (n : ℕ) → last_server old (take n []) ≡ old
last_of_none old zero = refl
last_of_none old (suc n) = refl

-- the packets of a dead handler: all are too late, and no byte changes
record DeadRun (old : HandlerState) (served : List (Serving Packet Date3 Answer)) (servers : List HandlerState) : Type 0 where
  too_late : All IsTooLate served
  image : (n : ℕ) → (last_server old (take n servers)).image ≡ old.image

image_behind : (old new : HandlerState) (servers : List HandlerState) → new.image ≡ old.image → ((n : ℕ) → (last_server new (take n servers)).image ≡ new.image)
    → (n : ℕ) → (last_server old (take n (new ∷ servers))).image ≡ old.image
image_behind old new servers same later zero = refl
image_behind old new servers same later (suc n) = later n ∙ same

dead_run : (old : HandlerState) (served : List (Serving Packet Date3 Answer)) (servers : List HandlerState) → handler_died old ≡ true → Run HandlerGives old served servers → DeadRun old served servers
dead_run old [] [] dead run = record { too_late = All-nil IsTooLate; image = λ n. ap (λ (s : HandlerState). s.image) (last_of_none old n) }
dead_run old [] (new ∷ servers) dead run = elim run [ ]
dead_run old (s ∷ served) [] dead run = elim run [ ]
dead_run old (s ∷ served) (new ∷ servers) dead run =
    let first : HandlerGives old s.packet s.moment new s.answer = run.0 in
    let refused = dead_refused first.old_tree first.new_tree old.session new.session s.packet s.moment s.answer dead first.means in
    let failed : s.answer.res2 ≢ pos 0 = λ zero_res2. true≢false (ap (is_number 0) (sym zero_res2 ∙ ap (λ (a : Answer). a.res2) refused.answered)) in
    let rest : DeadRun new served servers = dead_run new served servers (ap (λ (v : Session). v.died) refused.session ∙ dead) run.1 in
    record { too_late = All-cons IsTooLate s served refused.answered rest.too_late; image = image_behind old new servers (first.leaves.rest (inl failed)) rest.image }

-- the rest of a run after its first packets
run_from : (old : HandlerState) (served : List (Serving Packet Date3 Answer)) (servers : List HandlerState) → Run HandlerGives old served servers
    → (n : ℕ) → Run HandlerGives (last_server old (take n servers)) (drop n served) (drop n servers)
run_from old [] [] run zero = tt
run_from old [] [] run (suc n) = tt
run_from old [] (new ∷ servers) run n = elim run [ ]
run_from old (s ∷ served) [] run n = elim run [ ]
run_from old (s ∷ served) (new ∷ servers) run zero = run
run_from old (s ∷ served) (new ∷ servers) run (suc n) = run_from new served servers run.1 n

last_from : (old : HandlerState) (servers : List HandlerState) (n m : ℕ) → last_server (last_server old (take n servers)) (take m (drop n servers)) ≡ last_server old (take (n + m) servers)
last_from old servers zero m = let same : m ≡ 0 + m = omega arith in ap (λ k. last_server old (take k servers)) same
last_from old [] (suc n) m = last_of_none old m ∙ sym (last_of_none old (suc n + m))
last_from old (new ∷ servers) (suc n) m =
    let more : suc (n + m) ≡ suc n + m = omega arith in
    last_from new servers n m ∙ ap (λ k. last_server old (take k (new ∷ servers))) more

-- after an answer that closes, the handler is dead
dead_behind : (old : HandlerState) (served : List (Serving Packet Date3 Answer)) (servers : List HandlerState) → Run HandlerGives old served servers
    → (place : ℕ) (s : Serving Packet Date3 Answer) → slice_get served place ≡ Some s → is_closing s.answer ≡ true → handler_died (last_server old (take (suc place) servers)) ≡ true
dead_behind old [] servers run place s at closes = absurd (none-some s at)
dead_behind old (first ∷ served) [] run place s at closes = elim run [ ]
dead_behind old (first ∷ served) (new ∷ servers) run zero s at closes =
    let same : first ≡ s = same_Some first s at in
    serves_closing old new first.packet first.moment first.answer run.0 (ap (λ (x : Serving Packet Date3 Answer). is_closing x.answer) same ∙ closes)
dead_behind old (first ∷ served) (new ∷ servers) run (suc place) s at closes = dead_behind new served servers run.1 place s at closes

pub dead_handlers_rest : DeadHandlersRest
dead_handlers_rest opening served servers run = record {
  dead = rests;
  closing = λ place s at closes.
      let next : suc place ≡ place + 1 = omega arith in
      rests (place + 1) (subst (λ n. handler_died (handler_after opening served servers n) ≡ true) next (dead_behind opening served servers run place s at closes));
}
  where
    rests : (count : ℕ) → handler_died (handler_after opening served servers count) ≡ true → RestsAfter opening served servers count
    rests count dead =
        let behind : DeadRun (handler_after opening served servers count) (drop count served) (drop count servers) =
        dead_run (handler_after opening served servers count) (drop count served) (drop count servers) dead (run_from opening served servers run count) in
        record {
          too_late = behind.too_late;
          image = λ more. ap (λ (s : HandlerState). s.image) (sym (last_from opening servers count more)) ∙ behind.image more;
        }
