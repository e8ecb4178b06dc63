-- How `serve` ends.
use Rattle.std.proofs.Common.{◌≡◌, ◌≢◌, ℕ, ◌+◌, ◌<◌, inl, inr, Bool, List, [], ◌∷◌, ◌++◌, Option, Result, Ok, Err, All, Any, Vec, Global, flat_map, get_or, drop, take, length, map, true, false, MatchBool, IfErr, IsErrAnd, refl, sym, ap, ◌∙◌, subst, arith}
use Rattle.std.proofs.lemmas.List.{append-nil, append_assoc, drop_more, get_or-map, length-map, take-append-drop}
use Rattle.std.proofs.lemmas.List.Concat.{flat_map-append}
use Rattle.std.proofs.lemmas.List.Elements.{All-map}
use Rattle.std.proofs.KnownBytes.{Appends-trans}
use Rattle.std.specs.Io.KnownBytes.{Appends}
use Rattle.std.proofs.KnownBytes.{Keeps-refl}
use Rattle.adf_io.specs.Prefix.{WritesFront}
use Rattle.ados_run.specs.ServesVolume.{texts_of}
use Rattle.adf_cli.specs.declared.job.ServeJob.{ServeJob}
use Rattle.adf_script.specs.declared.ending.ClientEnding.{ClientEnding}
use Rattle.adf_script.specs.declared.ending.ClientEnding.TheVariants as ending
use Rattle.adf_serve.specs.declared.fault.CommandFault.{CommandFault}
use Rattle.adf_serve.specs.declared.fault.CommandFault.TheVariants.{Dos, Memory, Refused, Script, Tries}
use Rattle.adf_serve.specs.Commands.{Ending}
use Rattle.adf_serve.specs.Faults.{IsNoImage, IsNoRefusal, IsNotServed, IsUnread}
use Rattle.adf_serve.specs.Served.{ClientTexts, DoesServe, EndsBy, IsServed, TellsClients, TellsServe, TellsSomeClients, ending_of, endings, joined, text_of}

-- the texts and the endings of clients at a port
pub joined_texts : (clients : List (Vec ℕ Global × ClientEnding)) → joined (texts_of clients) ≡ flat_map text_of clients
joined_texts [] = refl
joined_texts (client ∷ rest) = ap (λ (l : List ℕ). client.0.items ++ l) (joined_texts rest)

pub ended_texts : (clients : List (Vec ℕ Global × ClientEnding)) → endings (texts_of clients) ≡ map ending_of clients
ended_texts [] = refl
ended_texts (client ∷ rest) = ap (λ (l : List ClientEnding). client.1 ∷ l) (ended_texts rest)

-- of the texts, those before one are written, and then its beginning
module _ (clients : List (Vec ℕ Global × ClientEnding)) (count : ℕ) (d : Vec ℕ Global × ClientEnding) (l : count < length clients) where
  abbrev before : List ℕ
  before = flat_map text_of (take count clients)

  abbrev text : List ℕ
  text = text_of (get_or clients count d)

  text_next : flat_map text_of clients ≡ before ++ (text ++ flat_map text_of (drop (count + 1) clients))
  text_next = sym (ap (flat_map text_of) (take-append-drop count clients)) ∙ flat_map-append text_of (take count clients) (drop count clients)
      ∙ ap (λ (rest : List (Vec ℕ Global × ClientEnding)). before ++ flat_map text_of rest) (drop_more clients count d l)

  pub text_front : (old mid new : Option (List ℕ)) → Appends old mid before → WritesFront mid new text → WritesFront old new (flat_map text_of clients)
  text_front old mid new told (written, front, (rest, is)) = (
    before ++ written,
    Appends-trans old mid new before written told front,
    (
      rest ++ flat_map text_of (drop (count + 1) clients),
      text_next ∙ ap (λ (l : List ℕ). before ++ (l ++ flat_map text_of (drop (count + 1) clients))) is
          ∙ ap (λ (l : List ℕ). before ++ l) (append_assoc written rest (flat_map text_of (drop (count + 1) clients)))
          ∙ sym (append_assoc before written (rest ++ flat_map text_of (drop (count + 1) clients))),
    ),
  )

-- how the command ends, by the clients that ended in each of two ways
pub all_done : (clients : List (Vec ℕ Global × ClientEnding)) → All (λ client. ending_of client ≢ ending.Tries) clients → All (λ client. ending_of client ≢ ending.Script) clients
    → All (λ end. end ≡ ending.Done) (map ending_of clients)
all_done clients tries faulty = All-map (λ (end : ClientEnding). end ≡ ending.Done) ending_of clients (λ k d l. done (ending_of (get_or clients k d)) (tries k d l) (faulty k d l))
  where
    done : (end : ClientEnding) → end ≢ ending.Tries → end ≢ ending.Script → end ≡ ending.Done
    done ending.Done other another = refl
    done ending.Tries other another = absurd (other refl)
    done ending.Script other another = absurd (another refl)

-- some client ended like this
pub some_ended : (clients : List (Vec ℕ Global × ClientEnding)) (how : ClientEnding) → Any (λ client. ending_of client ≡ how) clients → Any (λ end. end ≡ how) (map ending_of clients)
some_ended clients how (k, client, l, at, is) =
    (k, how, omega (arith, l, length-map clients ending_of), get_or-map ending_of clients k client how l ∙ ap ending_of at ∙ is, refl)

-- all texts are written, or a prefix of them
abbrev pub AreWritten : List (Vec ℕ Global × ClientEnding) → Option (List ℕ) → Option (List ℕ) → Bool → Type 0
AreWritten clients old new is_told = MatchBool is_told (Appends old new (flat_map text_of clients)) (WritesFront old new (flat_map text_of clients))

pub none_ended : (clients : List (Vec ℕ Global × ClientEnding)) (how : ClientEnding) → All (λ client. ending_of client ≢ how) clients → All (λ end. end ≢ how) (map ending_of clients)
none_ended clients how none = All-map (λ (end : ClientEnding). end ≢ how) ending_of clients none

-- the fault of a result
pub unread_result : {A : Type 0} (fault : CommandFault) (done : Result A CommandFault) → IsUnread fault → IsErrAnd done (λ told. told ≡ fault) → IfErr done IsUnread
unread_result fault (Ok x) is same = absurd same
unread_result fault (Err told) is same = subst IsUnread (sym same) is

module _ (job : ServeJob) where
  -- it did not begin
  pub serve_unread : (w : Option (List ℕ)) (fault : CommandFault) → IsUnread fault → DoesServe job w w (Err fault)
  serve_unread w Tries is = absurd is
  serve_unread w Script is = absurd is
  serve_unread w (Refused refusal) is = (is, Keeps-refl w)
  serve_unread w (Dos refusal) is = absurd is
  serve_unread w fault is = inl (Keeps-refl w)

  pub not_served : (w : Option (List ℕ)) (fault : CommandFault) → IsNotServed fault → DoesServe job w w (Err fault)
  not_served w fault (inl is) = subst (λ (told : CommandFault). DoesServe job w w (Err told)) (sym is) (inl (Keeps-refl w))
  not_served w fault (inr is) = subst (λ (told : CommandFault). DoesServe job w w (Err told)) (sym is) (inl (Keeps-refl w))

  -- it failed after some of its output
  pub serve_left : (old new : Option (List ℕ)) (fault : CommandFault) → IsNoImage fault → IsNoRefusal fault → TellsSomeClients job old new → DoesServe job old new (Err fault)
  serve_left old new Tries is plain left = absurd is
  serve_left old new Script is plain left = absurd is
  serve_left old new (Refused refusal) is plain left = absurd (cc plain)
  serve_left old new (Dos refusal) is plain left = absurd (cc plain)
  serve_left old new fault is plain left = left

  -- the same of a result
  pub unread_done : (w : Option (List ℕ)) (fault : CommandFault) (done : Ending) → IsUnread fault → IsErrAnd done (λ told. told ≡ fault) → DoesServe job w w done
  unread_done w fault (Ok x) is same = absurd same
  unread_done w fault (Err told) is same = serve_unread w told (subst IsUnread (sym same) is)

  pub left_done : (old new : Option (List ℕ)) (fault : CommandFault) (done : Ending) → IsNoImage fault → IsNoRefusal fault → IsErrAnd done (λ told. told ≡ fault) → TellsSomeClients job old new
      → DoesServe job old new done
  left_done old new fault (Ok x) is plain same left = absurd same
  left_done old new fault (Err told) is plain same left = serve_left old new told (subst IsNoImage (sym same) is) (subst IsNoRefusal (sym same) plain) left

  module _ (old new : Option (List ℕ)) where
    -- all texts are written
    serve_ended : (texts : ClientTexts) (done : Ending) → IsServed job texts → Appends old new (joined texts) → EndsBy (endings texts) done → DoesServe job old new done
    serve_ended texts (Ok x) served told ends = (texts, served, told, ends)
    serve_ended texts (Err Tries) served told ends = (texts, served, told, ends)
    serve_ended texts (Err Script) served told ends = (texts, served, told, ends)
    serve_ended texts (Err fault) served told ends = absurd ends

    some_clients : (done : Ending) → TellsClients job old new done → TellsSomeClients job old new
    some_clients done (texts, served, told, ends) = inr (texts, served, (joined texts, told, ([], sym (append-nil (joined texts)))))

    -- the fault has no text, or no memory for it
    pub serve_failed : (json : Bool) (fault : CommandFault) → DoesServe job old new (Err fault) → IsNoRefusal fault → TellsServe json job old new (Err fault)
    serve_failed json Tries h plain = h
    serve_failed json Script h plain = h
    serve_failed json (Refused refusal) h plain = absurd (cc plain)
    serve_failed json (Dos refusal) h plain = absurd (cc plain)
    serve_failed json fault h plain = inl h

    pub serve_unsaid : (json : Bool) (fault : CommandFault) → DoesServe job old new (Err fault) → TellsServe json job old new (Err Memory)
    serve_unsaid json Tries h = inl (some_clients (Err Tries) h)
    serve_unsaid json Script h = inl (some_clients (Err Script) h)
    serve_unsaid json (Refused refusal) h = inl (inl h.1)
    serve_unsaid json (Dos refusal) h = absurd h
    serve_unsaid json fault h = inl h

    -- by the clients at the port
    module _ (clients : List (Vec ℕ Global × ClientEnding)) (served : IsServed job (texts_of clients)) where
      pub some_told : (is_told : Bool) → AreWritten clients old new is_told → TellsSomeClients job old new
      some_told true told = inr (texts_of clients, served, (flat_map text_of clients, told, ([], joined_texts clients ∙ sym (append-nil (flat_map text_of clients)))))
      some_told false front = inr (texts_of clients, served, subst (WritesFront old new) (sym (joined_texts clients)) front)

      pub all_told : (done : Ending) (is_told : Bool) → is_told ≡ true → AreWritten clients old new is_told → EndsBy (map ending_of clients) done → DoesServe job old new done
      all_told done true is told ends =
          serve_ended (texts_of clients) done served (subst (Appends old new) (sym (joined_texts clients)) told) (subst (λ (l : List ClientEnding). EndsBy l done) (sym (ended_texts clients)) ends)
      all_told done false is told ends = absurd (cc is)
