-- The objects of path arguments, and their faults.
use Rattle.adf_export.proofs.Common.{◌≡◌, ℕ, ◌+◌, ◌<◌, ◌==◌, inl, inr, false, Bor, List, [], ◌∷◌, ◌++◌, length, get_or, map, take, Option, Some, None, Ok, refl, sym, ap, ap₂, ◌∙◌, subst, arith, chars, Keeps, false≢true, get_or-map, length-map, map-append, take_more, Tree, AreAsked, IsExtractFault, IsFaultOfSome, IsRefusal, IsWordFault, LeadTo, LeadsTo, led, ObjectNotFound, StopsAt}
use Rattle.ados_model.specs.declared.dos_error.DosError.{DosError}
use Rattle.adf_export.specs.declared.fault.OutFault.{OutFault}
use Rattle.adf_export.specs.declared.fault.OutFault.TheVariants.{Host, Letter, Memory, Output, Refused}
use Rattle.adf_export.specs.Printing.{IsPrintFault}

-- the text of an argument
abbrev pub text_of : Bor (List ℕ) → List ℕ
text_of word = word.now

-- a default for an argument that does not exist
abbrev pub no_word : Bor (List ℕ)
no_word = record { ref_ptr = (0, 0); now = [] }

keeps_same : (o : Option (List ℕ)) → Keeps o o
keeps_same None = tt
keeps_same (Some bytes) = refl

module _ (t : Tree) where
  pub asked_some : {X : Type 0} (f : X → List ℕ) (words : List X) (keys : List ℕ) → (length words == 0) ≡ false → LeadTo t (map f words) keys → AreAsked t (map f words) keys
  asked_some f [] keys h lead = absurd (false≢true (sym h))
  asked_some f (word ∷ words) keys h lead = lead

  -- a refusal with the error of the step where the walk stops
  pub refused_word : (word : List ℕ) (error : DosError) (at : ℕ) (fault : OutFault) → IsRefusal error word fault
      → StopsAt t (chars word) ObjectNotFound (record { at = at; error = error }) → IsWordFault t word fault
  refused_word word error at (Refused refused) r stops =
      (r.1, (at, subst (λ (e : DosError). StopsAt t (chars word) ObjectNotFound (record { at = at; error = e })) (sym r.0) stops))
  refused_word word error at (Letter text) r stops = absurd r
  refused_word word error at (Host fault) r stops = absurd r
  refused_word word error at Output r stops = absurd r
  refused_word word error at Memory r stops = tt

  module _ {X : Type 0} (f : X → List ℕ) (words : List X) (i : ℕ) (d : X) (inside : i < length words) where
    -- one more argument leads to its object
    pub lead_more : (keys : List ℕ) (key : ℕ) → LeadTo t (map f (take i words)) keys → LeadsTo t (f (get_or words i d)) key → LeadTo t (map f (take (i + 1) words)) (keys ++ key ∷ [])
    lead_more keys key before here =
        ap (λ (ws : List X). map (led t) (map f ws)) (take_more words i d inside)
        ∙ ap (map (led t)) (map-append f (take i words) (get_or words i d ∷ [])) ∙ map-append (led t) (map f (take i words)) (f (get_or words i d) ∷ [])
        ∙ ap₂ (λ rs ss. rs ++ ss) before (ap (λ r. r ∷ []) here) ∙ sym (map-append Ok keys (key ∷ []))

    -- one argument leads nowhere
    pub some_fault : (fault : OutFault) → IsWordFault t (f (get_or words i d)) fault → IsFaultOfSome t (map f words) fault
    some_fault fault h = inr (i, f (get_or words i d), omega (arith, inside, length-map words f), get_or-map f words i d (f (get_or words i d)) inside, h)

  pub printed_fault : (word : List ℕ) (known : Option (List ℕ)) (fault : OutFault) → IsWordFault t word fault → IsPrintFault t word known known fault
  printed_fault word known (Refused refused) h = (keeps_same known, inl h)
  printed_fault word known (Letter text) h = (keeps_same known, inl h)
  printed_fault word known (Host fault) h = absurd h
  printed_fault word known Output h = absurd h
  printed_fault word known Memory h = (keeps_same known, inl h)

  pub extract_fault : (words : List (List ℕ)) (fault : OutFault) → IsFaultOfSome t words fault → IsExtractFault t words fault
  extract_fault words (Refused refused) h = h
  extract_fault words (Letter text) h = h
  extract_fault words (Host fault) h = tt
  extract_fault words Output h = h
  extract_fault words Memory h = h
