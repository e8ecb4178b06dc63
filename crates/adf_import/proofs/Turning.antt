-- Arguments that are done in turn, and where they end.
use Rattle.std.proofs.Common.{◌≡◌, Bor, ℕ, ◌+◌, ◌<◌, Result, Ok, Err, List, [], ◌∷◌, ◌++◌, length, get_or, map, take, drop, Contains, refl, sym, ap, ◌∙◌, subst, arith}
use Rattle.adf_import.proofs.Common.{chars, Contains-get_or, DosError, HasTree, Shown, InFault, AreDone, AtWord, EndsAt, EndsInTurn, ReadsFirst}
use Rattle.std.proofs.lemmas.List.{drop_more, get_or-map, length-map, map-append, take-append-drop, take_more}
use Rattle.adf_cli.specs.declared.refused.Refused.{Refused as Told}
use Rattle.adf_import.specs.declared.fault.InFault.TheVariants.{Letter, Memory, Refused}
use Rattle.adf_import.specs.Turns.AreDone.{one_more}
use Rattle.adf_import.specs.Words.{IsForeign, IsLetterFault, IsLetterFaultIn, IsRefusal}

-- the text of an argument, and a default for an argument that does not exist
abbrev pub text_of : Bor (List ℕ) → List ℕ
text_of word = word.now

abbrev pub no_text : Bor (List ℕ)
no_text = record { ref_ptr = (0, 0); now = [] }

-- an argument is among the arguments
pub among_words : {X : Type 0} (f : X → List ℕ) (words : List X) (i : ℕ) (d : X) → i < length words → Contains (map f words) (f (get_or words i d))
among_words f words i d inside =
    subst (Contains (map f words)) (get_or-map f words i d [] inside) (Contains-get_or (map f words) i [] (omega (arith, inside, length-map words f)))

module _ (Does : List ℕ → Shown → Shown → Result Unit DosError → Type 0) {X : Type 0} (f : X → List ℕ) (words : List X) (i : ℕ) (x : X) (inside : i < length words) (is : x ≡ get_or words i x)
    (old between new : Shown) where
  in_front : map f (take (i + 1) words) ≡ map f (take i words) ++ f x ∷ []
  in_front =
      ap (map f) (take_more words i x inside) ∙ map-append f (take i words) (get_or words i x ∷ [])
      ∙ ap (λ (y : X). map f (take i words) ++ f y ∷ []) (sym is)

  all_words : map f words ≡ map f (take i words) ++ f x ∷ map f (drop (i + 1) words)
  all_words =
      ap (map f) (sym (take-append-drop i words) ∙ ap (λ (ws : List X). take i words ++ ws) (drop_more words i x inside))
      ∙ map-append f (take i words) (get_or words i x ∷ drop (i + 1) words) ∙ ap (λ (y : X). map f (take i words) ++ f y ∷ map f (drop (i + 1) words)) (sym is)

  -- one more argument is done
  pub done_more : AreDone (AtWord Does) (map f (take i words)) old between → Does (chars (f x)) between new (Ok tt) → HasTree new.image → AreDone (AtWord Does) (map f (take (i + 1) words)) old new
  done_more first here has = subst (λ (ws : List (List ℕ)). AreDone (AtWord Does) ws old new) (sym in_front) (one_more (map f (take i words)) (f x) first here has)

  -- it ends at an argument
  pub ends_here : (fault : InFault) → AreDone (AtWord Does) (map f (take i words)) old between → EndsAt (Does (chars (f x))) (f x) between new (Err fault)
      → EndsInTurn Does (map f words) old new (Err fault)
  ends_here (Refused told) first h = record {
    before = map f (take i words);
    word = f x;
    behind = map f (drop (i + 1) words);
    all = all_words;
    between = between;
    done = first;
    refused = h.0;
    path = h.1;
  }
  ends_here Memory first h = tt
  ends_here fault first h = absurd h

-- a refusal is an error with its argument, or memory ran out
pub told_apart : (P : InFault → Type 0) (error : DosError) (word : List ℕ) (fault : InFault) → IsRefusal error word fault → ((told : Told) → IsRefusal error word (Refused told) → P (Refused told)) → P Memory → P fault
told_apart P error word (Refused told) is refused memory = refused told is
told_apart P error word Memory is refused memory = memory
told_apart P error word fault is refused memory = absurd is

-- one of the arguments has a letter past U+00FF
pub foreign_in : (words : List (List ℕ)) (word : List ℕ) (fault : InFault) → Contains words word → IsLetterFault word fault → IsLetterFaultIn words fault
foreign_in words word (Letter text) among is = (subst (Contains words) (sym is.0) among, subst IsForeign (sym is.0) is.1)
foreign_in words word Memory among is = tt
foreign_in words word fault among is = absurd is

-- then nothing changes
pub not_read : (words : List (List ℕ)) (Ends : Shown → Shown → Result Unit InFault → Type 0) (volume : Shown) (fault : InFault) → Ends volume volume (Err Memory)
    → IsLetterFaultIn words fault → ReadsFirst words Ends volume volume (Err fault)
not_read words Ends volume (Letter text) ends is = (refl, is.0, is.1)
not_read words Ends volume Memory ends is = ends
not_read words Ends volume fault ends is = absurd is

-- after the arguments are read, it ends like this
pub was_read : (words : List (List ℕ)) (Ends : Shown → Shown → Result Unit InFault → Type 0) (old new : Shown) (r : Result Unit InFault)
    → ((text : _) → Ends old new (Err (Letter text)) → ⊥) → Ends old new r → ReadsFirst words Ends old new r
was_read words Ends old new (Err (Letter text)) without h = absurd (without text h)
was_read words Ends old new r without h = h

-- the change of one argument is none of them
pub read_at : (words : List (List ℕ)) (Does : Shown → Shown → Result Unit DosError → Type 0) (word : List ℕ) (old new : Shown) (r : Result Unit InFault)
    → EndsAt Does word old new r → ReadsFirst words (EndsAt Does word) old new r
read_at words Does word old new r h = was_read words (EndsAt Does word) old new r (λ text h. h) h

-- arguments, one by one
pub first_word : (a b : List ℕ) → Contains (a ∷ b ∷ []) a
first_word a b = Contains-get_or (a ∷ b ∷ []) 0 [] (omega arith)

pub second_word : (a b : List ℕ) → Contains (a ∷ b ∷ []) b
second_word a b = Contains-get_or (a ∷ b ∷ []) 1 [] (omega arith)

pub only_word : (a : List ℕ) → Contains (a ∷ []) a
only_word a = Contains-get_or (a ∷ []) 0 [] (omega arith)

-- a fact about two texts is a fact about equal ones
pub both_texts : (P : List ℕ → List ℕ → Type 0) (a b x y : List ℕ) → a ≡ x → b ≡ y → P a b → P x y
both_texts P a b x y e f h = subst (λ (v : List ℕ). P x v) f (subst (λ (u : List ℕ). P u b) e h)
