-- The items and sources for some entries, then for one more.
use Rattle.adf_export.proofs.Common.{flat_map, ◌≡◌, ℕ, ◌+◌, ◌<◌, Bool, List, [], ◌∷◌, ◌++◌, length, get_or, take, sym, ap, ◌∙◌, subst, append_assoc, flat_map-append, take_more, Tree, HostItem, Below, Source, EachGoesOut, GoesOut, sources_of}
use Rattle.std.proofs.lemmas.List.{append-nil}
use Rattle.adf_export.specs.Items.EachGoesOut.{none, entry}

module _ (t : Tree) (notes : Bool) where
  each_append : (es fs : List Below) (items more : List HostItem) → EachGoesOut t notes es items → EachGoesOut t notes fs more → EachGoesOut t notes (es ++ fs) (items ++ more)
  each_append [] fs [] more none b = b
  each_append [] fs (_ ∷ _) more a b = elim a [ ]
  each_append (e ∷ es) fs _ more (entry items {others = others} g o) b =
      subst (EachGoesOut t notes (e ∷ (es ++ fs))) (sym (append_assoc items others more)) (entry items g (each_append es fs others more o b))

  each_one : (e : Below) (items : List HostItem) → GoesOut t notes e items → EachGoesOut t notes (e ∷ []) items
  each_one e items g = subst (EachGoesOut t notes (e ∷ [])) (append-nil items) (entry items g none)

  pub each_none : EachGoesOut t notes [] []
  each_none = none

module _ (notes : Bool) (found : List Below) (i : ℕ) (e : Below) (inside : i < length found) (is : e ≡ get_or found i e) where
  last : take (i + 1) found ≡ take i found ++ e ∷ []
  last = take_more found i e inside ∙ ap (λ (f : Below). take i found ++ f ∷ []) (sym is)

  -- one more entry
  pub each_more : (t : Tree) (old new more : List HostItem) → EachGoesOut t notes (take i found) old → new ≡ old ++ more → GoesOut t notes e more → EachGoesOut t notes (take (i + 1) found) new
  each_more t old new more a grown g =
      subst (EachGoesOut t notes (take (i + 1) found)) (sym grown)
      (subst (λ (es : List Below). EachGoesOut t notes es (old ++ more)) (sym last) (each_append t notes (take i found) (e ∷ []) old more a (each_one t notes e more g)))

  pub sources_more : (old new : List Source) → old ≡ flat_map (sources_of notes) (take i found) → new ≡ old ++ sources_of notes e → new ≡ flat_map (sources_of notes) (take (i + 1) found)
  sources_more old new a grown =
      grown ∙ ap (λ (xs : List Source). xs ++ sources_of notes e) a
      ∙ sym (ap (flat_map (sources_of notes)) last ∙ flat_map-append (sources_of notes) (take i found) (e ∷ [])
      ∙ ap (λ (xs : List Source). flat_map (sources_of notes) (take i found) ++ xs) (append-nil (sources_of notes e)))
