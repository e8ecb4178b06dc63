use Rattle.adf_where.proofs.Common.{◌≡◌, ℕ, ◌≤◌, List, Vec, Global, length, get_or, sym, ap, ◌∙◌, subst, AreAllPlaces, Place}
use Rattle.std.specs.Ordering.{nat_cmp}
use Rattle.std.specs.List.Sorted.{IsBinarySearchResult}
use Rattle.adf_where.proofs.AskedPlaces.{has_list, is_found, places_there}
use Rattle.adf_where.proofs.faulty.AskedBlocks.places.Goals as goal

pub returns-in-Some : goal.returns-in-Some
returns-in-Some c = λ image blocks are named.
    let block = c.args.block in
    let search = subst (λ (asked : List ℕ). IsBinarySearchResult (λ y. nat_cmp y block) asked c.binary_search.result) c.deref.ensures.value c.binary_search.ensures.position in
    let places = c.in-Some.places.now in
    let here : places ≡ get_or c.deref-in-Ok.result.now c.in-Ok.at places = c.in-Some.ensures.lookup.3.1 places in
    let at = here ∙ ap (λ (lists : List (Vec Place Global)). get_or lists c.in-Ok.at places) c.deref-in-Ok.ensures.value in
    subst (λ (them : List Place). AreAllPlaces image block them) (sym c.as_slice.ensures.value)
    (places_there image blocks c.args.self.now block c.binary_search.result search are named c.in-Ok.at places c.in-Ok.is at)

pub returns-in-None : goal.returns-in-None
returns-in-None c = λ image blocks are named.
    let block = c.args.block in
    let search = subst (λ (asked : List ℕ). IsBinarySearchResult (λ y. nat_cmp y block) asked c.binary_search.result) c.deref.ensures.value c.binary_search.ensures.position in
    let over : length c.deref-in-Ok.result.now ≤ c.in-Ok.at = c.in-None.ensures.lookup.3 in
    absurd (has_list image blocks c.args.self.now block c.binary_search.result search are named c.in-Ok.at c.in-Ok.is
    (subst (λ (lists : List (Vec Place Global)). length lists ≤ c.in-Ok.at) c.deref-in-Ok.ensures.value over))

pub returns-in-Err : goal.returns-in-Err
returns-in-Err c = λ image blocks are named.
    let block = c.args.block in
    let search = subst (λ (asked : List ℕ). IsBinarySearchResult (λ y. nat_cmp y block) asked c.binary_search.result) c.deref.ensures.value c.binary_search.ensures.position in
    absurd (is_found image blocks c.args.self.now block c.binary_search.result search are named _ c.in-Err.is)
