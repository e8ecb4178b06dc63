use Rattle.std.proofs.Common.{◌≡◌, ℕ, ◌+◌, ◌<◌, ◌≤◌, Bool, ◌||◌, List, [], ◌∷◌, ◌++◌, length, get_or, take, Option, refl, ap, sym, subst, ◌∙◌, arith}
use Rattle.std.specs.Io.KnownBytes.{Appends}
use Rattle.std.proofs.lemmas.List.{length-take, take_all, take_more}
use Rattle.std.proofs.lemmas.List.Folds.{list_any_more}
use Rattle.adf_io.specs.Prefix.{WritesFront, WritesFrontOf}
use Rattle.ados_salvage.specs.declared.salvaged.Salvaged.{Salvaged}
use Rattle.adf_rescue.specs.declared.damaged.Rescue.{Rescue}
use Rattle.adf_rescue.specs.Rescue.{AreSomeRescued, IsTold}
use Rattle.adf_rescue.specs.RescueObject.{is_told}
use Rattle.adf_rescue.specs.steps.Reporting.{AreParts, IsPart, front_of, rest_of}
use Rattle.adf_io.proofs.Outcomes.{at_any_err}
use Rattle.adf_io.proofs.Telling.{IsBegun, begun_with, told_all, told_front, told_more, told_part, told_passed}
use Rattle.adf_rescue.proofs.TellingObjects.{are_told, no_parts, parts_more, parts_told, parts_whole, told_of}
use Rattle.adf_rescue.proofs.damaged.Rescue.tell.Goals as goal

module _ (json : Bool) (rescue : Rescue) (place : ℕ) (old mid : Option (List ℕ)) (waiting : List ℕ) (so_far : IsBegun (AreParts json rescue (take place rescue.salvage.entries)) old mid waiting) where
  abbrev entries : List Salvaged
  entries = rescue.salvage.entries

  -- one more entry is told
  more : (entry : Salvaged) → place < length entries → get_or entries place entry ≡ entry → (after : Bool) (part now longer : List ℕ) → after ≡ are_told (take place entries)
      → IsPart json rescue after place entry part → now ≡ part → longer ≡ waiting ++ now → IsBegun (AreParts json rescue (take (place + 1) entries)) old mid longer
  more entry inside at after part now longer is next same grown =
      let all : take (place + 1) entries ≡ take place entries ++ entry ∷ [] = take_more entries place entry inside ∙ ap (λ (e : Salvaged). take place entries ++ e ∷ []) at in
      let here : place ≡ length (take place entries) = omega (arith, inside, length-take place entries) in
      told_more (AreParts json rescue (take place entries)) old mid waiting so_far (AreParts json rescue (take (place + 1) entries)) part longer
      (subst (λ (es : List Salvaged). AreParts json rescue es (so_far.text ++ part)) (sym all)
      (parts_more json rescue (take place entries) entry so_far.text so_far.told after part is (subst (λ (k : ℕ). IsPart json rescue after k entry part) here next)))
      (grown ∙ ap (λ (l : List ℕ). waiting ++ l) same)

  -- what is behind the entries waits too
  whole : (rest now longer : List ℕ) → length entries ≤ place → rest ≡ rest_of json rescue → now ≡ rest → longer ≡ waiting ++ now → IsBegun (IsTold json rescue) old mid longer
  whole rest now longer all is same grown =
      told_more (AreParts json rescue (take place entries)) old mid waiting so_far (IsTold json rescue) (rest_of json rescue) longer
      (parts_whole json rescue so_far.text (subst (λ (es : List Salvaged). AreParts json rescue es so_far.text) (take_all place entries all) so_far.told))
      (grown ∙ ap (λ (l : List ℕ). waiting ++ l) (same ∙ is))

  -- nothing more is written
  front : WritesFrontOf old mid (AreSomeRescued json rescue)
  front = told_front (AreParts json rescue (take place entries)) old mid waiting so_far (AreSomeRescued json rescue) (parts_told json rescue place)

pub returns-in_err-text-clause-front : goal.returns-in_err-text-clause-front
returns-in_err-text-clause-front g c =
    let json = c.args.json in
    let rescue = c.args.self.now in
    at_any_err _ (front json rescue 0 _ _ (front_of json) (begun_with (AreParts json rescue []) (front_of json) (front_of json) _ (no_parts rescue json) refl))

pub loop-place-init : goal.loop-place-init
loop-place-init g c = record { begun = begun_with (AreParts c.args.json c.args.self.now []) (front_of c.args.json) _ _ (no_parts c.args.self.now c.args.json) c.in_ok-text.ensures; after = refl }

pub part_at-requires-clause-at : goal.part_at-requires-clause-at
part_at-requires-clause-at g c =
    let entry = c.index-entries-place.result in
    ap (λ (es : List Salvaged). get_or es c.loop-place.place entry) (sym c.entries-entries.ensures) ∙ sym c.index-entries-place.is

pub returns-in_err-part-clause-front : goal.returns-in_err-part-clause-front
returns-in_err-part-clause-front g c = at_any_err _ (front c.args.json c.args.self.now c.loop-place.place _ _ _ c.loop-place.invariant.begun)

pub returns-in_err-extend_from_slice-clause-front : goal.returns-in_err-extend_from_slice-clause-front
returns-in_err-extend_from_slice-clause-front g c = at_any_err _ (front c.args.json c.args.self.now c.loop-place.place _ _ _ c.loop-place.invariant.begun)

pub returns-in_err-write_when_long-clause-front : goal.returns-in_err-write_when_long-clause-front
returns-in_err-write_when_long-clause-front g c =
    let json = c.args.json in
    let rescue = c.args.self.now in
    let entry = c.index-entries-place.result in
    let inside : c.loop-place.place < length rescue.salvage.entries = subst (λ (es : List Salvaged). c.loop-place.place < length es) c.entries-entries.ensures c.loop-place-test.true in
    let at : get_or rescue.salvage.entries c.loop-place.place entry ≡ entry = ap (λ (es : List Salvaged). get_or es c.loop-place.place entry) (sym c.entries-entries.ensures) ∙ sym c.index-entries-place.is in
    let begun = more json rescue c.loop-place.place _ _ _ c.loop-place.invariant.begun entry inside at c.loop-place.after c.in_ok-part.part.items c.deref.result.now c.extend_from_slice.new.self.items c.loop-place.invariant.after c.in_ok-part.ensures c.deref.ensures.value c.in_ok-extend_from_slice.ensures.items in
    at_any_err _ (told_part (AreParts json rescue (take (c.loop-place.place + 1) rescue.salvage.entries)) _ _ _ begun (AreSomeRescued json rescue) (parts_told json rescue (c.loop-place.place + 1)) _ c.in_err-write_when_long.ensures.front)

pub loop-place-preserved : goal.loop-place-preserved
loop-place-preserved g c =
    let json = c.args.json in
    let rescue = c.args.self.now in
    let entry = c.index-entries-place.result in
    let inside : c.loop-place.place < length rescue.salvage.entries = subst (λ (es : List Salvaged). c.loop-place.place < length es) c.entries-entries.ensures c.loop-place-test.true in
    let at : get_or rescue.salvage.entries c.loop-place.place entry ≡ entry = ap (λ (es : List Salvaged). get_or es c.loop-place.place entry) (sym c.entries-entries.ensures) ∙ sym c.index-entries-place.is in
    let begun = more json rescue c.loop-place.place _ _ _ c.loop-place.invariant.begun entry inside at c.loop-place.after c.in_ok-part.part.items c.deref.result.now c.extend_from_slice.new.self.items c.loop-place.invariant.after c.in_ok-part.ensures c.deref.ensures.value c.in_ok-extend_from_slice.ensures.items in
    record {
      begun = told_passed (AreParts json rescue (take (c.loop-place.place + 1) rescue.salvage.entries)) _ _ _ begun _ _ c.in_ok-write_when_long.ensures.ok;
      after =
          c.is_after-after.ensures
          ∙ ap (λ b. b || is_told entry.state entry.found) c.loop-place.invariant.after
          ∙ sym (list_any_more (λ (e : Salvaged). is_told e.state e.found) rescue.salvage.entries c.loop-place.place entry inside
          ∙ ap (λ (e : Salvaged). are_told (take c.loop-place.place rescue.salvage.entries) || is_told e.state e.found) at);
    }

pub returns-in_err-rest-clause-front : goal.returns-in_err-rest-clause-front
returns-in_err-rest-clause-front g c = at_any_err _ (front c.args.json c.args.self.now c.loop-place.place _ _ _ c.loop-place.invariant.begun)

pub returns-in_err-extend_from_slice-2-clause-front : goal.returns-in_err-extend_from_slice-2-clause-front
returns-in_err-extend_from_slice-2-clause-front g c = at_any_err _ (front c.args.json c.args.self.now c.loop-place.place _ _ _ c.loop-place.invariant.begun)

pub returns-in_err-write_text-clause-front : goal.returns-in_err-write_text-clause-front
returns-in_err-write_text-clause-front g c =
    let json = c.args.json in
    let rescue = c.args.self.now in
    let all : length rescue.salvage.entries ≤ c.loop-place.place = subst (λ (es : List Salvaged). length es ≤ c.loop-place.place) c.entries-entries.ensures c.loop-place-test.false in
    let begun = whole json rescue c.loop-place.place _ _ _ c.loop-place.invariant.begun c.in_ok-rest.rest.items c.deref-2.result.now c.extend_from_slice-2.new.self.items all c.in_ok-rest.ensures c.deref-2.ensures.value c.in_ok-extend_from_slice-2.ensures.items in
    at_any_err _ (told_part (IsTold json rescue) _ _ _ begun (AreSomeRescued json rescue) (told_of json rescue) _ (subst (WritesFront _ _) c.as_slice.ensures.value c.in_err-write_text.ensures.front))

pub returns-clause-ok : goal.returns-clause-ok
returns-clause-ok g c =
    let json = c.args.json in
    let rescue = c.args.self.now in
    let all : length rescue.salvage.entries ≤ c.loop-place.place = subst (λ (es : List Salvaged). length es ≤ c.loop-place.place) c.entries-entries.ensures c.loop-place-test.false in
    let begun = whole json rescue c.loop-place.place _ _ _ c.loop-place.invariant.begun c.in_ok-rest.rest.items c.deref-2.result.now c.extend_from_slice-2.new.self.items all c.in_ok-rest.ensures c.deref-2.ensures.value c.in_ok-extend_from_slice-2.ensures.items in
    let told = told_all (IsTold json rescue) _ _ _ begun _ (subst (Appends _ _) c.as_slice.ensures.value c.in_ok-write_text.ensures.ok) in
    (told.0, told.1, record { accepts = sym c.is_accepted.ensures; told = told.2 })
