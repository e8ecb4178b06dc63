use Rattle.std.proofs.Common.{◌≡◌, ℕ, Bor, List, Option, map, ap, ◌∙◌, subst}
use Rattle.ados_salvage.specs.declared.known.deleted.Deleted.{Deleted}
use Rattle.adf_rescue.specs.declared.chosen.Chosen.{Chosen}
use Rattle.adf_rescue.specs.declared.placing.Placed.{Placed}
use Rattle.adf_rescue.specs.steps.Asking.{AreAsked}
use Rattle.adf_rescue.specs.Undelete.{Place, chosen_of, deleted_text, files_saved, key_of, places_of, seen_place}
use Rattle.adf_rescue.proofs.undeleting.undeletion_of.Goals as goal

pub returns-clause-done : goal.returns-clause-done
returns-clause-done c = λ image read is trusted found.
    let keys = map (λ (word : Bor (List ℕ)). key_of word.now) c.args.job.now.paths.items in
    let are = subst (λ (words : List (Bor (List ℕ))). AreAsked (map (λ (word : Bor (List ℕ)). key_of word.now) words) c.in_ok-asked.asked) c.deref.ensures.value c.in_ok-asked.ensures.asked in
    let positions = c.args.found.places.items in
    let places : map seen_place c.in_ok-places.places.items ≡ places_of keys c.args.found.salvage.entries =
    c.in_ok-places.ensures.places keys are ∙ ap (places_of keys) c.entries-entries.ensures in
    record {
      read = read;
      is_read = is;
      trusted = trusted;
      found = found;
      chosen =
          c.in_ok-chosen.ensures.chosen
          ∙ ap (λ (at : List (Option ℕ)). chosen_of at (map seen_place c.deref-5.result.now) c.deref-6.result.now) c.deref-4.ensures.value
          ∙ ap (λ (placed : List Placed). chosen_of positions (map seen_place placed) c.deref-6.result.now) c.deref-5.ensures.value
          ∙ ap (λ (deleted : List Deleted). chosen_of positions (map seen_place c.in_ok-places.places.items) deleted) c.deref-6.ensures.value
          ∙ ap (λ (seen : List Place). chosen_of positions seen c.args.found.deleted.items) places;
      text =
          c.in_ok-text.ensures
          ∙ ap (λ (at : List (Option ℕ)). deleted_text c.args.job.now.json at (map seen_place c.deref-8.result.now) c.deref-9.result.now) c.deref-7.ensures.value
          ∙ ap (λ (placed : List Placed). deleted_text c.args.job.now.json positions (map seen_place placed) c.deref-9.result.now) c.deref-8.ensures.value
          ∙ ap (λ (chosen : List Chosen). deleted_text c.args.job.now.json positions (map seen_place c.in_ok-places.places.items) chosen) c.deref-9.ensures.value
          ∙ ap (λ (seen : List Place). deleted_text c.args.job.now.json positions seen c.in_ok-chosen.chosen.items) places;
      files = c.in_ok-plan.ensures.files ∙ ap (files_saved c.args.job.now.force) c.deref-10.ensures.value;
      paths = c.in_ok-plan.ensures.paths;
    }
