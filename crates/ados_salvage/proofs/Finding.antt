-- Found entries, added one after the other.
use Rattle.ados_salvage.proofs.Common.{◌≡◌, true, [], ◌∷◌, ◌++◌, append-nil, append_assoc, sym, ap, ◌∙◌, All-nil, All-push, Gathered, Known}
use Rattle.std.proofs.lemmas.List.Elements.{All-append}
use Rattle.ados_salvage.specs.steps.Gathering.{AddsFound, AddsOne, IsFoundEntry}

module _ (known : Known) where
  pub adds_none : (old new : Gathered) → new.entries.items ≡ old.entries.items → AddsFound known old new
  adds_none old new same = record { found = []; each = All-nil (IsFoundEntry known); added = same ∙ sym (append-nil old.entries.items) }

  pub adds_one : (old new : Gathered) → AddsOne known true old new → AddsFound known old new
  adds_one old new one = record { found = one.entry ∷ []; each = All-push (IsFoundEntry known) [] one.entry (All-nil (IsFoundEntry known)) (one.as_found, one.salvaged); added = one.added }

  pub adds_then : (old mid new : Gathered) → AddsFound known old mid → AddsFound known mid new → AddsFound known old new
  adds_then old mid new first second = record {
    found = first.found ++ second.found;
    each = All-append (IsFoundEntry known) first.found second.found first.each second.each;
    added = second.added ∙ ap (λ xs. xs ++ second.found) first.added ∙ append_assoc old.entries.items first.found second.found;
  }
