use Rattle.std.proofs.Common.{◌≡◌, ℕ, ◌+◌, ◌<◌, List, [], ◌∷◌, ◌++◌, length, get_or, take, ap, sym, ◌∙◌, append_assoc}
use Rattle.adf_archive.proofs.Common.{flat_map, append-nil, take_more, Suspect, suspect_line}
use Rattle.std.proofs.lemmas.List.Concat.{flat_map-append}
use Rattle.adf_archive.proofs.lines.push_suspects.Goals as goal

more : (f : Suspect → List ℕ) (xs : List Suspect) (i : ℕ) (d : Suspect) → i < length xs → flat_map f (take (i + 1) xs) ≡ flat_map f (take i xs) ++ f (get_or xs i d)
more f xs i d l =
    ap (flat_map f) (take_more xs i d l) ∙ flat_map-append f (take i xs) (get_or xs i d ∷ [])
    ∙ ap (λ (ys : List ℕ). flat_map f (take i xs) ++ ys) (append-nil (f (get_or xs i d)))

pub loop-suspect-preserved : goal.loop-suspect-preserved
loop-suspect-preserved c =
    let line = suspect_line c.args.front.now in
    let at = c.loop-suspect.suspect-index in
    c.in_ok-push_suspect.ensures
    ∙ ap (λ (xs : List ℕ). xs ++ line c.suspect-item.result) c.loop-suspect.invariant
    ∙ append_assoc c.args.text.now.items (flat_map line (take at c.args.suspects.now)) (line c.suspect-item.result)
    ∙ ap (λ (s : Suspect). c.args.text.now.items ++ (flat_map line (take at c.args.suspects.now) ++ line s)) c.suspect-item.is
    ∙ ap (λ (xs : List ℕ). c.args.text.now.items ++ xs) (sym (more line c.args.suspects.now at c.suspect-item.result c.loop-suspect-test.true))
