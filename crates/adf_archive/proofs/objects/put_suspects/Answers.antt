use Rattle.std.proofs.Common.{◌≡◌, ℕ, ◌+◌, ◌<◌, List, [], ◌∷◌, ◌++◌, codes, length, get_or, take, sym, ap, ◌∙◌}
use Rattle.adf_archive.proofs.Common.{flat_map, append-nil, take_more, Token, begin_array, key, Suspect, suspect_tokens}
use Rattle.std.proofs.lemmas.List.Concat.{flat_map-append}
use Rattle.adf_record.proofs.Tokens.{behind}
use Rattle.adf_archive.proofs.objects.put_suspects.Goals as goal

-- one block more
more : (f : Suspect → List Token) (xs : List Suspect) (i : ℕ) (d : Suspect) → i < length xs → flat_map f (take (i + 1) xs) ≡ flat_map f (take i xs) ++ f (get_or xs i d)
more f xs i d l =
    ap (flat_map f) (take_more xs i d l) ∙ flat_map-append f (take i xs) (get_or xs i d ∷ [])
    ∙ ap (λ (ys : List Token). flat_map f (take i xs) ++ ys) (append-nil (f (get_or xs i d)))

pub loop-suspect-preserved : goal.loop-suspect-preserved
loop-suspect-preserved c =
    let at = c.loop-suspect.suspect-index in
    let suspects = c.args.suspects.now in
    let last = c.suspect-item.result in
    let before : List Token = key (codes "suspects") ∷ begin_array ∷ flat_map suspect_tokens (take at suspects) in (
      c.in_ok-put_suspect.ensures.before ∙ c.loop-suspect.invariant.0,
      behind c.args.writer.now.tokens c.loop-suspect.writer.tokens c.put_suspect.new.writer.tokens before (suspect_tokens last) c.loop-suspect.invariant.1 c.in_ok-put_suspect.ensures.tokens
          ∙ ap (λ (s : Suspect). c.args.writer.now.tokens ++ (before ++ suspect_tokens s)) c.suspect-item.is
          ∙ ap (λ (ts : List Token). c.args.writer.now.tokens ++ (key (codes "suspects") ∷ begin_array ∷ ts)) (sym (more suspect_tokens suspects at last c.loop-suspect-test.true)),
    )
