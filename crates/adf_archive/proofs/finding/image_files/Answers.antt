use Rattle.std.proofs.Common.{Bor, ℕ, List, [], ◌∷◌, ◌++◌, get_or, sym, ap, ◌∙◌, rules}
use Rattle.adf_archive.proofs.Searching.{all_of, one_more}
use Rattle.adf_archive.proofs.finding.image_files.Goals as goal

pub loop-word-preserved : goal.loop-word-preserved
loop-word-preserved g c = λ none.
    let words = c.args.words.now in
    let d : Bor (List ℕ) = record { ref_ptr = (0, 0); now = [] } in
    let added = c.in_ok-add_word.ensures none in
    added.1 ∙ ap (λ (paths : List (List ℕ)). paths ++ (get_or words c.loop-word.word-index d).now ∷ []) (c.loop-word.invariant added.0) ∙ sym (one_more words c.loop-word.word-index d c.loop-word-test.true)

pub returns : goal.returns
returns g c = λ none.
    let listed = c.in_ok-add_listed.ensures in
    let added = listed.2 none in
    (listed.0, listed.1, added.1 ∙ ap (λ (paths : List (List ℕ)). paths ++ listed.0) (c.loop-word.invariant added.0 ∙ all_of c.args.words.now c.loop-word.word-index c.loop-word-test.false))
