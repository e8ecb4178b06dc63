use Rattle.std.proofs.Common.{◌≡◌, ℕ, ◌==◌, ◌||◌, Bool, Bor, List, [], length, map, sym, ap, ◌∙◌}
use Rattle.std.proofs.lemmas.List.{length-map}
use Rattle.std.specs.Str.{bytes_eq}
use Rattle.adf_rescue.specs.Undelete.{is_named, key_of}
use Rattle.adf_rescue.proofs.Asking.{any_made}
use Rattle.adf_rescue.proofs.asked.Asked.of.Goals.{then-is_empty, else-is_empty}
use Rattle.adf_rescue.proofs.asked.Asked.of.Goals as goal

keys : List (Bor (List ℕ)) → List (List ℕ)
keys words = map (λ word. key_of word.now) words

pub returns-clause-asked : goal.returns-clause-asked
unfolding keys
returns-clause-asked c =
    let words = c.args.words.now in
    let same = λ (text : List ℕ). c.in_ok-keys.ensures.keys text ∙ sym (any_made (λ key. bytes_eq key text) (λ (word : Bor (List ℕ)). key_of word.now) words) in
    let count : (length (keys words) == 0) ≡ c.is_empty.result = ap (λ (n : ℕ). n == 0) (length-map words (λ (word : Bor (List ℕ)). key_of word.now)) ∙ sym c.is_empty.ensures in
    record {
      same = same;
      root = elim c.if-is_empty.branch [
        | then-is_empty w ↦ w.root-is ∙ w.if-is_empty.true ∙ sym (ap (λ (b : Bool). b || is_named (keys words) []) (count ∙ w.if-is_empty.true))
        | else-is_empty w ↦ w.root-is ∙ w.contains-root.ensures ∙ same [] ∙ sym (ap (λ (b : Bool). b || is_named (keys words) []) (count ∙ w.if-is_empty.false))
      ];
    }
