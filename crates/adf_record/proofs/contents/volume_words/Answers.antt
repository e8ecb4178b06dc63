use Rattle.adf_record.proofs.Common.{ℕ, List, ◌++◌, codes, ap, ap₂, ◌∙◌, bitmap_words, format_word, size_words}
use Rattle.adf_record.proofs.Pieces.{five}
use Rattle.adf_record.proofs.contents.volume_words.Goals as goal

pub returns : goal.returns
returns c =
    let facts = c.args.facts.now in
    let size = c.as_str.ensures.value ∙ c.in_ok-size.ensures in
    c.in_ok-line.ensures.ok
    ∙ ap₂ (λ (f s : List ℕ). codes "   " ++ (f ++ (s ++ (codes ", " ++ (c.bitmap_words-bitmap.result.now ++ codes "\n"))))) c.format_word-format.ensures size
    ∙ ap (λ (b : List ℕ). codes "   " ++ (format_word facts.format ++ (size_words facts.blocks ++ (codes ", " ++ (b ++ codes "\n"))))) c.bitmap_words-bitmap.ensures
    ∙ ap (λ (l : List ℕ). codes "   " ++ l) (five (format_word facts.format) (size_words facts.blocks) (codes ", ") (bitmap_words facts.rebuilt) (codes "\n"))
