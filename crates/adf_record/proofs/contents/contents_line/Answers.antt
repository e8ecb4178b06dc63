use Rattle.adf_record.proofs.Common.{ℕ, ◌/◌, List, ◌++◌, codes, ap, ap₂, ◌∙◌, counted, grouped}
use Rattle.adf_record.proofs.Pieces.{eight}
use Rattle.adf_record.proofs.contents.contents_line.Goals as goal

pub returns : goal.returns
returns c =
    let facts = c.args.facts.now in
    let files = c.as_str.ensures.value ∙ c.in_ok-files.ensures in
    let directories = c.as_str-2.ensures.value ∙ c.in_ok-directories.ensures in
    let used = c.as_str-3.ensures.value ∙ c.in_ok-used.ensures ∙ ap grouped c.from.ensures in
    let free = c.as_str-4.ensures.value ∙ c.in_ok-free.ensures ∙ ap grouped c.from-2.ensures in
    let a = counted facts.counts.files (codes "file") (codes "files") in
    let b = counted facts.counts.directories (codes "directory") (codes "directories") in
    c.in_ok-line.ensures.ok
    ∙ ap₂ (λ (f d : List ℕ). f ++ (codes ", " ++ (d ++ (codes ", " ++ (c.as_str-3.result.now ++ (codes " KB used, " ++ (c.as_str-4.result.now ++ codes " KB free\n"))))))) files directories
    ∙ ap₂ (λ (u n : List ℕ). a ++ (codes ", " ++ (b ++ (codes ", " ++ (u ++ (codes " KB used, " ++ (n ++ codes " KB free\n"))))))) used free
    ∙ eight a (codes ", ") b (codes ", ") (grouped (facts.used / 2)) (codes " KB used, ") (grouped (facts.free / 2)) (codes " KB free\n")
