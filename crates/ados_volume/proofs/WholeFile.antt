-- A read of a file into a buffer of its size returns all of it.
use Rattle.std.proofs.Math.Seq.{take-length}
use Rattle.ados_volume.proofs.Common.{List, [], ap, append-nil, ap₂, arith, drop, drop_of_length-le, length, min, take, ℕ, ◌++◌, ◌-◌, ◌∙◌, ◌≡◌}

pub read_whole : (file held old new : List ℕ) (n size : ℕ) → held ≡ file → length old ≡ size → size ≡ length file → n ≡ min (length old) (length held - 0) → new ≡ take n (drop 0 held) ++ drop n old → new ≡ file
read_whole file held old new n size same room whole count is =
    let all : n ≡ length file = omega (arith, room, whole, count, ap length same) in
    let none : drop n old ≡ [] = drop_of_length-le old (omega (arith, room, whole, all)) in
    is ∙ ap₂ (λ (xs ys : List ℕ). xs ++ ys) (ap₂ (λ (m : ℕ) (xs : List ℕ). take m xs) all same ∙ take-length file) none ∙ append-nil file

-- the buffer then has these bytes
pub written_back : (file new old : List ℕ) (len : ℕ) → new ≡ file → length old ≡ length file → len ≡ length file → take len (new ++ drop (length new) old) ≡ file
written_back file new old len is room count =
    let none : drop (length file) old ≡ [] = drop_of_length-le old (omega (arith, room)) in
    ap (λ (xs : List ℕ). take len (xs ++ drop (length xs) old)) is
    ∙ ap (λ (xs : List ℕ). take len (file ++ xs)) none ∙ ap (λ (xs : List ℕ). take len xs) (append-nil file) ∙ ap (λ (m : ℕ). take m file) count ∙ take-length file
