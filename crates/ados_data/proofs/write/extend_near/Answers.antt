use Rattle.ados_data.proofs.Common.{◌≡◌, ◌+◌, subst, max, length-take, length-replicate, GrowsFile, ◌-◌, ◌%◌, ℕ, length, min, replicate, take, ap, ap₂, ◌∙◌, arith, format_of, data_size, contents, overlaid}
use Rattle.ados_data.proofs.Composing.{grows_both}
use Rattle.ados_data.proofs.Overlaid.{zeroed_longer}
use Rattle.ados_data.proofs.Places.{among_more}
use Rattle.ados_data.proofs.write.extend_near.Goals as goal
use Rattle.ados_data.proofs.write.extend_near.Goals.{After-lengthen-bound}

pub long-old-requires-clause-block : goal.long-old-requires-clause-block
long-old-requires-clause-block c = omega (arith, c.requires.writable.lawful.places.headers_inside 0 (omega arith))

pub write_near-requires-clause-near : goal.write_near-requires-clause-near
write_near-requires-clause-near c = among_more c.lengthen-bound.ensures.grown.extensions c.requires.near

-- the new size
size_is : (c : After-lengthen-bound) → max (length (contents c.lengthen-bound.new.image c.args.file)) (c.long-old.result + length {A = ℕ} (take c.min-part.result (replicate 512 0))) ≡ c.args.size
size_is c = omega (arith, c.lengthen-bound.ensures.grown.sized, c.min-part.ensures, c.long-old.ensures, c.requires.writable.lawful.holds.size, c.requires.longer, length-take {A = ℕ} c.min-part.result (replicate 512 0), length-replicate {A = ℕ} 512 0)

pub write_near-requires-clause-free : goal.write_near-requires-clause-free
write_near-requires-clause-free c = grind (arith, size_is (goal.at.write_near-requires-clause-free c).After-lengthen-bound, c.lengthen-bound.ensures.grown.sized)

pub returns-clause-grown : goal.returns-clause-grown
returns-clause-grown c = subst (λ (n : ℕ). GrowsFile c.args.image.now c.args.file n c.write_near.new.image) (size_is (goal.at.returns-clause-grown c).After-lengthen-bound) (grows_both c.requires.writable c.lengthen-bound.ensures.grown c.write_near.ensures.grown)

pub returns-clause-bytes : goal.returns-clause-bytes
returns-clause-bytes c =
    let xs = contents c.args.image.now c.args.file in
    let zs = contents c.lengthen-bound.new.image c.args.file in
    let old : c.long-old.result ≡ length xs = c.long-old.ensures ∙ c.requires.writable.lawful.holds.size in
    let room : c.data_size-room.result ≡ data_size (format_of c.args.image.now) = c.data_size-room.ensures ∙ ap data_size c.format.ensures in
    c.write_near.ensures.bytes
    ∙ ap (λ (n : ℕ). overlaid zs n (take c.min-part.result (replicate 512 0))) old
    ∙ zeroed_longer (format_of c.args.image.now) xs zs c.args.size c.min-part.result c.lengthen-bound.ensures.bytes c.requires.longer (c.min-part.ensures ∙ ap₂ (λ (r n : ℕ). min (r - n % r) (c.args.size - n)) room old)
