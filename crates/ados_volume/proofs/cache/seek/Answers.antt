use Rattle.std.proofs.Common.{◌≡◌, ℕ, ◌++◌, List, length, map, drop, replicate, refl, ap, ◌∙◌, subst}
use Rattle.std.specs.Char.{to_ascii_uppercase}
use Rattle.ados_volume.proofs.Cached.{spelled}
use Rattle.ados_volume.proofs.cache.seek.Goals as goal

pub returns : goal.returns
returns c =
    let name = c.args.name.now in
    let copied = c.copy_from_slice.new.self in
    let letters = c.make_ascii_uppercase.new.self in
    let same = c.bytes-bytes.ensures.value in
    record {
      dir = refl;
      count = ap (λ (xs : List ℕ). length xs) same;
      letters = spelled name copied letters (c.copy_from_slice.ensures.after ∙ same)
          (subst (λ (xs : List ℕ). letters ≡ map to_ascii_uppercase (copied ++ drop (length xs) (replicate 30 0))) same c.make_ascii_uppercase.ensures.after);
    }
