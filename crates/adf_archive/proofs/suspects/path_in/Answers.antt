use Rattle.std.proofs.Common.{◌≡◌, ℕ, ◌-◌, ◌<◌, length, Option, Result, Ok, Err, IfOk, Some, option_map, sym, ap, ◌∙◌, subst, arith}
use Rattle.adf_archive.proofs.Common.{get_or_default, Suspect, string_bytes, HasItsPath, entry_of}
use Rattle.adf_archive.specs.Suspects.{IsPathFor}
use Rattle.std.proofs.Math.ListN.{get_or}
use Rattle.adf_archive.proofs.suspects.path_in.Goals as goal

mapped : {X Y : Type 0} (P Q : X → Type 0) → ((x : X) → P x → Q x) → (r : Result X Y) → IfOk r P → IfOk r Q
mapped P Q f (Ok x) h = f x h
mapped P Q f (Err e) h = h

pub returns-then-is_of : goal.returns-then-is_of
returns-then-is_of c =
    let found = c.args.found.now in
    let first = c.index-found-count.result in
    let last = c.index-found-count-then-is_of.result in
    let within : length found - 1 < length found = omega (arith, c.if-count-gt0.true) in
    let same : last ≡ get_or found (length found - 1) first = c.index-found-count-then-is_of.is ∙ get_or_default found (length found - 1) last first within in
    let entry : entry_of last.block last.owner ≡ Some c.args.entry = ap (λ (x : Suspect). entry_of x.block x.owner) (same ∙ sym c.index-found-count.is) ∙ c.is_of.ensures c.if-is_of.true in
    mapped _ _
    (λ path keeps t s.
    let told = subst (HasItsPath t) (sym c.index-found-count-then-is_of.is) (c.requires.found t s (length found - 1) last within) in
    rw keeps (subst (λ (key : Option ℕ). IsPathFor t key (option_map string_bytes last.path)) entry told))
    c.same_path.result c.same_path.ensures
