use Rattle.ados_salvage.proofs.KnownCommon.{ℕ, Bool, false, List, MatchBool, sym, subst, block_count, AreAllClaims, HasClaim, IsWhole}
use Rattle.std.proofs.lemmas.Result.{IfOk-weaker}
use Rattle.ados_salvage.specs.Found.{HasItsBlocks}
use Rattle.ados_salvage.proofs.Keeping.{has_by}
use Rattle.ados_salvage.proofs.known.whole.has_its_blocks.Goals as goal

pub returns : goal.returns
returns c =
    let (unreached, are, claims) = c.requires.known.reached in
    let alone = c.in_ok-is_whole_by.ensures c.args.known.now.left_out (subst (AreAllClaims (HasClaim c.args.known.now.left_out c.args.known.now.image) (block_count c.args.known.now.image)) (sym c.deref.ensures.value) c.requires.known.claims) in
    let none : ¬ IsWhole c.args.known.now.left_out c.args.known.now.holes.items c.args.known.now.image c.args.file = rw c.if-branch.false at alone in
    IfOk-weaker c.is_whole_by-2.result
    (λ (whole : Bool). (other : List ℕ) → AreAllClaims (HasClaim other c.args.known.now.image) (block_count c.args.known.now.image) c.deref-2.result.now → MatchBool whole (IsWhole other c.args.known.now.holes.items c.args.known.now.image c.args.file) (¬ IsWhole other c.args.known.now.holes.items c.args.known.now.image c.args.file))
    (λ (whole : Bool). MatchBool whole (HasItsBlocks c.args.known.now.left_out c.args.known.now.holes.items c.args.known.now.image c.args.file) (¬ HasItsBlocks c.args.known.now.left_out c.args.known.now.holes.items c.args.known.now.image c.args.file))
    (λ whole by. has_by c.args.known.now.left_out c.args.known.now.image c.args.known.now.holes.items c.args.file unreached are whole
    (by unreached (subst (AreAllClaims (HasClaim unreached c.args.known.now.image) (block_count c.args.known.now.image)) (sym c.deref-2.ensures.value) claims)) none) c.is_whole_by-2.ensures
