use Rattle.ados_salvage.proofs.KnownCommon.{rules, ◌≡◌, ◌<◌, length, get_or_default, sym, ap, ◌∙◌, subst, arith, All, Free, One, HasKnownBlocks, IsUsed, claim_at}
use Rattle.ados_salvage.proofs.FileBlocks.{intact_known}
use Rattle.ados_salvage.proofs.Recovering.{all_free, counts_shared, intact_by, none_shared, not_intact_by}
use Rattle.ados_salvage.proofs.known.recovery.recovery_of.Goals as goal

pub returns-in_default : goal.returns-in_default
returns-in_default c =
    let none : ¬ HasKnownBlocks c.args.known.now.image c.args.header = rw c.in_default.is at c.in_ok-blocks.ensures in
    (c.is_file.ensures.0 c.if-not-is_file.false, λ i. none (intact_known c.args.known.now.image c.args.header i), λ known. absurd (none known))

pub returns-then-shared-gt0 : goal.returns-then-shared-gt0
returns-then-shared-gt0 c =
    let known = rw c.in-Some.is at c.in_ok-blocks.ensures in
    let is_file = c.is_file.ensures.0 c.if-not-is_file.false in (
      subst (All (λ block. ¬ IsUsed c.args.known.now.image block)) (c.deref.ensures.value ∙ known.1) c.in_default-use_of.ensures,
      record {
        is_file = is_file;
        known = known.0;
        some = c.if-shared-gt0.true;
        counted = counts_shared c.args.known.now.image c.args.header c.requires.header is_file known.0.holders c.args.named.now c.requires.named c.deref-2.result.now c.count_several-shared.result
            (c.deref-2.ensures.value ∙ known.1) c.count_several-shared.ensures;
        total = omega (arith, c.len-all.ensures, c.in-Some.blocks.ok.0, ap length known.1);
      },
    )

pub returns-then-eq : goal.returns-then-eq
returns-then-eq c =
    let known = rw c.in-Some.is at c.in_ok-blocks.ensures in
    let within : c.args.header < length c.args.known.now.claims.items = omega (arith, c.requires.header.inside.1, c.requires.claims.size) in
    let read : claim_at c.args.known.now.claims.items c.args.header ≡ c.index.result.now =
    get_or_default c.args.known.now.claims.items c.args.header Free c.index.result.now within ∙ sym c.index.ensures in
    let one : c.index.result.now ≡ One c.args.header = search rules in
    let alone : claim_at c.args.known.now.claims.items c.args.header ≡ One c.args.header = read ∙ one in
    let intact = intact_by c.args.known.now.image c.args.header c.requires.header.inside c.args.known.now.claims.items c.requires.claims alone in (
      intact,
      all_free c.args.known.now.image c.args.header intact c.deref.result.now (c.deref.ensures.value ∙ known.1) c.in_default-use_of.ensures,
      none_shared c.args.known.now.image c.args.header c.requires.header intact.is_file known.0.holders c.args.named.now c.requires.named c.deref-2.result.now
          (c.deref-2.ensures.value ∙ known.1) (sym c.count_several-shared.ensures ∙ omega (arith, c.if-shared-gt0.false)),
      omega (arith, c.len-all.ensures, c.in-Some.blocks.ok.0, ap length known.1),
    )

pub returns : goal.returns
returns c =
    let known = rw c.in-Some.is at c.in_ok-blocks.ensures in
    let is_file = c.is_file.ensures.0 c.if-not-is_file.false in
    let within : c.args.header < length c.args.known.now.claims.items = omega (arith, c.requires.header.inside.1, c.requires.claims.size) in
    let read : claim_at c.args.known.now.claims.items c.args.header ≡ c.index.result.now =
    get_or_default c.args.known.now.claims.items c.args.header Free c.index.result.now within ∙ sym c.index.ensures in
    let none = none_shared c.args.known.now.image c.args.header c.requires.header is_file known.0.holders c.args.named.now c.requires.named c.deref-2.result.now
    (c.deref-2.ensures.value ∙ known.1) (sym c.count_several-shared.ensures ∙ omega (arith, c.if-shared-gt0.false)) in (
      is_file,
      not_intact_by c.args.known.now.image c.args.header c.requires.header.inside c.args.known.now.claims.items c.requires.claims none (λ alone. let one : c.index.result.now ≡ One c.args.header = sym read ∙ alone in search (rules, one)),
      λ _. (subst (All (λ block. ¬ IsUsed c.args.known.now.image block)) (c.deref.ensures.value ∙ known.1) c.in_default-use_of.ensures, none),
    )
