use Rattle.std.proofs.Common.{◌≡◌, ◌++◌, ◌∷◌, [], ℕ, List, sym, ap, ◌∙◌, arith, append_assoc, length, rules}
use Rattle.adf_script.specs.Lines.{lines_of}
use Rattle.adf_cli.specs.BadBlocks.AreBad.{more}
use Rattle.adf_cli.proofs.BadLines.{bad_end, bad_line, bad_more, bad_start, none_inside}
use Rattle.adf_cli.proofs.bad_list.bad_blocks.Goals as goal

pub returns-then-not-right-clause-fault : goal.returns-then-not-right-clause-fault
returns-then-not-right-clause-fault c =
    let so_far = c.loop-rest.invariant.bad in
    bad_line c.args.blocks (lines_of c.args.list.now) so_far.0 c.first_line.result.0.now (lines_of c.first_line.result.1.now) (so_far.1 ∙ ap (λ (lines : List (List ℕ)). so_far.0 ++ lines) c.first_line.ensures.lines) c.loop-rest.number so_far.2
    (rw c.if-not-right.true at c.in_ok-right.ensures.right)

pub loop-rest-init : goal.loop-rest-init
loop-rest-init c = record {
  bad = bad_start c.args.blocks c.args.list.now c.new-found.result.items c.new-found.ensures.items;
  inside = none_inside c.args.blocks c.new-found.result.items c.new-found.ensures.items;
  few = omega arith;
}

pub loop-rest-preserved : goal.loop-rest-preserved
loop-rest-preserved c =
    let so_far = c.loop-rest.invariant.bad in
    let line = c.first_line.result.0.now in record {
      bad = (
        so_far.0 ++ line ∷ [],
        so_far.1 ∙ ap (λ (lines : List (List ℕ)). so_far.0 ++ lines) c.first_line.ensures.lines ∙ sym (append_assoc so_far.0 (line ∷ []) (lines_of c.first_line.result.1.now)),
        bad_more so_far.0 line c.loop-rest.number so_far.2,
        more so_far.0 line _ _ so_far.3 (rw c.if-not-right.false at c.in_ok-right.ensures.right),
      );
      inside = c.in_ok-right.ensures.inside;
      few = omega (arith, c.loop-rest.invariant.few, c.first_line.ensures.shorter);
    }

pub returns-clause-blocks : goal.returns-clause-blocks
returns-clause-blocks c =
    let so_far = c.loop-rest.invariant.bad in
    let nothing : length c.loop-rest.rest.now ≡ 0 = search rules in
    bad_end c.args.blocks so_far.0 (lines_of c.args.list.now) c.loop-rest.rest.now c.loop-rest.found.items so_far.1 nothing so_far.3
