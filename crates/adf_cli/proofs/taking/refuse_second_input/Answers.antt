use Rattle.std.proofs.Common.{◌≢◌, ℕ, ◌<◌, Bor, List, [], codes, get_or, length, refl, rules}
use Rattle.std.proofs.lemmas.List.Elements.{All-more}
use Rattle.adf_cli.proofs.Asking.{files_all, once_all, once_file, once_input}
use Rattle.adf_cli.proofs.taking.refuse_second_input.Goals as goal

pub loop-file-preserved-then-ne : goal.loop-file-preserved-then-ne
loop-file-preserved-then-ne c =
    let files = c.args.files.now in
    let i = c.loop-file.file-index in
    let d : Bor (List ℕ) = record { ref_ptr = (0, 0); now = [] } in
    let file : (get_or files i d).now ≢ codes "-" = search rules in
    let inside : i < length files = c.loop-file-test.true in record {
      once = once_file files i d inside c.loop-file.invariant.once file;
      none = λ unread. All-more (λ (word : Bor (List ℕ)). word.now ≢ codes "-") files i d inside (c.loop-file.invariant.none unread) file;
      kept = c.loop-file.invariant.kept;
      files = λ taken. All-more (λ (word : Bor (List ℕ)). word.now ≢ codes "-") files i d inside (c.loop-file.invariant.files taken) file;
    }

pub loop-file-preserved : goal.loop-file-preserved
loop-file-preserved c = record {
  once = once_input c.args.files.now c.loop-file.file-index (record { ref_ptr = (0, 0); now = [] }) c.loop-file-test.true c.loop-file.invariant.once (c.loop-file.invariant.none c.if-is_input_read.false);
  none = λ unread. absurd (cc unread);
  kept = λ taken. refl;
  files = λ taken. absurd (cc (c.loop-file.invariant.kept taken, c.if-is_input_read.false));
}

pub returns-clause-once : goal.returns-clause-once
returns-clause-once c = once_all c.args.files.now c.loop-file.file-index c.loop-file-test.false c.loop-file.invariant.once

pub returns-clause-files : goal.returns-clause-files
returns-clause-files c = λ taken. files_all c.args.files.now c.loop-file.file-index c.loop-file-test.false (c.loop-file.invariant.files taken)
