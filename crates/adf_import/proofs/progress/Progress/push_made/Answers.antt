use Rattle.std.proofs.Common.{List, [], ◌∷◌, sym, subst}
use Rattle.adf_import.proofs.Common.{All, All-append, All-cons, All-nil, HasEntryKey, Made}
use Rattle.adf_import.proofs.progress.Progress.push_made.Goals as goal

pub returns : goal.returns
returns c = λ image entry was.
    let pushed : Made = record { key = c.args.key; noted = c.args.noted } in
    c.in_ok-push-2.ensures image (record {
      dir = was.dir;
      progress = record {
        dirs = was.progress.dirs;
        made = subst (λ (xs : List Made). All (λ (made : Made). HasEntryKey image made.key) xs) (sym c.in_ok-push.ensures.items)
            (All-append (λ (made : Made). HasEntryKey image made.key) c.args.self.now.made.items (pushed ∷ []) was.progress.made (All-cons (λ (made : Made). HasEntryKey image made.key) pushed [] entry (All-nil _)));
      };
    })
