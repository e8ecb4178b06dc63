use Rattle.std.proofs.Common.{ℕ, List, [], ◌∷◌, sym, subst}
use Rattle.adf_import.proofs.Common.{All, All-append, All-cons, All-nil, HasDirectory, HasEntryKey, Made}
use Rattle.adf_import.proofs.progress.Progress.push.Goals as goal

pub returns : goal.returns
returns c = λ image was. record {
  dirs = subst (λ (xs : List ℕ). All (HasDirectory image) xs) (sym c.in_ok-push.ensures.items)
      (All-append (HasDirectory image) c.mark.new.self.dirs.items (c.args.dir ∷ []) (subst (λ (xs : List ℕ). All (HasDirectory image) xs) (sym c.mark.ensures.dirs) was.progress.dirs) (All-cons (HasDirectory image) c.args.dir [] was.dir (All-nil (HasDirectory image))));
  made = subst (λ (xs : List Made). All (λ (made : Made). HasEntryKey image made.key) xs) (sym c.mark.ensures.made) was.progress.made;
}
