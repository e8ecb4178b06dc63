use Rattle.std.proofs.Common.{ℕ, refl, sym, ◌∙◌, subst}
use Rattle.adf_import.proofs.Common.{Shown, IsReady, KeepsKeys, HasDirectory, PutsInTurn}
use Rattle.adf_import.specs.Put.PutsInTurn.{none}
use Rattle.adf_import.specs.declared.item.How.{How}
use Rattle.adf_import.proofs.Keeping.{keeps_both, keeps_same}
use Rattle.adf_import.proofs.Putting.{puts_both}
use Rattle.adf_import.proofs.adding.add.Goals as goal

pub loop-entry-init : goal.loop-entry-init
loop-entry-init g c = record {
  ready = record {
    dir = subst (λ (v : Shown). HasDirectory v.image c.in_ok-top.top) (sym c.directory.ensures.same) c.in_ok-top.ensures.directory;
    progress = c.in_ok-new-2.ensures c.directory.new.volume.image;
  };
  keeps = keeps_same c.directory.new.volume.image;
  how = refl;
  puts = none;
}

pub loop-entry-preserved : goal.loop-entry-preserved
loop-entry-preserved g c =
    let put = c.in_ok-add_entry.ensures.put in
    let ready : IsReady c.add_entry.new.volume.image c.loop-entry.adding.top c.add_entry.new.adding.progress =
    record { dir = put.keeps.directory c.loop-entry.adding.top c.loop-entry.invariant.ready.dir; progress = put.progress } in
    record {
      ready = subst (λ (top : ℕ). IsReady c.add_entry.new.volume.image top c.add_entry.new.adding.progress) (sym c.in_ok-add_entry.ensures.target.0) ready;
      keeps = keeps_both c.directory.new.volume.image c.loop-entry.volume.image c.add_entry.new.volume.image c.loop-entry.invariant.keeps put.keeps;
      how = c.in_ok-add_entry.ensures.target.1 ∙ c.loop-entry.invariant.how;
      puts =
          puts_both c.args.how.moment c.args.how.force c.directory.new.volume c.loop-entry.volume c.add_entry.new.volume c.loop-entry.invariant.puts
          (subst (λ (how : How). PutsInTurn how.moment how.force c.loop-entry.volume c.add_entry.new.volume) c.loop-entry.invariant.how c.in_ok-add_entry.ensures.puts);
    }

pub returns : goal.returns
returns g c =
    let after = c.note_directories.new.volume in
    subst (λ (v : Shown). KeepsKeys v.image after.image × PutsInTurn c.args.how.moment c.args.how.force v after) c.directory.ensures.same (
      keeps_both c.directory.new.volume.image c.loop-entry.volume.image after.image c.loop-entry.invariant.keeps c.note_directories.ensures.keys,
      puts_both c.args.how.moment c.args.how.force c.directory.new.volume c.loop-entry.volume after c.loop-entry.invariant.puts (c.note_directories.ensures.puts c.args.how.force),
    )
