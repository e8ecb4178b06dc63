use Rattle.std.proofs.Common.{[]}
use Rattle.adf_archive.proofs.Searching.{adds_all, adds_name, adds_none}
use Rattle.adf_archive.proofs.name_list.add_listed.Goals as goal

pub loop-name-init : goal.loop-name-init
loop-name-init g c = ([], tt, adds_none c.args.found.now)

pub loop-name-preserved : goal.loop-name-preserved
loop-name-preserved g c =
    let added = c.in_ok-add_name.ensures in
    adds_name c.args.names.now c.args.found.now c.loop-name.name-index (record { ref_ptr = (0, 0); now = [] }) c.loop-name-test.true c.loop-name.found c.add_name.new.found added.0 c.loop-name.invariant added.1 added.2

pub returns : goal.returns
returns g c = adds_all c.args.names.now c.args.found.now c.loop-name.name-index c.loop-name-test.false c.loop-name.found c.loop-name.invariant
