use Rattle.ados_faults.proofs.Common.{flat_map, ◌≡◌, ◌+◌, ◌*◌, ◌≤◌, false, length, slice_index, NEXT_EXTENSION, pointers_of, AreMet, IsChain}
use Rattle.ados_faults.specs.declared.data_summary.TheConstants.{NO_DATA_BLOCKS}
use Rattle.ados_faults.proofs.header_list.HeaderList.list.Given as goal

abbrev pub invariant-loop-passed : goal.invariant-loop-passed
invariant-loop-passed l = record {
  chain : IsChain l.image NEXT_EXTENSION l.self.listed.list.items;
  met : AreMet l.image l.self.listed.has.items l.self.listed.list.items;
  head : slice_index l.self.listed.list.items 0 ≡ l.file;
  counted : length l.self.listed.list.items ≡ l.passed + 1;
  count : l.self.count ≡ length (flat_map (pointers_of l.image) l.self.listed.list.items);
  few : l.self.count ≤ 72 * (l.passed + 1);
  nothing : l.self.rest ≡ NO_DATA_BLOCKS;
  closed : l.self.is_open ≡ false;
}
