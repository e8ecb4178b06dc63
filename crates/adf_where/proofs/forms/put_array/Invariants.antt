use Rattle.adf_where.proofs.Common.{◌≡◌, ◌++◌, take, flat_map}
use Rattle.adf_where.proofs.forms.put_array.Given as goal

-- the elements before this one
abbrev pub invariant-loop-element : goal.invariant-loop-element
invariant-loop-element g l = record {
  before : l.writer.before ≡ l.fn.writer.before;
  tokens : l.writer.tokens ≡ l.initial.writer.tokens ++ flat_map (g.T.Put.tokens_of l.blocks) (take l.element-index l.elements);
}
