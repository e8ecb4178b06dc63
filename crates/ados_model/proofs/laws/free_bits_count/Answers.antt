use Rattle.ados_model.proofs.Counting.{free_bits_count}
use Rattle.ados_model.proofs.laws.free_bits_count.Goals as goal

pub returns : goal.returns
returns c = free_bits_count
