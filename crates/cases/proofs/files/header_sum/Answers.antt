use Rattle.std.proofs.Common.{arith}
use Rattle.cases.proofs.files.header_sum.Goals as goal

pub sum-requires : goal.sum-requires
sum-requires c = (c.requires.lawful.places.headers_inside 0 (omega arith)).1
