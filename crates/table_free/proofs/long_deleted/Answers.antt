-- `table_free::long_deleted`: its three tests are the definition's; the words that they compare fit, so bits are numbers.
-- Assumes nothing.
use Rattle.std.proofs.Common.{arith}
use Rattle.laws.specs.Bits.{plain, eq_bits}
use Rattle.laws.specs.Tests.{all}
use Rattle.table_free.specs.Free.{long_deleted}
use Rattle.table_free.proofs.long_deleted.Goals as goal

pub returns : goal.returns
unfolding long_deleted all
returns c = grind (arith, plain, eq_bits)
