-- Each test that holds is one digit more.
use Rattle.std.proofs.Common.{arith}
use Rattle.packing.proofs.Decimals.{word_digits}
use Rattle.packing.proofs.digits.Goals as goal

pub returns : goal.returns
returns c = word_digits c.args.n (omega arith) _ _ _ _ c.from.ensures c.from-2.ensures c.from-3.ensures c.from-4.ensures
