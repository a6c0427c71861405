-- At most five digits: those that are not needed are shifted away.
use native.Mathlib.Omega.{arith}
use Rattle.laws.specs.Decimal.{word_short}
use Rattle.packing.specs.Packed.{bytes_of}
use Rattle.packing.proofs.Bytes.{number_bytes}
use Rattle.packing.proofs.number.Goals as goal

pub overflow_sub-result : goal.overflow_sub-result
overflow_sub-result c = word_short c.args.n _ (omega arith) c.digits-count.ensures

pub overflow_add-result : goal.overflow_add-result
overflow_add-result c = omega (arith, word_short c.args.n _ (omega arith) c.digits-count.ensures)

pub returns : goal.returns
unfolding bytes_of
returns c =
    let n = c.args.n in
    record {
      result_value = number_bytes n _ _ (omega arith) c.digits-count.ensures c.five_digits.ensures;
      bytes_bound = omega (arith, word_short n _ (omega arith) c.digits-count.ensures);
    }
