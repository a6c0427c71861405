-- The count of the row, or that of the digits.
use Prim.Native.Nat.{◌+◌, ◌-◌, ◌*◌}
use native.Mathlib.Omega.{arith}
use Rattle.laws.specs.Decimal.{word_short}
use Rattle.printing.proofs.Counted.{flag_times, by_row_flag, counted, counts_few}
use borrow.Author.Rules.{rules}
use Rattle.printing.proofs.piece_bytes.Goals as goal

pub overflow_mul-order : goal.overflow_mul-order
overflow_mul-order c =
    let flag = by_row_flag _ _ _ c.requires.starts_bound c.order_row.ensures in
    search (flag, rules)

pub overflow_mul-result : goal.overflow_mul-result
overflow_mul-result c =
    let flag = by_row_flag _ _ _ c.requires.starts_bound c.order_row.ensures in
    let few = flag_times _ c.row_bytes.result flag in
    search (few, rules)

pub overflow_sub-result : goal.overflow_sub-result
overflow_sub-result c = by_row_flag _ _ _ c.requires.starts_bound c.order_row.ensures

pub overflow_add-result : goal.overflow_add-result
overflow_add-result c =
    let short = word_short _ _ c.ranges.word.fits c.digits.ensures in
    search (short, rules)

pub overflow_mul-result-2 : goal.overflow_mul-result-2
overflow_mul-result-2 c =
    let short = word_short _ _ c.ranges.word.fits c.digits.ensures in
    let few = flag_times (1 - c.args.starts * c.order_row.result) (c.digits.result + 1) (omega arith) in
    search (few, short, rules)

pub overflow_add-result-2 : goal.overflow_add-result-2
overflow_add-result-2 c =
    let flag = by_row_flag _ _ _ c.requires.starts_bound c.order_row.ensures in
    let short = word_short _ _ c.ranges.word.fits c.digits.ensures in
    let few = counts_few _ _ _ flag c.row_bytes.ensures.upper_bound short in
    search (few, rules)

pub returns : goal.returns
returns c =
    let flag = by_row_flag _ _ _ c.requires.starts_bound c.order_row.ensures in
    let short = word_short _ _ c.ranges.word.fits c.digits.ensures in
    record {
      value = counted _ _ _ _ _ _ c.requires.starts_bound c.requires.row_for c.order_row.ensures c.row_bytes.ensures.value c.digits.ensures;
      upper_bound = counts_few _ _ _ flag c.row_bytes.ensures.upper_bound short;
    }
