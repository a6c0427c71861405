-- One digit is written, or the digits of the tenth and then one.
use native.Mathlib.Omega.{arith}
use Rattle.writes.specs.Written.{kept_length}
use Rattle.runner_lines.proofs.Digits.{one_made, more_made, one_long, more_long}
use Rattle.runner_lines.proofs.+put_decimal.Goals as goal

pub put_byte-requires : goal.put_byte-requires
put_byte-requires t c = omega (arith, one_long _ c.if-n-lt-TEN.true)

pub returns-then-n-lt-TEN-clause-value : goal.returns-then-n-lt-TEN-clause-value
returns-then-n-lt-TEN-clause-value t c = omega (arith, one_long _ c.if-n-lt-TEN.true, c.put_byte.ensures.value)

pub returns-then-n-lt-TEN-clause-out_after : goal.returns-then-n-lt-TEN-clause-out_after
returns-then-n-lt-TEN-clause-out_after t c = one_made _ _ _ _ c.if-n-lt-TEN.true c.put_byte.ensures.out_after

pub put_decimal-last-requires : goal.put_decimal-last-requires
put_decimal-last-requires t c = (omega arith, omega (arith, more_long _ c.if-n-lt-TEN.false))

pub put_byte-requires-2 : goal.put_byte-requires-2
put_byte-requires-2 t c =
    omega (arith, more_long _ c.if-n-lt-TEN.false, c.put_decimal-last.ensures.value, kept_length _ _ _ _ c.put_decimal-last.ensures.out_after)

pub returns-clause-value : goal.returns-clause-value
returns-clause-value t c =
    omega (arith, more_long _ c.if-n-lt-TEN.false, c.put_decimal-last.ensures.value, c.put_byte-2.ensures.value)

pub returns-clause-out_after : goal.returns-clause-out_after
returns-clause-out_after t c =
    let front = c.put_decimal-last.ensures in
    more_made _ _ _ _ _ _ c.if-n-lt-TEN.false front.out_after front.value c.put_byte-2.ensures.out_after
