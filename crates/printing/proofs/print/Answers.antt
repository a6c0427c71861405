-- The answer of the measure, unless the buffer is too short; only then is the text written.
use native.Mathlib.Omega.{arith}
use Rattle.std.proofs.lemmas.Result.{err_from_is_err_and}
use Rattle.printing.proofs.Answered.{prints_refused, prints_short, prints_text, measured_text_is}
use Rattle.printing.proofs.print.Goals as goal

pub returns-then-text-bytes : goal.returns-then-text-bytes
returns-then-text-bytes c = prints_short _ _ _ c.print_size.ensures _ c.in_ok-bytes.was c.if-text-bytes.true

pub returns-in_err-bytes : goal.returns-in_err-bytes
returns-in_err-bytes c =
    let p = err_from_is_err_and c.from_residual.result c.from_residual.ensures.1 in
    rw (p.1, p.2) (prints_refused _ _ _ c.print_size.ensures _ c.in_err-bytes.was)

pub put_words-requires : goal.put_words-requires
put_words-requires c = record { end_value = measured_text_is _ c.args.text.now _ c.print_size.ensures _ c.in_ok-bytes.was; end_in_bounds = omega arith }

pub returns : goal.returns
returns c = prints_text _ _ _ c.print_size.ensures _ _ c.in_ok-bytes.was c.if-text-bytes.false c.put_words.ensures
