-- The text, the number and the line's end follow one another, and the number is short enough for the room.
use native.Mathlib.Omega.{arith}
use Rattle.writes.specs.Written.{kept_length}
use Rattle.runner_lines.proofs.Digits.{number_short}
use Rattle.runner_lines.proofs.Texts.{refusal_made}
use Rattle.runner_lines.proofs.put_refusal.Goals as goal

pub put_field-end-requires : goal.put_field-end-requires
put_field-end-requires c = omega (arith, number_short c.args.r _ c.from.ensures, kept_length _ _ _ _ c.put_text-number.ensures.out_after)

pub put_byte-requires : goal.put_byte-requires
put_byte-requires c = omega (arith, number_short c.args.r _ c.from.ensures, kept_length _ _ _ _ c.put_text-number.ensures.out_after, kept_length _ _ _ _ c.put_field-end.ensures.out_after)

pub returns : goal.returns
returns c =
    let m = refusal_made _ _ _ _ _ _ _ _ _ c.put_text-number.ensures.out_after c.put_text-number.ensures.value c.put_field-end.ensures.out_after c.put_field-end.ensures.value c.put_byte.ensures.out_after c.put_byte.ensures.value c.args.r c.from.ensures in
    record { value = m.0; upper_bound = omega (arith, number_short c.args.r _ c.from.ensures); out_after = m.1 }
