-- The event's number is short enough for the room, and the answer or the refusal follows it.
use native.Mathlib.Omega.{arith}
use Rattle.writes.specs.Written.{kept_length}
use Rattle.runner_lines.proofs.Digits.{event_short}
use Rattle.runner_lines.proofs.Texts.{accepted_made, refused_made}
use Rattle.runner_lines.proofs.put_line.Goals as goal

pub put_decimal-next-requires : goal.put_decimal-next-requires
put_decimal-next-requires c = omega (arith, event_short _ c.ranges.n.fits)

pub put_answer-requires : goal.put_answer-requires
put_answer-requires c = omega (arith, event_short _ c.ranges.n.fits, kept_length _ _ _ _ c.put_decimal-next.ensures.out_after)

pub put_refusal-requires : goal.put_refusal-requires
put_refusal-requires c = omega (arith, event_short _ c.ranges.n.fits, kept_length _ _ _ _ c.put_decimal-next.ensures.out_after)

pub returns-in-Ok : goal.returns-in-Ok
returns-in-Ok c =
    let m = accepted_made _ _ _ _ _ _ _ _ c.put_decimal-next.ensures.out_after c.put_decimal-next.ensures.value _ c.in-Ok.is c.put_answer.ensures.value c.put_answer.ensures.out_after in
    record { value = m.0; upper_bound = omega (arith, event_short _ c.ranges.n.fits); out_after = m.1 }

pub returns-in-Err : goal.returns-in-Err
returns-in-Err c =
    let m = refused_made _ _ _ _ _ _ _ _ c.put_decimal-next.ensures.out_after c.put_decimal-next.ensures.value _ c.in-Err.is c.put_refusal.ensures.value c.put_refusal.ensures.out_after in
    record { value = m.0; upper_bound = omega (arith, event_short _ c.ranges.n.fits); out_after = m.1 }
