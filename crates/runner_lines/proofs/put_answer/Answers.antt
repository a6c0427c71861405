-- The kind, the task and the line's end follow one another, and both numbers are short enough for the room.
use mathlib.Core.Path.{refl}
use native.Mathlib.Omega.{arith}
use Rattle.laws.specs.Decimal.{word_short}
use Rattle.writes.specs.Written.{kept_length}
use Rattle.runner_lines.proofs.Digits.{kind_short}
use Rattle.runner_lines.proofs.Texts.{answer_made}
use Rattle.runner_lines.proofs.put_answer.Goals as goal

pub put_field-next-requires : goal.put_field-next-requires
put_field-next-requires c = omega (arith, kind_short c.args.a _ c.kind_of-kind.ensures, word_short _ _ c.task_of-task.type_inv refl)

pub put_field-end-requires : goal.put_field-end-requires
put_field-end-requires c = omega (arith, kind_short c.args.a _ c.kind_of-kind.ensures, word_short _ _ c.task_of-task.type_inv refl, kept_length _ _ _ _ c.put_field-next.ensures.out_after)

pub put_byte-requires : goal.put_byte-requires
put_byte-requires c = omega (arith, kind_short c.args.a _ c.kind_of-kind.ensures, word_short _ _ c.task_of-task.type_inv refl, kept_length _ _ _ _ c.put_field-next.ensures.out_after, kept_length _ _ _ _ c.put_field-end.ensures.out_after)

pub returns : goal.returns
returns c =
    let m = answer_made _ _ _ _ _ _ _ _ _ _ c.put_field-next.ensures.out_after c.put_field-next.ensures.value c.put_field-end.ensures.out_after c.put_field-end.ensures.value c.put_byte.ensures.out_after c.put_byte.ensures.value c.args.a c.kind_of-kind.ensures c.task_of-task.ensures in
    record { value = m.0; upper_bound = omega (arith, kind_short c.args.a _ c.kind_of-kind.ensures, word_short _ _ c.task_of-task.type_inv refl); out_after = m.1 }
