-- The space is written, and the digits follow it.
use Rattle.runner_lines.proofs.Texts.{two_made}
use Rattle.runner_lines.proofs.put_field.Goals as goal

pub returns : goal.returns
returns c =
    let space = c.put_byte-digits.ensures in
    let digits = c.put_decimal.ensures in
    let m = two_made _ _ _ _ _ _ _ _ space.out_after space.value digits.out_after digits.value in
    record { value = m.0; out_after = m.1 }
