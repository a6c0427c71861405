-- By the length of the list.
use native.Mathlib.Omega.{arith}
use Rattle.printing.proofs.Answered.{measured_many, measured_text}
use Rattle.printing.proofs.print_size.Goals as goal

pub returns-then-words-gt-MOST_PRINTED : goal.returns-then-words-gt-MOST_PRINTED
returns-then-words-gt-MOST_PRINTED c = search measured_many

pub returns : goal.returns
returns c = measured_text _ _ (omega arith) c.text_bytes.ensures
