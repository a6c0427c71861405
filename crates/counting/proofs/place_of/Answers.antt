-- A column is below 6, so neither the product nor the sum wraps.
use mathlib.Core.Path.{refl}
use native.Mathlib.Omega.{arith}
use Rattle.counting.specs.Growing.{columns}
use Rattle.counting.proofs.Counting.{column_tag}
use Rattle.counting.proofs.place_of.Goals as goal

pub overflow_add-result : goal.overflow_add-result
overflow_add-result c = omega (arith, columns c.args.h, column_tag c.args.h)

pub returns : goal.returns
returns c = rw (column_tag c.args.h) refl
