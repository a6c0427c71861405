-- What the loop has written so far: k words of another list. Assumes nothing.
use mathlib.Core.Path.{◌≡◌, sym, ◌∙◌}
use mathlib.Core.List.{List}
use Prim.Native.Nat.{ℕ, ◌+◌, ◌<◌}
use native.Mathlib.Numerals.{add-one}
use native.Mathlib.Omega.{arith}
use lib.ListN.{length, get_or, set, take}
use lib.Seq.{length-take-le, take-suc}
use Rattle.writes.specs.Written.{written, one_more}

pub words_again : (l out : List ℕ) (at k : ℕ) (src : List ℕ) → k < length src → out ≡ written l at (take k src)
    → set out (at + k) (get_or src k 0) ≡ written l at (take (k + 1) src)
words_again l out at k src h e =
    one_more l out at k (take k src) (get_or src k 0) e (sym (length-take-le k src (omega arith))) ∙ rw (← take-suc src k 0 h, add-one)
