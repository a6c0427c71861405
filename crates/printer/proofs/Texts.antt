-- A text that is printed lies in its buffer, and an image that is not refused is sound. Assumes nothing.
use Rattle.std.specs.Prelude.{Ok, Result, Err}
use mathlib.Core.Path.{◌≡◌, refl, sym, ◌∙◌}
use mathlib.Core.Bool.{Bool, true, false}
use mathlib.Core.List.{List}
use Prim.Native.Nat.{ℕ, ◌≤◌}
use native.Mathlib.Omega.{arith}
use lib.Dec.{leb}
use lib.ListN.{length, length-append}
use Rattle.paper.specs.Numbers.{check}
use Rattle.paper.specs.declared.Shape.{Shape}
use Rattle.laws.specs.Checked.{good_sound}
use Rattle.laws.specs.Events.{good, inspected_lawful}
use Rattle.laws.specs.Sound.{Sound}
use Rattle.inspect.specs.Inspects.{Inspects}
use Rattle.grammar.specs.Printing.{printed, most_printed, measured, fitting, printing, inscribed}
use Rattle.grammar.specs.Promises.{Prints}
use Rattle.grammar.specs.declared.Refusal.{Refusal}

-- a text of so many bytes by a test, or 16
abbrev bytes_if : Bool → ℕ → Result ℕ Refusal
bytes_if t n = elim t [ true ↦ Ok n | false ↦ Err Refusal.NoRoom ]

module _ (text buffer : List ℕ) (n : ℕ) where
  fits : (t : Bool) → bytes_if t (length text) ≡ Ok n → n ≤ length (inscribed (bytes_if t (length text)) text buffer)
  fits true e = let k : length text ≡ n = cc in rw length-append (omega (arith, k))
  fits false e = absurd (let z : ◌≡◌ {A = ℕ} 0 1 = cc in omega arith)

  fits_by : (t : Bool) → fitting (bytes_if t (length text)) (length buffer) ≡ Ok n
      → n ≤ length (inscribed (fitting (bytes_if t (length text)) (length buffer)) text buffer)
  fits_by true e = fits (leb (length text) (length buffer)) e
  fits_by false e = absurd (let z : ◌≡◌ {A = ℕ} 0 1 = cc in omega arith)

pub bytes_in : (ws buffer after : List ℕ) (told : Result ℕ Refusal) (n : ℕ) → Prints ws buffer told after → told ≡ Ok n → n ≤ length after
unfolding printing measured
bytes_in ws buffer after told n p e = rw p.left (fits_by (printed ws) buffer n (leb (length ws) most_printed) (sym p.answers ∙ e))

-- an image that is not refused
pub inspected_sound : (s : Shape) (im : List ℕ) → Inspects im (Ok s) → Sound s im
inspected_sound s im h = good_sound s im (good (inspected_lawful s im (check im) refl h.1 h.0))
