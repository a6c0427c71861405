-- What the two calls answer, by the length of the list and of the buffer. Assumes nothing.
use Rattle.std.specs.Prelude.{Err, Ok, Result}
use mathlib.Core.Path.{◌≡◌, refl, sym, ap, ◌∙◌}
use mathlib.Core.List.{List}
use Prim.Native.Nat.{ℕ, ◌<◌, ◌≤◌}
use borrow.Author.Tests.{le-leb, lt-leb}
use lib.ListN.{length}
use Rattle.grammar.specs.Printing.{printed, most_printed, measured, printing, fitting, inscribed, printing_number, printing_bytes}
use Rattle.grammar.specs.Promises.{Prints, MeasuresText}
use Rattle.grammar.specs.declared.Refusal.{Refusal}
use Rattle.print_laws.proofs.Proved.{measured_is}
use Rattle.printing.specs.Pieces.{Inscribed}

-- an answer that is the promised one has its numbers
measures : (ws : List ℕ) (a : Result ℕ Refusal) → a ≡ measured ws → MeasuresText ws a
measures ws a e = record { answers = e; numbered = ap printing_number e; counted = ap printing_bytes e }

prints : (ws o out : List ℕ) (a : Result ℕ Refusal) → a ≡ printing ws (length o) → out ≡ inscribed a (printed ws) o → Prints ws o a out
prints ws o out a e l =
    record { answers = e; numbered = ap printing_number e; counted = ap printing_bytes e; left = l ∙ ap (λ b. inscribed b (printed ws) o) e }

-- a list that is too long
pub measured_many : (ws : List ℕ) → most_printed < length ws → MeasuresText ws (Err Refusal.NoRoom)
unfolding measured
measured_many ws h = measures ws _ (rw (lt-leb (length ws) most_printed h, measured))

pub measured_text : (ws : List ℕ) (n : ℕ) → length ws ≤ most_printed → n ≡ length (printed ws) → MeasuresText ws (Ok n)
unfolding measured
measured_text ws n h e = measures ws _ (rw (le-leb (length ws) most_printed h, measured) (ap Ok e))

-- the answer to a list that was measured: refused with it, refused by a short buffer, or the text
module _ (ws o : List ℕ) (a : Result ℕ Refusal) (m : MeasuresText ws a) where
  pub prints_refused : (r : Refusal) → a ≡ Err r → Prints ws o (Err r) o
  unfolding printing
  prints_refused r e = prints ws o o _ (ap (λ b. fitting b (length o)) (sym e ∙ m.answers)) refl

  pub prints_short : (n : ℕ) → a ≡ Ok n → length o < n → Prints ws o (Err Refusal.NoRoom) o
  unfolding printing
  prints_short n e h =
      prints ws o o _ (sym (ap (λ b. fitting b (length o)) (sym m.answers ∙ e) ∙ rw (lt-leb n (length o) h, fitting))) refl

  pub prints_text : (out : List ℕ) (n : ℕ) → a ≡ Ok n → n ≤ length o → Inscribed ws o out → Prints ws o (Ok n) out
  unfolding printing
  prints_text out n e h left =
      prints ws o out _ (sym (ap (λ b. fitting b (length o)) (sym m.answers ∙ e) ∙ rw (le-leb n (length o) h, fitting))) left

  pub measured_text_is : (n : ℕ) → a ≡ Ok n → n ≡ length (printed ws)
  measured_text_is n e = (measured_is ws n (sym e ∙ m.answers)).1
