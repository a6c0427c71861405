-- Wrong printers, each ruled out by what is promised, on a small list by computation. Assumes nothing.
use Rattle.std.specs.Prelude.{Err, Ok, Result}
use mathlib.Core.Path.{◌≡◌, refl}
use mathlib.Core.List.{List, [], ◌∷◌, ◌++◌}
use Prim.Native.Nat.{ℕ}
use native.Mathlib.Omega.{arith}
use lib.ListN.{length, take, drop}
use Rattle.paper.specs.Runner.{decimal, newline}
use Rattle.grammar.specs.Tokens.{bytes}
use Rattle.grammar.specs.Kept.{kept_words}
use Rattle.grammar.specs.Printing.{named_in, named_as, printed, measured, fitting, printing, inscribed}
use Rattle.grammar.specs.Promises.{Prints}
use Rattle.grammar.specs.declared.Refusal.{Refusal}

-- a printer, and that it does what is promised for all lists and buffers
abbrev pub Printer : Type 0
Printer = List ℕ → List ℕ → (Result ℕ Refusal) × List ℕ

abbrev pub Keeps : Printer → Type 0
Keeps f = (words buffer : List ℕ) → Prints words buffer (f words buffer).0 (f words buffer).1

-- what two small lists come to: `return`, and 7 with and without room
pub record Small : Type 0 where
  pub order : printing (4352 ∷ []) 7 ≡ Ok 7
  pub number : printing (7 ∷ []) 2 ≡ Ok 2
  pub number_text : printed (7 ∷ []) ≡ 55 ∷ 10 ∷ []
  pub no_room : printing (7 ∷ []) 1 ≡ Err Refusal.NoRoom

small : Small
unfolding bytes kept_words decimal named_in named_as printed measured printing
small = record { order = refl; number = refl; number_text = refl; no_room = refl }

-- it prints every word as a number: `return` has a name
unfoldable pub in_digits : List ℕ → List ℕ
in_digits [] = []
in_digits (w ∷ ws) = decimal w ++ (newline ++ in_digits ws)

abbrev pub numbering : Printer
numbering words buffer =
    let answer = fitting (Ok (length (in_digits words))) (length buffer) in
    (answer, inscribed answer (in_digits words) buffer)

pub not_numbering : Keeps numbering → ⊥
unfolding decimal in_digits
not_numbering k =
    let e : ◌≡◌ {A = ℕ} 5 7 = rw small.order at (k (4352 ∷ []) (0 ∷ 0 ∷ 0 ∷ 0 ∷ 0 ∷ 0 ∷ 0 ∷ [])).counted in
    omega arith

-- it answers right, and writes what fits before it refuses: no byte of `7` is to be written where one byte has room
abbrev pub hasty : Printer
hasty words buffer = (printing words (length buffer), take (length buffer) (printed words) ++ drop (length (printed words)) buffer)

pub not_hasty : Keeps hasty → ⊥
not_hasty k =
    let e : ◌≡◌ {A = List ℕ} (55 ∷ []) (0 ∷ []) = rw (small.no_room, small.number_text) at (k (7 ∷ []) (0 ∷ [])).left in
    let z : ◌≡◌ {A = ℕ} 55 0 = cc in
    omega arith

-- it answers right, and writes nothing
abbrev pub idle : Printer
idle words buffer = (printing words (length buffer), buffer)

pub not_idle : Keeps idle → ⊥
not_idle k =
    let e : ◌≡◌ {A = List ℕ} (0 ∷ 0 ∷ []) (55 ∷ 10 ∷ []) = rw (small.number, small.number_text) at (k (7 ∷ []) (0 ∷ 0 ∷ [])).left in
    let z : ◌≡◌ {A = ℕ} 0 55 = cc in
    omega arith
