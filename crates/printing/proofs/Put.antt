-- What is put into the text for a word, as one or two numbers of bytes, and for all words. Assumes nothing.
use mathlib.Core.Path.{◌≡◌, sym, ap, ◌∙◌}
use mathlib.Core.Logic.{◌≢◌, ⊎_elim}
use mathlib.Core.List.{List, ◌++◌}
use Prim.Native.Nat.{ℕ, ◌+◌, ◌*◌, ◌<◌, ◌≤◌}
use native.Mathlib.Omega.{arith}
use lib.ListN.{length, get_or, take, drop, length-append}
use lib.Seq.{length-take-le, take_all}
use Rattle.paper.specs.Runner.{decimal, newline}
use Rattle.packing.specs.Packed.{bytes_of, Placed}
use Rattle.packing.specs.Placing.{bytes_length, placed_then, placed_text}
use Rattle.packing.specs.declared.Packed.{Packed}
use Rattle.rows.specs.Rows.{row_of, rows_end, front}
use Rattle.spelling.specs.Pieces.{tail_at}
use Rattle.spelling.specs.Spelt.{row_few}
use Rattle.grammar.specs.Printing.{printed}
use Rattle.printing.specs.Pieces.{piece, RowFor, row_first, Inscribed}
use Rattle.printing.proofs.Counted.{order_in_parts}
use Rattle.printing.proofs.Reached.{Reached, reached_front, reached_all}

-- a number that holds a list holds as many bytes
holds : (p : Packed) (l : List ℕ) → bytes_of p ≡ l → p.bytes ≡ length l
holds p l e = sym (bytes_length p) ∙ ap length e

-- a word that is written as a number
module _ (row w at end : ℕ) (p : Packed) (z : row ≡ 0) (e : bytes_of p ≡ decimal w ++ newline) where
  is_piece : bytes_of p ≡ piece row w
  unfolding piece
  is_piece = e ∙ ap (λ r. piece r w) (sym z)

  pub number_fits : at + length (piece row w) ≤ end → at + p.bytes ≤ end
  number_fits h = rw (holds p (piece row w) is_piece) h

  pub number_put : (o out : List ℕ) (next : ℕ) → next ≡ at + length (bytes_of p) → Placed o at (bytes_of p) end out
      → (next ≡ at + length (piece row w)) × Placed o at (piece row w) end out
  number_put o out next en put = rw (← is_piece) (en, put)

-- a word that is written by its row: the front, and then the tail
module _ (row w at end : ℕ) (ne : row ≢ 0) (f : RowFor row w) where
  pub own_row : row ≡ row_of w
  own_row = ⊎_elim (λ z. absurd (ne z)) (λ e. e) f

  pub own_row_few : row < rows_end
  own_row_few = rw own_row (row_few w)

  in_parts : (p q : Packed) → bytes_of p ≡ front row → bytes_of q ≡ tail_at w → bytes_of p ++ bytes_of q ≡ piece row w
  in_parts p q ep eq = rw (ep, eq) (sym (order_in_parts row w ne f))

  pub front_fits : (p : Packed) → bytes_of p ≡ front row → at + length (piece row w) ≤ end → at + p.bytes ≤ end
  front_fits p ep h =
      let n = ap length (order_in_parts row w ne f) ∙ length-append (front row) (tail_at w) in
      omega (arith, n, holds p (front row) ep)

  pub tail_fits : (p q : Packed) (next : ℕ) → bytes_of p ≡ front row → bytes_of q ≡ tail_at w → next ≡ at + length (bytes_of p) → at + length (piece row w) ≤ end
      → next + q.bytes ≤ end
  tail_fits p q next ep eq en h =
      let n = ap length (sym (in_parts p q ep eq)) ∙ length-append (bytes_of p) (bytes_of q) in
      omega (arith, n, bytes_length q)

  pub order_put : (p q : Packed) (o mid out : List ℕ) (next last : ℕ) → bytes_of p ≡ front row → bytes_of q ≡ tail_at w
      → next ≡ at + length (bytes_of p) → Placed o at (bytes_of p) end mid → last ≡ next + length (bytes_of q) → Placed mid next (bytes_of q) end out
      → (last ≡ at + length (piece row w)) × Placed o at (piece row w) end out
  order_put p q o mid out next last ep eq en one el two =
      let n = ap length (sym (in_parts p q ep eq)) ∙ length-append (bytes_of p) (bytes_of q) in
      (omega (arith, n), rw (← in_parts p q ep eq) (placed_then o mid out at next end (bytes_of p) (bytes_of q) one en two))

-- the text so far with the next piece after it, and the whole text
module _ (ws o : List ℕ) (k starts at end : ℕ) (r : Reached ws k starts at) where
  pub piece_on : (row : ℕ) (h : k < length ws) (e : row ≡ row_first (drop k ws)) (mid out : List ℕ) (next : ℕ) → Placed o 0 (take at (printed ws)) end mid
      → next ≡ at + length (piece (row * starts) (get_or ws k 0)) → Placed mid at (piece (row * starts) (get_or ws k 0)) end out
      → Placed o 0 (take next (printed ws)) end out
  piece_on row h e mid out next one en two =
      let long : length (take at (printed ws)) ≡ at = length-take-le at (printed ws) r.within in
      let all = placed_then o mid out 0 at end (take at (printed ws)) _ one (omega (arith, long)) two in
      rw (en, reached_front ws k starts at row r h e) all

  pub all_put : (out : List ℕ) → length ws ≤ k → end ≡ length (printed ws) → Placed o 0 (take at (printed ws)) end out → Inscribed ws o out
  all_put out h e put =
      let whole : take at (printed ws) ≡ printed ws = take_all at (printed ws) (omega (arith, reached_all ws k starts at r h)) in
      placed_text o out (printed ws) end e (rw whole at put)
