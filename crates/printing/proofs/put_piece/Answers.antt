-- A number as one number of bytes, an order as two.
use native.Mathlib.Omega.{arith}
use Rattle.printing.proofs.Put.{number_fits, number_put, own_row, own_row_few, front_fits, tail_fits, order_put}
use Rattle.printing.proofs.put_piece.Goals as goal

pub put_packed-requires : goal.put_packed-requires
put_packed-requires c =
    let pre = c.requires in
    record { bytes_bound = c.number.ensures.bytes_bound; bytes_bound_2 = number_fits _ _ _ _ _ c.if-row-eq0.true c.number.ensures.result_value pre.word_bound; end_in_bounds = pre.end_in_bounds }

pub returns-then-row-eq0 : goal.returns-then-row-eq0
returns-then-row-eq0 c =
    let put = c.put_packed.ensures in
    let w = number_put _ _ _ _ _ c.if-row-eq0.true c.number.ensures.result_value _ _ _ put.value put.placed in
    record { value = w.0; placed = w.1 }

pub front_of-requires : goal.front_of-requires
front_of-requires c = own_row_few _ _ 0 0 c.if-row-eq0.false c.requires.row_for

pub put_packed-tail-requires : goal.put_packed-tail-requires
put_packed-tail-requires c =
    let pre = c.requires in
    let front = c.front_of.ensures in
    record { bytes_bound = front.bytes_bound; bytes_bound_2 = front_fits _ _ _ _ c.if-row-eq0.false pre.row_for _ front.result_value pre.word_bound; end_in_bounds = pre.end_in_bounds }

pub tail_of-requires : goal.tail_of-requires
tail_of-requires c = own_row _ _ 0 0 c.if-row-eq0.false c.requires.row_for

pub put_packed-requires-2 : goal.put_packed-requires-2
put_packed-requires-2 c =
    let pre = c.requires in
    let tail = c.tail_of.ensures in
    let put = c.put_packed-tail.ensures in
    record {
      bytes_bound = tail.bytes_bound;
      bytes_bound_2 = tail_fits _ _ _ _ c.if-row-eq0.false pre.row_for _ _ _ c.front_of.ensures.result_value tail.result_value put.value pre.word_bound;
      end_in_bounds = omega (arith, put.placed.sized);
    }

pub returns : goal.returns
returns c =
    let pre = c.requires in
    let put = c.put_packed-tail.ensures in
    let last = c.put_packed-2.ensures in
    let w =
    order_put _ _ _ _ c.if-row-eq0.false pre.row_for _ _ _ _ _ _ _ c.front_of.ensures.result_value c.tail_of.ensures.result_value
    put.value put.placed last.value last.placed
    in
    record { value = w.0; placed = w.1 }
