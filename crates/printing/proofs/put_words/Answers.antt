-- After k words the text stands in front, up to `at`, and nothing past its end is altered.
use Prim.Native.Nat.{◌<◌}
use lib.ListN.{length}
use native.Mathlib.Omega.{arith}
use Rattle.packing.specs.Placing.{placed_none}
use Rattle.printing.proofs.Counted.{flag_times}
use Rattle.printing.proofs.Reached.{reached_none, reached_within, reached_next, row_for_piece}
use Rattle.printing.proofs.Put.{piece_on, all_put}
use borrow.Author.Rules.{rules}
use Rattle.printing.proofs.put_words.Goals as goal

pub loop-k-init : goal.loop-k-init
loop-k-init c = (reached_none _, placed_none _ _ _)

pub overflow_mul-row : goal.overflow_mul-row
overflow_mul-row c =
    let few = flag_times _ c.row_at-row.result c.loop-k.invariant.0.flag in
    search (few, rules)

pub put_piece-at-requires : goal.put_piece-at-requires
put_piece-at-requires c =
    let at = c.loop-k.invariant.0 in
    let row = c.row_at-row.ensures.value in
    let pre = c.requires in
    record {
      row_for = row_for_piece _ _ _ _ _ at (omega arith) row;
      word_bound = omega (arith, pre.end_value, reached_within _ _ _ _ _ at (omega arith) row);
      end_in_bounds = omega (arith, pre.end_in_bounds, c.loop-k.invariant.1.sized);
    }

pub overflow_mul-starts : goal.overflow_mul-starts
overflow_mul-starts c =
    let few = flag_times _ c.seconds.result c.loop-k.invariant.0.flag in
    search (few, rules)

pub overflow_sub-starts : goal.overflow_sub-starts
overflow_sub-starts c =
    let few = flag_times _ c.seconds.result c.loop-k.invariant.0.flag in
    omega (arith, c.seconds.ensures.upper_bound)

pub loop-k-preserved : goal.loop-k-preserved
loop-k-preserved c =
    let at = c.loop-k.invariant.0 in
    let row = c.row_at-row.ensures.value in
    let put = c.put_piece-at.ensures in
    let more : c.loop-k.k < length c.args.words.now = omega arith in (
      reached_next _ _ _ _ _ at more row _ _ put.value c.seconds.ensures.value,
      piece_on _ _ _ _ _ _ at _ more row _ _ _ c.loop-k.invariant.1 put.value put.placed,
    )

pub shape_of-text : goal.shape_of-text
shape_of-text c = c.loop-k.invariant.1.sized

pub returns : goal.returns
returns c = all_put _ _ _ _ _ _ c.loop-k.invariant.0 _ (omega arith) c.requires.end_value c.loop-k.invariant.1
