-- The row of the word's sixteenth, where the field b is in range.
use Rattle.std.proofs.Common.{arith}
use Rattle.spelling.proofs.Read.{row_read, row_taken, row_none}
use Rattle.spelling.proofs.row_of.Goals as goal

pub parts_of-requires : goal.parts_of-requires
parts_of-requires c = row_read _ _ _ c.sixteenth.ensures c.row_at-row.ensures

pub returns-then-word-parts_of : goal.returns-then-word-parts_of
returns-then-word-parts_of c =
    record {
      value = row_taken _ _ _ c.sixteenth.ensures c.row_at-row.ensures _ c.parts_of.ensures c.if-word-parts_of.true;
      upper_bound = row_read _ _ _ c.sixteenth.ensures c.row_at-row.ensures;
    }

pub returns : goal.returns
returns c =
    record {
      value = row_none _ _ _ c.sixteenth.ensures c.row_at-row.ensures _ c.parts_of.ensures c.if-word-parts_of.false;
      upper_bound = omega arith;
    }
