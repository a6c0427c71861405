-- The tail of the word's row, with the word's registers.
use Rattle.std.proofs.Common.{rules}
use Rattle.packing.specs.Packed.{bytes_of}
use Rattle.spelling.proofs.Read.{row_is_few, registers_small, tail_small, tail_made, tail_few}
use Rattle.spelling.proofs.tail_of.Goals as goal

pub parts_of-parts-requires : goal.parts_of-parts-requires
parts_of-parts-requires c = row_is_few _ _ c.requires

pub overflow_mul-result-2 : goal.overflow_mul-result-2
overflow_mul-result-2 c =
    let small = registers_small _ _ c.requires _ c.parts_of-parts.ensures in
    search (small, rules)

pub overflow_add-result-2 : goal.overflow_add-result-2
overflow_add-result-2 c =
    let small = tail_small _ _ c.requires _ c.parts_of-parts.ensures in
    search (small, rules)

pub returns : goal.returns
unfolding bytes_of
returns c =
    record {
      result_value = tail_made _ _ c.requires _ c.parts_of-parts.ensures;
      bytes_bound = tail_few _ _ c.parts_of-parts.ensures (row_is_few _ _ c.requires);
    }
