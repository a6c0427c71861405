-- The name of the row is its front.
use Rattle.packing.specs.Packed.{bytes_of}
use Rattle.spelling.proofs.Read.{front_made, front_few}
use Rattle.spelling.proofs.front_of.Goals as goal

pub returns : goal.returns
unfolding bytes_of
returns c = record { result_value = front_made _ _ c.parts_of-parts.ensures c.requires; bytes_bound = front_few _ _ c.parts_of-parts.ensures c.requires }
