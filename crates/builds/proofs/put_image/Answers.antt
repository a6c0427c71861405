-- All before the segments is 0 first; then the parts follow one another and make the whole image.
use Rattle.builds.proofs.Growing.{first_room, nothing_built, built_again}
use borrow.Author.Rules.{rules}
use Rattle.builds.proofs.put_image.Goals as goal

pub put_zeros-requires : goal.put_zeros-requires
put_zeros-requires c = search first_room

pub put_tables-status-requires : goal.put_tables-status-requires
put_tables-status-requires c = record { plan = search rules; packed = search rules; built_upto = search nothing_built }

pub put_buffers-ports-requires : goal.put_buffers-ports-requires
put_buffers-ports-requires c = record { plan = search rules; built_upto = built_again _ _ _ _ _ _ c.put_tables-status.ensures }

pub put_rest-requires : goal.put_rest-requires
put_rest-requires c = record { plan = search rules; built_upto = built_again _ _ _ _ _ _ c.put_buffers-ports.ensures }
