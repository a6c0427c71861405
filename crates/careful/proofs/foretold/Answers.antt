-- The copy is the image, so it is as lawful and has the same reply.
use mathlib.Core.Path.{sym}
use native.Mathlib.Omega.{arith}
use Rattle.careful.proofs.Copied.{lawful_words, copy_long, copy_lawful, copy_tells}
use Rattle.careful.proofs.foretold.Goals as goal

pub slice_bounds-tried-end : goal.slice_bounds-tried-end
slice_bounds-tried-end c = omega (arith, lawful_words _ _ c.requires.lawful)

pub slice_bounds-tried-end-2 : goal.slice_bounds-tried-end-2
slice_bounds-tried-end-2 c = sym (copy_long _ _ _ c.requires.lawful (omega arith))

pub copy_from_slice-requires : goal.copy_from_slice-requires
copy_from_slice-requires c = copy_long _ _ _ c.requires.lawful (omega arith)

pub step-requires-clause-lawful : goal.step-requires-clause-lawful
step-requires-clause-lawful c = search copy_lawful

pub returns : goal.returns
returns c = search copy_tells
