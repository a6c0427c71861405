-- The entries before k are written, and the next base is known.
use mathlib.Core.Path.{◌≡◌}
use Prim.Native.Nat.{◌+◌}
use Rattle.paper.specs.Image.{start}
use Rattle.paper.specs.Plans.{segment_words, fresh_row}
use Rattle.paper.specs.declared.Part.{Part}
use Rattle.fresh_parts.proofs.Repeating.{FirstRows}
use Rattle.fresh_parts.proofs.put_table.Given as goal

abbrev pub invariant-loop-k : goal.invariant-loop-k
invariant-loop-k l = FirstRows (fresh_row l.fn.s l.plan Part.SegmentTable) l.initial.out l.initial.next.0 l.k l.next.0 l.out × (l.base ≡ start l.fn.s Part.Segments + segment_words l.plan l.k)
