-- The image stays good, the buffers keep their lengths, and there are numbers left for the events of the buffers to come.
use mathlib.Core.Path.{◌≡◌}
use Prim.Native.Nat.{◌+◌, ◌*◌, ◌<◌, ◌≤◌}
use lib.ListN.{length}
use Rattle.laws.specs.Events.{Lawful}
use Rattle.runner_files.proofs.taking.run_events.Given as goal

abbrev pub invariant-loop-turn : goal.invariant-loop-turn
invariant-loop-turn g l = (Lawful l.s l.im × (length l.im ≡ length l.initial.im)) × ((length l.buffer ≡ 24576) × (length l.text ≡ 131104)) × ((l.kept < 6) × (l.n ≤ 4096 * l.turn + 1))
