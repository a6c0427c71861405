-- Both paths fit their arrays, and only as much of each as was put together is lent.
use mathlib.Core.Path.{sym}
use lib.Seq.{length-take-le}
use borrow.Author.Rules.{rules}
use Rattle.runner_cases.proofs.run_case.Goals as goal

pub slice_bounds-run_files-end : goal.slice_bounds-run_files-end
slice_bounds-run_files-end c = sym (length-take-le _ _ (search rules))

pub slice_bounds-run_files-end-2 : goal.slice_bounds-run_files-end-2
slice_bounds-run_files-end-2 c = sym (length-take-le _ _ (search rules))
