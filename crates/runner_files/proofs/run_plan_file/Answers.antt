-- The start of the file lies in its buffer.
use borrow.Author.Rules.{rules}
use Rattle.runner_files.proofs.Turning.{plan_loaded}
use Rattle.runner_files.proofs.run_plan_file.Goals as goal

pub run_loaded_plan-requires : goal.run_loaded_plan-requires
run_loaded_plan-requires c = search (rules, plan_loaded)
