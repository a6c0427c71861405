-- What is told of a line lies in it.
use native.Mathlib.Omega.{arith}
use Rattle.texts.proofs.Laws.{within_fits, within_names, within_script}
use Rattle.translating.proofs.Files.{names_fits, script_fits}
use Rattle.translating.proofs.say_refused.Goals as goal

pub overflow_add-to : goal.overflow_add-to
overflow_add-to c = record { fits = within_fits c.args.names.now c.args.script.now c.args.line _ c.requires.within (omega (arith, c.requires.short)) (omega (arith, c.requires.short)) }

pub say_refusal-requires : goal.say_refusal-requires
say_refusal-requires c = record { lies = (omega arith, search within_names); text_len_bound = omega arith; fits = search names_fits }

pub say_refusal-requires-in-Script : goal.say_refusal-requires-in-Script
say_refusal-requires-in-Script c = record { lies = (omega arith, search within_script); text_len_bound = omega arith; fits = search script_fits }
