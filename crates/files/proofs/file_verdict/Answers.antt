-- An odd file is refused; else the words found decide, as a rest follows only a plan that is too long already.
use mathlib.Core.Path.{sym, ◌∙◌, ap}
use Rattle.paper.specs.Numbers.{check_plan}
use Rattle.paper.specs.declared.Refusal.{Refusal}
use Rattle.laws.specs.Checked.{never_fine}
use Rattle.files.proofs.LongPlans.{odd_file, even_file}
use Rattle.files.proofs.file_verdict.Goals as goal

pub returns-then-is_odd : goal.returns-then-is_odd
returns-then-is_odd c = record { decides = odd_file _ _ _ c.is_odd.ensures c.if-is_odd.true; words_value = λ e. absurd (never_fine Refusal.BadPlan e) }

pub returns : goal.returns
returns c = record { decides = even_file _ _ _ c.is_odd.ensures c.if-is_odd.false _ (c.verdict.ensures ∙ ap check_plan c.requires); words_value = λ e. sym c.verdict.ensures ∙ e }
