-- `kept::kept` meets its contract: a long word is free, a register is told by its digit, and any other word by its number.
use mathlib.Core.Path.{sym, ap, ◌∙◌}
use native.Mathlib.Omega.{arith}
use Rattle.grammar.specs.declared.Kept.{Kept}
use Rattle.kept.specs.Keys.{kept_by}
use Rattle.kept.proofs.Laws.{long_free, told_by_key, register_parts, register_kept}
use Rattle.kept.proofs.kept.Goals as goal

pub returns-then-word-gt-MOST_LETTERS : goal.returns-then-word-gt-MOST_LETTERS
returns-then-word-gt-MOST_LETTERS c = sym (long_free _ c.if-word-gt-MOST_LETTERS.true)

pub bounds-word-1 : goal.bounds-word-1
bounds-word-1 c = omega (arith, register_parts _ (sym c.names_register.ensures ∙ c.if-names_register.true))

pub overflow_sub-word : goal.overflow_sub-word
overflow_sub-word c = omega (arith, register_parts _ (sym c.names_register.ensures ∙ c.if-names_register.true))

pub returns-then-names_register : goal.returns-then-names_register
returns-then-names_register c = ap Kept.Register c.from.ensures ∙ sym (register_kept _ (sym c.names_register.ensures ∙ c.if-names_register.true))

pub returns : goal.returns
returns c = c.order_of.ensures ∙ ap kept_by c.key_of.ensures ∙ sym (told_by_key _ (sym c.names_register.ensures ∙ c.if-names_register.false))
