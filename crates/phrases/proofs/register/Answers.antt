-- A register is a word that is kept as one.
use Rattle.grammar.specs.Lines.{register}
use Rattle.phrases.proofs.Laws.{register_small, no_word_register, no_register}
use Rattle.phrases.proofs.Tags.{not_word, not_register}
use Rattle.phrases.proofs.register.Goals as goal

pub returns-in_default : goal.returns-in_default
returns-in_default c = record { t_value = no_word_register c.args.line.now c.args.t (not_word c.args.t c.in_default.not-Word); operand_inside = tt }

pub returns-in_default-kept : goal.returns-in_default-kept
unfolding register
returns-in_default-kept c = record { t_value = rw (c.in-Word.is, ← c.kept.ensures) (no_register c.kept.result _ (not_register c.kept.result c.in_default-kept.not-Register)); operand_inside = tt }

pub returns : goal.returns
unfolding register
returns c = record { t_value = rw (c.in-Word.is, ← c.kept.ensures, c.in-Register.is, c.next_token.ensures.line_value); operand_inside = (register_small _ _ _ c.kept.ensures c.in-Register.is, c.next_token.ensures.inside) }
