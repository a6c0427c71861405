-- A line gives what its tokens say, one after another.
use mathlib.Core.Path.{sym, ◌∙◌}
use Rattle.grammar.specs.Lines.{names_line}
use Rattle.phrases.proofs.Laws.{no_token, names_no_word, names_kept, names_no_mark, names_sum}
use Rattle.phrases.proofs.Tags.{not_word}
use Rattle.phrases.proofs.names_line.Goals as goal

pub returns-then-ends-clause-line_value : goal.returns-then-ends-clause-line_value
unfolding names_line
returns-then-ends-clause-line_value c = rw (c.next_token-first.ensures.line_value, no_token c.next_token-first.result (sym c.ends.ensures ∙ c.if-ends.true))

pub returns-in_default : goal.returns-in_default
returns-in_default c = record { line_value = rw c.next_token-first.ensures.line_value (names_no_word _ c.args.line.now c.next_token-first.result (sym c.ends.ensures ∙ c.if-ends.false) (not_word c.next_token-first.result c.in_default.not-Word)); names_inside = tt }

pub returns-then-not-is_free-clause-line_value : goal.returns-then-not-is_free-clause-line_value
returns-then-not-is_free-clause-line_value c = rw (c.next_token-first.ensures.line_value, c.in-Word.is) (names_kept _ _ _ (sym c.is_free.ensures ∙ c.if-not-is_free.true))

pub returns-in_err-after-clause-line_value : goal.returns-in_err-after-clause-line_value
returns-in_err-after-clause-line_value c =
    rw (c.from_residual.ensures, c.next_token-first.ensures.line_value, c.in-Word.is, c.next_token.ensures.line_value) (names_no_mark _ c.args.line.now c.next_token.result _ (sym c.mark_of.ensures ∙ c.in_err-after.was))

pub returns-in_err-v-clause-line_value : goal.returns-in_err-v-clause-line_value
returns-in_err-v-clause-line_value c =
    rw (c.from_residual-in_err-v.ensures, c.next_token-first.ensures.line_value, c.in-Word.is, c.next_token.ensures.line_value)
    (names_sum _ c.args.line.now c.next_token.result _ _ c.next_token-2.result (sym c.is_free.ensures ∙ c.if-not-is_free.false) (sym c.mark_of.ensures ∙ c.in_ok-after.was) c.next_token-2.ensures.line_value ∙ rw (c.sum_of.ensures, c.in_err-v.was))

pub returns-clause-line_value : goal.returns-clause-line_value
returns-clause-line_value c =
    rw (c.next_token-first.ensures.line_value, c.in-Word.is, c.next_token.ensures.line_value)
    (names_sum _ c.args.line.now c.next_token.result _ _ c.next_token-2.result (sym c.is_free.ensures ∙ c.if-not-is_free.false) (sym c.mark_of.ensures ∙ c.in_ok-after.was) c.next_token-2.ensures.line_value ∙ rw (c.sum_of.ensures, c.in_ok-v.was))
