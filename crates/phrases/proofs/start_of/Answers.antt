-- A line starts as its tokens say, one after another.
use mathlib.Core.Path.{sym, ◌∙◌}
use Rattle.phrases.proofs.Laws.{starts_alone, no_word_label, starts_no_mark, starts_kept, starts_labelled}
use Rattle.phrases.proofs.Tags.{not_word}
use Rattle.phrases.proofs.start_of.Goals as goal

pub returns-in_default : goal.returns-in_default
returns-in_default c = starts_alone c.args.line.now c.next_token-first.result c.next_token-first.ensures.line_value c.next_token-first.ensures.inside (no_word_label c.args.line.now c.next_token-first.result (not_word c.next_token-first.result c.in_default.not-Word))

pub returns-in_default-mark_of : goal.returns-in_default-mark_of
returns-in_default-mark_of c = starts_no_mark c.args.line.now _ _ _ c.next_token.result c.next_token-first.ensures.line_value c.next_token-first.ensures.inside c.in-Word.is c.next_token.ensures.line_value (sym c.mark_of.ensures ∙ c.in_default-mark_of.is)

pub returns-then-is_free : goal.returns-then-is_free
returns-then-is_free c = starts_labelled c.args.line.now c.next_token-first.result _ _ c.next_token.result c.next_token-first.ensures.line_value c.next_token-first.ensures.inside c.in-Word.is c.next_token.ensures.line_value _ c.next_token-then-is_free.result (sym c.mark_of.ensures ∙ c.in-Some.is) (sym c.is_free.ensures ∙ c.if-is_free.true) c.next_token-then-is_free.ensures.line_value c.next_token-then-is_free.ensures.inside

pub returns : goal.returns
returns c = starts_kept c.args.line.now c.next_token-first.result _ _ c.next_token.result c.next_token-first.ensures.line_value c.next_token-first.ensures.inside c.in-Word.is c.next_token.ensures.line_value _ (sym c.mark_of.ensures ∙ c.in-Some.is) (sym c.is_free.ensures ∙ c.if-is_free.false)
