-- Each answer is the law of the token that stands there, of what the calls and the tests say.
use Rattle.std.proofs.Common.{◌<◌, length, arith, rules}
use Rattle.tokens.proofs.Laws.{words, numbers, taken_as, skips, lasts, word_next, number_next, mark_next, comment_next, stray_next, nothing_next}
use Rattle.tokens.proofs.next_token.Goals as goal

pub returns-in_default : goal.returns-in_default
returns-in_default c =
    let p = nothing_next _ _ _ (skips _ _ _ c.end_of-from.ensures) (search rules) in
    record { line_value = p.0; inside = p.1 }

pub returns-then-is_ascii_lowercase : goal.returns-then-is_ascii_lowercase
returns-then-is_ascii_lowercase c =
    let h : c.end_of-from.result < length c.args.line.now = search rules in
    let p = word_next _ _ _ (skips _ _ _ c.end_of-from.ensures) c.in-Some.field-0.now h (search rules) _ (search rules) (lasts _ words _ _ _ (omega arith) c.end_of.ensures) in
    record { line_value = p.0; inside = p.1 }

pub returns-then-is_ascii_digit : goal.returns-then-is_ascii_digit
returns-then-is_ascii_digit c =
    let h : c.end_of-from.result < length c.args.line.now = search rules in
    let p = number_next _ _ _ (skips _ _ _ c.end_of-from.ensures) c.in-Some.field-0.now h (search rules) (search rules) _ (search rules) (lasts _ numbers _ _ _ (omega arith) (taken_as _ _ (λ b t h. search rules) _ _ _ c.end_of-then-is_ascii_digit.ensures)) in
    record { line_value = p.0; inside = p.1 }

pub returns-then-is_a_mark : goal.returns-then-is_a_mark
returns-then-is_a_mark c =
    let p = mark_next _ _ _ (skips _ _ _ c.end_of-from.ensures) c.in-Some.field-0.now (search rules) (search rules) (search rules) (search rules) (search rules) in
    record { line_value = p.0; inside = p.1 }

pub returns-then-b-eq-COMMENT : goal.returns-then-b-eq-COMMENT
returns-then-b-eq-COMMENT c =
    let p = comment_next _ _ _ (skips _ _ _ c.end_of-from.ensures) c.in-Some.field-0.now (search rules) (search rules) c.if-b-eq-COMMENT.true in
    record { line_value = p.0; inside = p.1 }

pub returns : goal.returns
returns c =
    let p = stray_next _ _ _ (skips _ _ _ c.end_of-from.ensures) c.in-Some.field-0.now (search rules) (search rules) (search rules) (search rules) (search rules) c.if-b-eq-COMMENT.false in
    record { line_value = p.0; inside = p.1 }
