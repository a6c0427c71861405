-- The text of a segment fits its buffer.
use native.Mathlib.Omega.{arith}
use Rattle.showing.proofs.Segments.{segment_text, segment_refused}
use Rattle.showing.proofs.print_segment.Goals as goal

pub returns-in-Ok : goal.returns-in-Ok
returns-in-Ok c = segment_text c.args.words.now _ _ _ (λ k _. omega (arith, c.type_inv.words k)) c.requires.words_len_bound c.requires.text_len c.print.ensures _ c.in-Ok.is

pub returns-in-Err : goal.returns-in-Err
returns-in-Err c = segment_refused c.args.words.now _ _ _ (λ k _. omega (arith, c.type_inv.words k)) c.requires.words_len_bound c.requires.text_len c.print.ensures _ c.in-Err.is
