-- The part of the list that is filled is n words long.
use Rattle.std.proofs.Common.{◌∙◌, ℕ, ap, arith, replicate, length-take, length-drop}
use Rattle.std.proofs.lemmas.List.{length-replicate}
use Rattle.writes.specs.Written.{part_written}
use Rattle.writes.proofs.put_zeros.Goals as goal

pub returns-clause-out_after : goal.returns-clause-out_after
returns-clause-out_after c =
    let filled = c.fill.ensures.after (λ y h. h) in
    part_written _ _ _ _ _ (filled ∙ ap (λ k. replicate k 0) (simp (length-take, length-drop) (omega arith))) (omega (arith, length-replicate {A = ℕ})) (omega arith)
