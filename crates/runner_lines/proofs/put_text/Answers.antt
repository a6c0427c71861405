-- The text is copied into its place.
use native.Mathlib.Omega.{arith}
use Rattle.runner_lines.proofs.Texts.{text_copied}
use Rattle.runner_lines.proofs.put_text.Goals as goal

pub returns-clause-out_after : goal.returns-clause-out_after
returns-clause-out_after c = text_copied _ _ _ _ _ c.requires (omega arith) c.copy_from_slice.ensures.after
