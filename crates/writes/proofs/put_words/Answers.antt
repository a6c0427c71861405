-- k words are written.
use mathlib.Core.Path.{refl, sym, ◌∙◌, ap}
use native.Mathlib.Omega.{arith}
use lib.ListN.{take}
use lib.Seq.{take-length}
use Rattle.writes.specs.Written.{written, written_none, kept_length, all_done}
use Rattle.writes.proofs.Looping.{words_again}
use Rattle.writes.proofs.put_words.Goals as goal

pub loop-k-init : goal.loop-k-init
loop-k-init c = sym (written_none _ _)

pub bounds-out-at : goal.bounds-out-at
bounds-out-at c = omega (arith, kept_length _ _ _ _ c.loop-k.invariant)

pub loop-k-preserved : goal.loop-k-preserved
loop-k-preserved c = words_again _ _ _ _ _ (omega arith) c.loop-k.invariant

pub shape_of-out : goal.shape_of-out
shape_of-out c = kept_length _ _ _ _ c.loop-k.invariant

pub returns : goal.returns
returns c = record { value = refl; out_after = all_done _ _ _ _ (λ k. take k c.args.src.now) _ c.loop-k.invariant (omega arith) (omega arith) ∙ ap (written c.args.out.now c.args.at) (take-length c.args.src.now) }
