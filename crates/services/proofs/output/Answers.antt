-- The word, then the buffer tell whether the task faults, waits or is done, and nobody is woken.
use Rattle.services.proofs.Needs.{not_full, then_some, too_large, small_enough, comes_to_wait, comes_to_pass, put_out}
use mathlib.Core.Path.{refl}
use borrow.Author.Rules.{rules}
use Rattle.std.proofs.Common.{arith}
use Rattle.services.proofs.output.Goals as goal

pub returns-then-w-gt-MOST_CHARACTER : goal.returns-then-w-gt-MOST_CHARACTER
returns-then-w-gt-MOST_CHARACTER c = record { im_after = search too_large; sound_2 = search rules }

pub returns-then-full : goal.returns-then-full
returns-then-full c =
    let small = small_enough c.args.s c.args.im.now c.args.x.task c.own-w.result c.own-w.ensures (omega arith) in
    record { im_after = comes_to_wait _ _ _ _ small _ c.full.ensures _ _ c.if-full.true refl c.wait.ensures.im_after; sound_2 = search rules }

pub append-requires : goal.append-requires
append-requires c = record { sound = search rules; has = search rules; q_value = search not_full }

pub print_if_idle-requires : goal.print_if_idle-requires
print_if_idle-requires c = record { sound = search rules; t_lt_n = search rules; t_value = then_some _ _ _ _ _ (search rules) (search rules) c.append.ensures.im_after }

pub returns : goal.returns
returns c =
    let small = small_enough _ _ _ _ c.own-w.ensures c.if-w-gt-MOST_CHARACTER.false in
    let out = put_out _ _ _ _ c.own-w.ensures _ _ _ _ _ refl c.cleared-f.ensures c.append.ensures.im_after c.print_if_idle.ensures.im_after c.put_own.ensures.im_after in
    record { im_after = comes_to_pass _ _ _ _ small _ c.full.ensures _ c.if-full.false refl out; sound_2 = search rules }
