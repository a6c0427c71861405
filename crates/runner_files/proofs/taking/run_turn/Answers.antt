-- The buffers keep their lengths, what was read lies in its own, and less than an event follows the whole ones.
use native.Mathlib.Omega.{arith}
use borrow.Author.Rules.{rules}
use Rattle.runner_files.proofs.Turning.{serve_again}
use Rattle.runner_files.proofs.taking.run_turn.Goals as goal

pub take_events-requires : goal.take_events-requires
take_events-requires g c =
    let p = c.requires in
    record { lawful = p.lawful; order_table = p.order_table; buffers = search (rules, serve_again); end_in_bounds = c.in_ok-more.ensures }

pub take_events-requires-2 : goal.take_events-requires-2
take_events-requires-2 g c =
    let p = c.requires in
    record {
      lawful = p.lawful;
      order_table = p.order_table;
      buffers = search (rules, serve_again);
      end_in_bounds = omega (arith, c.whole_events-end.ensures.inside, c.in_ok-more.ensures);
    }

pub returns : goal.returns
returns g c =
    record {
      turns = (c.in_ok-taken.ensures.tooks, omega (arith, c.keep.ensures.0, c.whole_events-end.ensures.most));
      lawful_2 = c.take_events-2.ensures.lawful_2;
    }
