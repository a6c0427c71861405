-- One rule that fails makes the whole fail; where all others hold, those of the tasks decide.
use mathlib.Core.Bool.{and-eq-true_iff}
use Rattle.queue_rules.specs.ReadyCounts.{none_found}
use Rattle.inspect.proofs.Tested.{ready_fails, clock_fails, buffers_fail, others_fail, rules_tested, ready_queued, passed_so}
use Rattle.inspect.proofs.rules_hold.Goals as goal

pub returns-then-not-ready_holds : goal.returns-then-not-ready_holds
returns-then-not-ready_holds c = search ready_fails

pub returns-then-not-clock_holds : goal.returns-then-not-clock_holds
returns-then-not-clock_holds c = search clock_fails

pub returns-then-not-buffers_hold : goal.returns-then-not-buffers_hold
returns-then-not-buffers_hold c = search buffers_fail

pub count_ready-requires : goal.count_ready-requires
count_ready-requires c = record { sized = c.requires; im_value = ready_queued _ _ (passed_so _ _ c.ready_holds.ensures c.if-not-ready_holds.false); none_found = none_found }

pub returns-then-not-count_ready : goal.returns-then-not-count_ready
returns-then-not-count_ready c = search others_fail

pub tasks_hold-requires : goal.tasks_hold-requires
tasks_hold-requires c =
    let both = (and-eq-true_iff _ _).0 (passed_so _ _ c.buffers_hold.ensures c.if-not-buffers_hold.false) in
    record { sized = c.requires; im_value = both.0; im_value_2 = both.1; all_found = c.count_ready.ensures.all_found c.if-not-count_ready.false }

pub returns : goal.returns
returns c = search rules_tested
