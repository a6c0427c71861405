-- All rows at once, or those of input, then those of output, then those of messages.
use Rattle.laws.specs.Sound.{sized_fit}
use Rattle.queue_rules.proofs.Buffers.{inputs_fit, outputs_fit, messages_fit, inputs_wrong, outputs_wrong, messages_decide, joined_fit, joined_decide}
use Rattle.queue_rules.proofs.buffers_hold.Goals as goal

pub start_of-inputs-requires : goal.start_of-inputs-requires
start_of-inputs-requires c = search sized_fit

pub start_of-outputs-requires : goal.start_of-outputs-requires
start_of-outputs-requires c = search sized_fit

pub start_of-messages-requires : goal.start_of-messages-requires
start_of-messages-requires c = search sized_fit

pub start_of-end-requires : goal.start_of-end-requires
start_of-end-requires c = search sized_fit

pub rows_right-requires : goal.rows_right-requires
rows_right-requires c =
    let f = joined_fit _ _ c.requires _ _ _ _ c.start_of-inputs.ensures c.start_of-outputs.ensures c.start_of-messages.ensures c.start_of-end.ensures c.if-s.true c.if-s-2.true in
    record { given_nonzero = f.0; rows_between = f.1.0; end_in_bounds = f.1.1 }

pub returns-then-s-2 : goal.returns-then-s-2
returns-then-s-2 c =
    joined_decide _ _ c.requires _ _ _ _ c.start_of-inputs.ensures c.start_of-outputs.ensures c.start_of-messages.ensures c.start_of-end.ensures c.if-s.true c.if-s-2.true _ c.rows_right.ensures

pub rows_right-requires-2 : goal.rows_right-requires-2
rows_right-requires-2 c =
    let f = inputs_fit _ _ c.requires _ _ _ _ c.start_of-inputs.ensures c.start_of-outputs.ensures c.start_of-messages.ensures c.start_of-end.ensures in
    record { given_nonzero = f.0; rows_between = f.1.0; end_in_bounds = f.1.1 }

pub returns-then-not-rows_right : goal.returns-then-not-rows_right
returns-then-not-rows_right c = inputs_wrong _ _ c.requires _ _ _ _ c.start_of-inputs.ensures c.start_of-outputs.ensures c.start_of-messages.ensures c.start_of-end.ensures _ c.rows_right-2.ensures c.if-not-rows_right.true

pub rows_right-requires-3 : goal.rows_right-requires-3
rows_right-requires-3 c =
    let f = outputs_fit _ _ c.requires _ _ _ _ c.start_of-inputs.ensures c.start_of-outputs.ensures c.start_of-messages.ensures c.start_of-end.ensures in
    record { given_nonzero = f.0; rows_between = f.1.0; end_in_bounds = f.1.1 }

pub returns-then-not-rows_right-2 : goal.returns-then-not-rows_right-2
returns-then-not-rows_right-2 c = outputs_wrong _ _ c.requires _ _ _ _ c.start_of-inputs.ensures c.start_of-outputs.ensures c.start_of-messages.ensures c.start_of-end.ensures _ c.rows_right-3.ensures c.if-not-rows_right-2.true

pub rows_right-requires-4 : goal.rows_right-requires-4
rows_right-requires-4 c =
    let f = messages_fit _ _ c.requires _ _ _ _ c.start_of-inputs.ensures c.start_of-outputs.ensures c.start_of-messages.ensures c.start_of-end.ensures in
    record { given_nonzero = f.0; rows_between = f.1.0; end_in_bounds = f.1.1 }

pub returns : goal.returns
returns c =
    messages_decide _ _ c.requires _ _ _ _ c.start_of-inputs.ensures c.start_of-outputs.ensures c.start_of-messages.ensures c.start_of-end.ensures _ _ _
    c.rows_right-2.ensures c.if-not-rows_right.false c.rows_right-3.ensures c.if-not-rows_right-2.false c.rows_right-4.ensures
