-- Six bytes make the three words of the event.
use Rattle.runner_events.proofs.Taking.{event_read}
use Rattle.runner_events.proofs.step_by.Goals as goal

pub returns : goal.returns
returns c =
    let e = event_read c.args.s c.args.event.now 0 _ _ _ c.word-kind.ensures c.word-device.ensures c.word-character.ensures in
    record { im_after = rw e at c.step.ensures.im_after; lawful_2 = c.step.ensures.lawful_2 }
