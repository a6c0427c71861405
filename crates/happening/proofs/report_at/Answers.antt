-- The three words make the event that is reported.
use Rattle.laws.proofs.Room.{lawful_roomy}
use Rattle.happening.proofs.AllZero.{words_no_tick}
use Rattle.happening.proofs.Taking.{lawful_sound, made_formed, nth_outcome, nth_lawful}
use Rattle.happening.proofs.report_at.Goals as goal

pub report-requires : goal.report-requires
report-requires c = record { sound = search lawful_sound; roomy = search lawful_roomy; formed = search made_formed; e_nonzero = search words_no_tick }

pub returns : goal.returns
returns c = record { im_after = search nth_outcome; lawful_2 = search nth_lawful }
