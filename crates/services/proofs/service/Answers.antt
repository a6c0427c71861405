-- From the image with the clock fallen, the service of the number is what rule 4 says; the last is 4, since the number is none of the others and at most 4.
use mathlib.Core.Path.{refl}
use Rattle.paper.specs.declared.Service.{Service}
use Rattle.services.proofs.Needs.{last_number}
use Rattle.services.proofs.Spent.{still_first, still_roomy, acts}
use borrow.Author.Rules.{rules}
use Rattle.services.proofs.service.Goals as goal

pub send-requires : goal.send-requires
send-requires c = search (still_first, still_roomy, rules)

pub receive-requires : goal.receive-requires
receive-requires c = search (still_first, still_roomy, rules)

pub input-requires : goal.input-requires
input-requires c = search (still_first, rules)

pub output-requires : goal.output-requires
output-requires c = search (still_first, rules)

pub returns-in-1 : goal.returns-in-1
returns-in-1 c = record { im_after = search acts; sound_2 = search rules }

pub returns-in-2 : goal.returns-in-2
returns-in-2 c = record { im_after = search acts; sound_2 = search rules }

pub returns-in-3 : goal.returns-in-3
returns-in-3 c = record { im_after = search acts; sound_2 = search rules }

pub returns-in_default : goal.returns-in_default
returns-in_default c =
    let last = last_number _ c.requires.le_pending (search rules) in
    record { im_after = acts _ _ _ _ Service.Output _ _ 4 _ c.requires.clock_value c.put.ensures.im_after last refl c.output.ensures.im_after; sound_2 = search rules }
