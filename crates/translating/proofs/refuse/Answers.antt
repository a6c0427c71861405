-- What is told of a line lies in it.
use Rattle.translating.proofs.Files.{judged_within}
use borrow.Author.Rules.{rules}
use Rattle.translating.proofs.refuse.Goals as goal

pub say_refused-requires : goal.say_refused-requires
say_refused-requires c = record { within = search judged_within; short = search rules }
