-- What is told of a line lies in it.
use Rattle.translating.proofs.Files.{kept_lies, later_lies, twice_lies, missing_lies}
use Rattle.translating.proofs.say_reason.Goals as goal

pub say_word-requires : goal.say_word-requires
say_word-requires c = search kept_lies

pub say_word-requires-in-LaterOrder : goal.say_word-requires-in-LaterOrder
say_word-requires-in-LaterOrder c = search later_lies

pub say_word-requires-in-GivenTwice : goal.say_word-requires-in-GivenTwice
say_word-requires-in-GivenTwice c = search twice_lies

pub say_word-requires-in-NotGiven : goal.say_word-requires-in-NotGiven
say_word-requires-in-NotGiven c = search missing_lies
