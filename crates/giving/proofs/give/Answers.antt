-- Where the table has room the entry is inserted and counted; where it is full nothing changes.
use Rattle.giving.proofs.Laws.{entry_gives, full_gives}
use Rattle.giving.proofs.give.Goals as goal

pub returns-then-filled-lt-MOST_NAMES : goal.returns-then-filled-lt-MOST_NAMES
returns-then-filled-lt-MOST_NAMES c = entry_gives _ _ _ _ _ _ _ c.if-filled-lt-MOST_NAMES.true c.insert.ensures

pub returns : goal.returns
returns c = full_gives _ _ _ _ _ _ c.if-filled-lt-MOST_NAMES.false c.requires.chained c.requires.headed
