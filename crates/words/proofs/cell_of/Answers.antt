-- Each arm is the cell that the definition gives for its spot.
use Rattle.words.proofs.cell_of.Goals as goal

pub returns-in-Clock : goal.returns-in-Clock
returns-in-Clock c = rw c.in-Clock.is

pub returns-in-Status : goal.returns-in-Status
returns-in-Status c = rw c.in-Status.is

pub returns-in-Peer : goal.returns-in-Peer
returns-in-Peer c = rw c.in-Peer.is

pub returns-in-Busy : goal.returns-in-Busy
returns-in-Busy c = rw c.in-Busy.is

pub returns-in-Character : goal.returns-in-Character
returns-in-Character c = rw c.in-Character.is
