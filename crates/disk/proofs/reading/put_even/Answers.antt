-- An even count of bytes is put as words; of an odd one nothing is.
use Rattle.disk.proofs.Bytes.{words_loaded}
use Rattle.disk.proofs.reading.put_even.Goals as goal

pub returns : goal.returns
returns c = search words_loaded
