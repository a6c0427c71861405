-- Words of bytes lie in their target; a plan's image fits. Assumes nothing.
use Rattle.std.proofs.Common.{◌≡◌, ℕ, ◌+◌, ◌*◌, ◌<◌, ◌≤◌, List, length, take}
use Rattle.paper.specs.Image.{most_words, total}
use Rattle.paper.specs.Runner.{words_of}
use Rattle.paper.specs.declared.Shape.{Shape}
use Rattle.laws.specs.Fresh.{planned}
use Rattle.writes.specs.Written.{written}
use Rattle.fresh_parts.specs.Accepted.{Plan}
use Rattle.disk.proofs.Bytes.{words_loaded}

pub words_counted : (bytes words out : List ℕ) (n : ℕ) → length bytes < 2 * length words + 2 → n ≡ length (words_of bytes) → out ≡ written words 0 (words_of bytes)
    → (n ≤ length out) × (n ≡ length (take n out))
words_counted bytes words out n room e w = (words_loaded bytes words out n room e w).1

-- an accepted plan's image fits
pub image_fits : (s : Shape) (plan : List ℕ) → Plan s plan → (n : ℕ) → n ≡ total s → n ≤ most_words
image_fits s plan p n e = rw (e, p.shape) (planned plan p.fine).fit.words
