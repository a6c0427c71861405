-- An image that is not refused is sound.
use Rattle.views.proofs.Looked.{looked_sound}
use Rattle.shower.proofs.show_image.Goals as goal

pub describe-requires : goal.describe-requires
describe-requires c = looked_sound _ _ c.in-Ok.ensures
