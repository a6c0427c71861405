-- An image that is not refused is good.
use mathlib.Core.Path.{refl}
use Rattle.laws.specs.Events.{inspected_lawful}
use Rattle.runner_files.proofs.run_loaded_image.Goals as goal

pub run_image-requires : goal.run_image-requires
run_image-requires c = let h = c.in-Ok.ensures in inspected_lawful _ _ _ refl h.1 h.0
