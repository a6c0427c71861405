-- An image that is not refused is sound.
use Rattle.printer.proofs.Texts.{inspected_sound}
use Rattle.printer.proofs.print_image.Goals as goal

pub print_task-requires : goal.print_task-requires
print_task-requires c = inspected_sound _ _ c.in-Ok.ensures

pub show_tasks-requires : goal.show_tasks-requires
show_tasks-requires c = inspected_sound _ _ c.in-Ok.ensures
