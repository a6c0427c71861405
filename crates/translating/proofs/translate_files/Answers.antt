-- What was read lies in its buffer.
use Rattle.disk.proofs.Bytes.{loaded_end, loaded_count, part_short}
use Rattle.translating.proofs.translate_files.Goals as goal

pub slice_bounds-names-end : goal.slice_bounds-names-end
slice_bounds-names-end c = search loaded_end

pub slice_bounds-translate_texts-end : goal.slice_bounds-translate_texts-end
slice_bounds-translate_texts-end c = search loaded_count

pub slice_bounds-script-end : goal.slice_bounds-script-end
slice_bounds-script-end c = search loaded_end

pub slice_bounds-translate_texts-end-2 : goal.slice_bounds-translate_texts-end-2
slice_bounds-translate_texts-end-2 c = search loaded_count

pub translate_texts-requires : goal.translate_texts-requires
translate_texts-requires c = (search part_short, search part_short)
