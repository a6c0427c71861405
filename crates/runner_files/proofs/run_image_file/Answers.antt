-- The words of the file lie in their array.
use Rattle.disk.proofs.Bytes.{words_end, words_count}
use Rattle.runner_files.proofs.run_image_file.Goals as goal

pub slice_bounds-words-end : goal.slice_bounds-words-end
slice_bounds-words-end c = search words_end

pub slice_bounds-run_loaded_image-end : goal.slice_bounds-run_loaded_image-end
slice_bounds-run_loaded_image-end c = search words_count
