-- What each exported function promises: every number of its answer, and every word of each buffer that it is lent to write. The definitions are those that the promises of paper, of grammar, of views and of breaches name.
use Rattle.std.specs.Prelude.{◌≡◌, List, ℕ, length, Float}
use Rattle.paper.specs.Numbers.{verdict_number, reply_number, check, check_build}
use Rattle.paper.specs.Calls.{plan_size, size_number, size_value, built, event, run}
use Rattle.grammar.specs.Texts.{program, judged, answered, translation_words, translation_number, translation_text, stored, named_line}
use Rattle.grammar.specs.Printing.{printed, measured, printing, printing_bytes, printing_number, inscribed}
use Rattle.views.specs.Looks.{task_view, port_view, register_view, length_view, word_view}
use Rattle.breaches.specs.Broken.{broken}
use Rattle.kernel_c.specs.Answers.{told_kind, told_task}
use Rattle.kernel_c.specs.Views.{task_numbers, port_numbers, word_numbers}
use Rattle.kernel_c.specs.Breaches.{broken_numbers}
use Rattle.kernel_c.specs.Counts.{report_on, share_on, share_number, share_cell}
use Rattle.kernel_c.specs.declared.Measured.{Measured}
use Rattle.kernel_c.specs.declared.ReplyNumbers.{ReplyNumbers}
use Rattle.kernel_c.specs.declared.RunNumbers.{RunNumbers}
use Rattle.kernel_c.specs.declared.prints.Printed.{Printed}
use Rattle.kernel_c.specs.declared.scripts.Translated.{Translated}
use Rattle.kernel_c.specs.declared.scripts.RefusedLine.{RefusedLine}
use Rattle.kernel_c.specs.declared.looks.TaskNumbers.{TaskNumbers}
use Rattle.kernel_c.specs.declared.looks.PortNumbers.{PortNumbers}
use Rattle.kernel_c.specs.declared.looks.WordNumbers.{WordNumbers}
use Rattle.kernel_c.specs.declared.broken.BrokenNumbers.{BrokenNumbers}

-- checking an image
pub record ChecksC (image : List ℕ) (answer : ℕ) : Type 0 where
  pub numbered : answer ≡ verdict_number (check image)

-- the size of a plan
pub record MeasuresC (plan : List ℕ) (answer : Measured) : Type 0 where
  pub valued : answer.words ≡ size_value (plan_size plan)
  pub numbered : answer.number ≡ size_number (plan_size plan)

-- building an image from a plan
pub record BuildsC (plan target : List ℕ) (answer : ℕ) (after : List ℕ) : Type 0 where
  pub numbered : answer ≡ verdict_number (check_build plan target)
  pub left : after ≡ built plan target

-- one event
pub record HappensC (image : List ℕ) (k d c : ℕ) (answer : ReplyNumbers) (after : List ℕ) : Type 0 where
  pub numbered : answer.number ≡ reply_number (event image k d c).reply
  pub kinded : answer.kind ≡ told_kind (event image k d c).reply
  pub tasked : answer.task ≡ told_task (event image k d c).reply
  pub left : after ≡ (event image k d c).image

-- a run over a list of events
pub record RunsC (image events : List ℕ) (answer : RunNumbers) (after : List ℕ) : Type 0 where
  pub counted : answer.taken ≡ (run image events).taken
  pub numbered : answer.number ≡ verdict_number (run image events).stop
  pub left : after ≡ (run image events).image

-- a run that counts: the answer, every word of the image and every count
pub record ReportsC (image events counts : List ℕ) (answer : RunNumbers) (after more : List ℕ) : Type 0 where
  pub counted : answer.taken ≡ (report_on image events counts).taken
  pub numbered : answer.number ≡ verdict_number (report_on image events counts).stop
  pub left : after ≡ (report_on image events counts).image
  pub tallied : more ≡ (report_on image events counts).counts

-- a task's share: whether one is told, and the cell for it
pub record SharesC (counts : List ℕ) (task : ℕ) (held : Float) (answer : ℕ) (after : Float) : Type 0 where
  pub numbered : answer ≡ share_number (share_on counts task)
  pub left : after ≡ share_cell (share_on counts task) held

-- translating two texts
pub record TranslatesC (names script target : List ℕ) (answer : Translated) (after : List ℕ) : Type 0 where
  pub counted : answer.words ≡ translation_words (answered (judged names script (length target)))
  pub numbered : answer.number ≡ translation_number (answered (judged names script (length target)))
  pub told : answer.text ≡ translation_text (answered (judged names script (length target)))
  pub left : after ≡ stored (judged names script (length target)) (program names script) target

-- the refused line of two texts, for a target of so many words
pub record NamesLineC (names script : List ℕ) (room : ℕ) (answer : RefusedLine) : Type 0 where
  pub begins : answer.start ≡ (named_line (judged names script room)).from
  pub counted : answer.bytes ≡ (named_line (judged names script room)).count

-- printing a list of words
pub record PrintsC (words text : List ℕ) (answer : Printed) (after : List ℕ) : Type 0 where
  pub counted : answer.bytes ≡ printing_bytes (printing words (length text))
  pub numbered : answer.number ≡ printing_number (printing words (length text))
  pub left : after ≡ inscribed (printing words (length text)) (printed words) text

-- how many bytes printing a list needs
pub record MeasuresTextC (words : List ℕ) (answer : Printed) : Type 0 where
  pub counted : answer.bytes ≡ printing_bytes (measured words)
  pub numbered : answer.number ≡ printing_number (measured words)

-- looking at a task of an image
pub record LooksAtTaskC (image : List ℕ) (t : ℕ) (answer : TaskNumbers) : Type 0 where
  pub told : answer ≡ task_numbers (task_view image t)

-- at a port
pub record LooksAtPortC (image : List ℕ) (d : ℕ) (answer : PortNumbers) : Type 0 where
  pub told : answer ≡ port_numbers (port_view image d)

-- at a register of a task
pub record LooksAtRegisterC (image : List ℕ) (t r : ℕ) (answer : WordNumbers) : Type 0 where
  pub told : answer ≡ word_numbers (register_view image t r)

-- at how many words a queue holds
pub record LooksAtLengthC (image : List ℕ) (q i j : ℕ) (answer : WordNumbers) : Type 0 where
  pub told : answer ≡ word_numbers (length_view image q i j)

-- at a word of a queue
pub record LooksAtWordC (image : List ℕ) (q i j k : ℕ) (answer : WordNumbers) : Type 0 where
  pub told : answer ≡ word_numbers (word_view image q i j k)

-- the first broken rule of an image
pub record TellsBrokenC (image : List ℕ) (answer : BrokenNumbers) : Type 0 where
  pub told : answer ≡ broken_numbers (broken image)
