-- What is seen of an image in numbers: 0 and the image's words, or a number and 65535 in every field.
use Rattle.std.specs.Prelude.{ℕ, Ok, Err, Some, None}
use Rattle.paper.specs.Numbers.{number}
use Rattle.views.specs.Looks.{View}
use Rattle.views.specs.declared.TaskState.{TaskState}
use Rattle.views.specs.declared.PortState.{PortState}
use Rattle.kernel_c.specs.declared.looks.TaskNumbers.{TaskNumbers}
use Rattle.kernel_c.specs.declared.looks.PortNumbers.{PortNumbers}
use Rattle.kernel_c.specs.declared.looks.WordNumbers.{WordNumbers}

-- the number of what is not there, and every field where nothing is seen
abbrev pub not_there : ℕ
not_there = 65535

-- a task
abbrev pub unseen_task : ℕ → TaskNumbers
unseen_task n =
    record {
      number = n;
      status = not_there;
      peer = not_there;
      cc = not_there;
      error = not_there;
      pending = not_there;
    }

abbrev pub task_numbers : View TaskState → TaskNumbers
task_numbers (Ok (Some x)) =
    record {
      number = 0;
      status = x.status;
      peer = x.peer;
      cc = x.cc;
      error = x.error;
      pending = x.pending;
    }
task_numbers (Ok None) = unseen_task not_there
task_numbers (Err r) = unseen_task (number r)

-- a port
abbrev pub unseen_port : ℕ → PortNumbers
unseen_port n = record { number = n; busy = not_there; character = not_there }

abbrev pub port_numbers : View PortState → PortNumbers
port_numbers (Ok (Some x)) = record { number = 0; busy = x.busy; character = x.character }
port_numbers (Ok None) = unseen_port not_there
port_numbers (Err r) = unseen_port (number r)

-- a word
abbrev pub unseen_word : ℕ → WordNumbers
unseen_word n = record { number = n; word = not_there }

abbrev pub word_numbers : View ℕ → WordNumbers
word_numbers (Ok (Some w)) = record { number = 0; word = w }
word_numbers (Ok None) = unseen_word not_there
word_numbers (Err r) = unseen_word (number r)
