-- "Image", flags and status.
use Rattle.std.specs.Prelude.{List, ℕ, ◌+◌, ◌*◌, ◌/◌, ◌%◌}
use Rattle.paper.specs.Image.{at, put, flags}
use Rattle.paper.specs.declared.Task.{Task}
use Rattle.paper.specs.declared.Shape.{Shape}
use Rattle.paper.specs.declared.Service.{Service}

-- flags = cc + 4 x error + 32 x pending
abbrev pub flags_of : ℕ → ℕ → ℕ → ℕ
flags_of cc error pending = cc + 4 * error + 32 * pending

abbrev pub cc_of : ℕ → ℕ
cc_of f = f % 4

abbrev pub error_of : ℕ → ℕ
error_of f = f / 4 % 8

abbrev pub pending_of : ℕ → ℕ
pending_of f = f / 32

-- cc is 0..2, error 0..6
abbrev pub most_cc : ℕ
most_cc = 2

abbrev pub most_error : ℕ
most_error = 6

-- the fields of a task's flags
abbrev pub cc : Shape → List ℕ → Task → ℕ
cc s im i = cc_of (at s im (flags i))

abbrev pub error : Shape → List ℕ → Task → ℕ
error s im i = error_of (at s im (flags i))

abbrev pub pending : Shape → List ℕ → Task → ℕ
pending s im i = pending_of (at s im (flags i))

-- a task's flags written anew
abbrev pub put_flags : Shape → List ℕ → Task → ℕ → ℕ → ℕ → List ℕ
put_flags s im i c e p = put s im (flags i) (flags_of c e p)

-- the statuses: 0 ready, 1 waits to send, 2 waits to receive, 3 waits for input, 4 waits for output, 5 stopped by error
abbrev pub is_ready : ℕ
is_ready = 0

abbrev pub waits : Service → ℕ
waits Service.Send = 1
waits Service.Receive = 2
waits Service.Input = 3
waits Service.Output = 4

abbrev pub is_stopped : ℕ
is_stopped = 5
