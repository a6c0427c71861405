-- A service that is done.
use Rattle.std.specs.Prelude.{List, ℕ}
use Rattle.paper.specs.Flags.{cc, error, put_flags}
use Rattle.paper.specs.declared.Task.{Task}
use Rattle.paper.specs.declared.Shape.{Shape}

-- its word has moved, which made im into m; nothing is pending, and the condition and the error are as they were
unfoldable pub done : Shape → List ℕ → Task → List ℕ → List ℕ
done s im i m = put_flags s m i (cc s im i) (error s im i) 0
