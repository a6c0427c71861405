-- What an image must be and hold: its layout ("Image"), and the rules of "What an image must hold".
use Rattle.std.specs.Prelude.{List, [], ◌∷◌, cond, ◌≡◌, ◌≢◌, ℕ, ◌+◌, ◌%◌, ◌<◌, ◌≤◌, eqb, length, get_or}
use Rattle.paper.specs.Image.{task, most_tasks, most_slice, most_capacity, most_words, most_character, offsets, total, header, header_word, segment_start, at, clock, reg, status, peer, busy, character, base, len}
use Rattle.paper.specs.Queues.{Has, header_capacity, head, tail, count, capacity, held, free}
use Rattle.paper.specs.Flags.{cc, error, pending, most_cc, most_error, is_ready, waits, is_stopped}
use Rattle.paper.specs.Services.{services}
use Rattle.paper.specs.declared.Task.{Task}
use Rattle.paper.specs.declared.Shape.{Shape}
use Rattle.paper.specs.declared.Queue.{Queue}
use Rattle.paper.specs.declared.Service.{Service}

-- lo..hi, as the paper writes a range
abbrev pub Within : ℕ → ℕ → ℕ → Type 0
Within lo hi x = (lo ≤ x) × (x ≤ hi)

-- the shape of an image
pub record Fit (s : Shape) : Type 0 where
  -- N 1..16; slice S 1..65535; capacities CI, CO, CM, each 1..32
  pub tasks : Within 1 most_tasks s.n
  pub slice : Within 1 most_slice s.slice
  pub inputs : Within 1 most_capacity s.ci
  pub outputs : Within 1 most_capacity s.co
  pub messages : Within 1 most_capacity s.cm
  -- the parts follow one another without gaps
  pub packed : s.starts ≡ offsets s
  -- T is at most 32768
  pub words : total s ≤ most_words

-- an image of that shape
pub record Laid (s : Shape) (im : List ℕ) : Type 0 where
  pub fit : Fit s
  -- T words, and in words 0..16 what the header's table says
  pub words : length im ≡ total s
  pub headed : (k : ℕ) → k < 17 → header_word im k ≡ get_or (header s) k 0
  -- segments in task order without gaps, each of length at least 1, the last one ending at T
  pub bases : (i : Task) → i.0 < s.n → at s im (base i) ≡ segment_start s im i.0
  pub lengths : (i : Task) → i.0 < s.n → 1 ≤ at s im (len i)
  pub ends : segment_start s im s.n ≡ total s

-- the flags of task i
pub record Flagged (s : Shape) (im : List ℕ) (i : Task) : Type 0 where
  -- cc 0..2, error 0..6, pending 0..4
  pub cc_range : cc s im i ≤ most_cc
  pub error_range : error s im i ≤ most_error
  pub pending_range : pending s im i ≤ length services
  -- error and pending are never both non-zero
  pub never_both : error s im i ≢ 0 → pending s im i ≡ 0

-- every queue
pub record Queued (s : Shape) (im : List ℕ) (q : Queue) : Type 0 where
  -- the header's capacity (N for the ready queue)
  pub sized : at s im (capacity s q) ≡ header_capacity s q
  -- head and tail below it; length at most it
  pub headed : at s im (head s q) < at s im (capacity s q)
  pub tailed : at s im (tail s q) < at s im (capacity s q)
  pub counted : at s im (count s q) ≤ at s im (capacity s q)
  -- (head + length) mod capacity = tail
  pub round : (at s im (head s q) + at s im (count s q)) % at s im (capacity s q) ≡ at s im (tail s q)

-- a queue is empty, or full
abbrev pub Empty : Shape → List ℕ → Queue → Type 0
Empty s im q = at s im (count s q) ≡ 0

abbrev pub Full : Shape → List ℕ → Queue → Type 0
Full s im q = at s im (count s q) ≡ at s im (capacity s q)

-- words that are at most 255
abbrev pub Characters : List ℕ → Type 0
Characters [] = Unit {0}
Characters (w ∷ ws) = (w ≤ most_character) × Characters ws

-- words that are 0
abbrev pub Zeros : List ℕ → Type 0
Zeros [] = Unit {0}
Zeros (w ∷ ws) = (w ≡ 0) × Zeros ws

-- how often a list holds a word
abbrev pub times : ℕ → List ℕ → ℕ
times x [] = 0
times x (w ∷ ws) = cond (eqb x w) 1 0 + times x ws

-- a task of status 0
abbrev pub Ready : Shape → List ℕ → Task → Type 0
Ready s im i = (i.0 < s.n) × (at s im (status i) ≡ is_ready)

-- the port of task i
pub record Ported (s : Shape) (im : List ℕ) (i : Task) : Type 0 where
  -- busy is 0 or 1, character at most 255
  pub busy_range : at s im (busy i) ≤ 1
  pub character_range : at s im (character i) ≤ most_character
  -- an idle port has character 0 and its output buffer is empty
  pub idle : at s im (busy i) ≡ 0 → (at s im (character i) ≡ 0) × Empty s im (Queue.Output i)

-- R2 = peer < N
abbrev pub Peered : Shape → List ℕ → Task → Type 0
Peered s im i = (at s im (reg i 2) ≡ at s im (peer i)) × (at s im (peer i) < s.n)

abbrev pub partner : Shape → List ℕ → Task → Task
partner s im i = task (at s im (peer i))

-- the status of task i
pub record Stands (s : Shape) (im : List ℕ) (i : Task) : Type 0 where
  -- 0..5
  pub known : at s im (status i) ≤ is_stopped
  -- status 1: pending 1, R2 = peer < N, that buffer full
  pub sends : at s im (status i) ≡ waits Service.Send → (pending s im i ≡ 1) × Peered s im i × Full s im (Queue.Message i (partner s im i))
  -- status 2: pending 2, R2 = peer < N, buffer from the peer empty
  pub receives : at s im (status i) ≡ waits Service.Receive → (pending s im i ≡ 2) × Peered s im i × Empty s im (Queue.Message (partner s im i) i)
  -- status 3: pending 3, input buffer empty
  pub inputs : at s im (status i) ≡ waits Service.Input → (pending s im i ≡ 3) × Empty s im (Queue.Input i)
  -- status 4: pending 4, R3 at most 255, output buffer full
  pub outputs : at s im (status i) ≡ waits Service.Output → (pending s im i ≡ 4) × (at s im (reg i 3) ≤ most_character) × Full s im (Queue.Output i)
  -- status 5: error not 0
  pub stopped : at s im (status i) ≡ is_stopped → error s im i ≢ 0
  -- outside status 1 and 2 the peer is 0
  pub peerless : at s im (status i) ≢ waits Service.Send → at s im (status i) ≢ waits Service.Receive → at s im (peer i) ≡ 0

-- what an image must hold, a field a rule
pub record Good (s : Shape) (im : List ℕ) : Type 0 where
  pub laid : Laid s im
  pub flags : (i : Task) → i.0 < s.n → Flagged s im i
  pub queues : (q : Queue) → Has s q → Queued s im q
  -- 0 in every free slot of every queue
  pub cleared : (q : Queue) → Has s q → Zeros (free s im q)
  -- words held in input and output buffers are at most 255
  pub inputs_held : (i : Task) → i.0 < s.n → Characters (held s im (Queue.Input i))
  pub outputs_held : (i : Task) → i.0 < s.n → Characters (held s im (Queue.Output i))
  -- the ready queue holds each task of status 0 exactly once, and no other
  pub ready : (i : Task) → Ready s im i → times i.0 (held s im Queue.Ready) ≡ 1
  pub no_other : (i : Task) → ¬ Ready s im i → times i.0 (held s im Queue.Ready) ≡ 0
  -- clock at most S; 0 where the ready queue is empty
  pub clock_range : at s im clock ≤ s.slice
  pub clock_idle : Empty s im Queue.Ready → at s im clock ≡ 0
  pub ports : (i : Task) → i.0 < s.n → Ported s im i
  pub statuses : (i : Task) → i.0 < s.n → Stands s im i
