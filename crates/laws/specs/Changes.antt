-- Which cells each change of the paper touches: a status, leaving, waking, printing, and the word of a service. Assumes nothing.
use Rattle.std.specs.Prelude.{◌≡◌, refl, List, Bool, true, false, ◌||◌, ℕ, ◌<◌, ◌≤◌, eqb, leb, ltb, None, Some}
use native.Mathlib.Omega.{arith}
use Rattle.std.proofs.Common.{leb-false}
use Rattle.std.proofs.Math.ListN.{length}
use Rattle.paper.specs.Image.{most_character, ord, total, cell, at, put, clock, reg, flags, status, peer, busy, character}
use Rattle.paper.specs.Queues.{part_of, Has, queue_word, appended, empty, full}
use Rattle.paper.specs.Flags.{is_ready}
use Rattle.paper.specs.Waking.{dispatched, with_status, readied, woken, left}
use Rattle.paper.specs.Services.{other, given, error_if, fault_of, buffer, blocked, delivered, printing, printing_if_idle, moved, served}
use Rattle.paper.specs.Events.{port_next}
use Rattle.paper.specs.declared.Task.{Task}
use Rattle.paper.specs.declared.Shape.{Shape}
use Rattle.paper.specs.declared.Cell.{Cell}
use Rattle.paper.specs.declared.Part.{Part}
use Rattle.paper.specs.declared.Queue.{Queue}
use Rattle.paper.specs.declared.Service.{Service}
use Rattle.laws.specs.Cases.{when}
use Rattle.laws.specs.Cells.{cells}
use Rattle.laws.specs.Sound.{Sound, sound, has_space, put_sound, appended_sound}
use Rattle.laws.specs.Frame.{Frame, frame_put, frame_appended, frame_taken}

-- the part that a clock written changes: the header; a dispatch: the ready queue with it; and a turn: the status table with them
abbrev pub header_part : Part → Bool
header_part p = eqb (ord p) 0

abbrev pub dispatch_parts : Part → Bool
dispatch_parts p = header_part p || eqb (ord p) 2

abbrev pub turn_parts : Part → Bool
turn_parts p = dispatch_parts p || eqb (ord p) 3

-- buffers of input and messages; those of output and ports with them
abbrev pub message_parts : Part → Bool
message_parts p = eqb (ord p) 4 || eqb (ord p) 6

abbrev pub device_parts : Part → Bool
device_parts p = message_parts p || eqb (ord p) 5 || eqb (ord p) 7

-- those that a service's word moves in: the task table with them
abbrev pub moved_parts : Part → Bool
moved_parts p = device_parts p || eqb (ord p) 1

-- a task's status written
module _ (s : Shape) (im : List ℕ) (i : Task) (hi : i.0 < s.n) (h : Sound s im) (k p : ℕ) where
  pub status_sound : Sound s (with_status s im i k p)
  unfolding with_status
  status_sound =
      put_sound s _ (peer i) p (hi, omega arith) (omega arith) (put_sound s im (status i) k (hi, omega arith) (omega arith) h)

  pub status_is : at s (with_status s im i k p) (status i) ≡ k
  unfolding with_status
  status_is =
      let long : length im ≡ total s = (sound h).laid.words in
      search cells

  pub peer_is : at s (with_status s im i k p) (peer i) ≡ p
  unfolding with_status
  peer_is =
      let long : length im ≡ total s = (sound h).laid.words in
      search cells

-- no error was found
pub error_none : (b : Bool) (e : ℕ) → error_if b e ≡ None → b ≡ false
error_none true e f = absurd (let z : ◌≡◌ {A = ℕ} 0 1 = cc in omega arith)
error_none false e f = refl

module _ (s : Shape) (im : List ℕ) (i : Task) where
  -- the errors of services are errors, and small
  pub small_error : (v : Service) (e : ℕ) → fault_of s im i v ≡ Some e → (1 ≤ e) × (e ≤ 6)
  small_error v e f = go v f
    where
      pick : (b : Bool) (x : ℕ) → (1 ≤ x) × (x ≤ 6) → error_if b x ≡ Some e → (1 ≤ e) × (e ≤ 6)
      pick true x l z = let y : x ≡ e = cc in rw (← y) l
      pick false x l z = absurd (let y : ◌≡◌ {A = ℕ} 0 1 = cc in omega arith)

      go : (v : Service) → fault_of s im i v ≡ Some e → (1 ≤ e) × (e ≤ 6)
      go Service.Send f = pick (leb s.n (at s im (reg i 2))) 5 (omega arith, omega arith) f
      go Service.Receive f = pick (leb s.n (at s im (reg i 2))) 5 (omega arith, omega arith) f
      go Service.Input f = absurd (let y : ◌≡◌ {A = ℕ} 0 1 = cc in omega arith)
      go Service.Output f = pick (ltb most_character (at s im (reg i 3))) 6 (omega arith, omega arith) f

  -- a service that is not wrong has a buffer of this image
  pub buffer_has : i.0 < s.n → (v : Service) → fault_of s im i v ≡ None → Has s (buffer s im i v)
  buffer_has hi Service.Send right = (hi, leb-false s.n _ (error_none _ 5 right))
  buffer_has hi Service.Receive right = (leb-false s.n _ (error_none _ 5 right), hi)
  buffer_has hi Service.Input right = hi
  buffer_has hi Service.Output right = hi

module _ {s : Shape} {E : Cell → Type 0} {im m : List ℕ} (k : Frame s E im m) where
  pub frame_status : (j : Task) → j.0 < s.n → (a b : ℕ) → ((r : ℕ) → E (cell Part.StatusTable j.0 r)) → Frame s E im (with_status s m j a b)
  unfolding with_status
  frame_status j hj a b e = frame_put (frame_put k (status j) a (hj, omega arith) (e 0)) (peer j) b (hj, omega arith) (e 1)

  -- the first task leaves; a task is woken
  module _ (h : Sound s m) (ready : (r : ℕ) → E (queue_word s Queue.Ready r)) (time : E clock) where
    pub frame_left : Frame s E im (left s m)
    unfolding left dispatched
    frame_left = frame_put (frame_taken k Queue.Ready tt h ready) clock _ (omega arith, omega arith) time

    pub frame_woken : (j : Task) → j.0 < s.n → ((r : ℕ) → E (cell Part.StatusTable j.0 r)) → Frame s E im (woken s m j)
    unfolding woken readied dispatched
    frame_woken j hj e =
        let joined = frame_appended (frame_status j hj is_ready 0 e) Queue.Ready tt (status_sound s m j hj h is_ready 0) ready j.0 in
        when (Frame s E im) (empty s m Queue.Ready) (λ _. frame_put joined clock _ (omega arith, omega arith) time) (λ _. joined)

  -- the port goes on
  module _ (h : Sound s m) (i : Task) (hi : i.0 < s.n) (row : (r : ℕ) → E (queue_word s (Queue.Output i) r)) (port : (r : ℕ) → E (cell Part.Ports i.0 r)) where
    pub frame_printing : Frame s E im (printing s m i)
    unfolding printing
    frame_printing =
        frame_put (frame_put (frame_taken k (Queue.Output i) hi h row) (busy i) 1 (hi, omega arith) (port 0)) (character i) _ (hi, omega arith) (port 1)

    pub frame_idle : Frame s E im (put s (put s m (busy i) 0) (character i) 0)
    frame_idle = frame_put (frame_put k (busy i) 0 (hi, omega arith) (port 0)) (character i) 0 (hi, omega arith) (port 1)

    pub frame_next : Frame s E im (port_next s m i)
    unfolding port_next
    frame_next = when (Frame s E im) (empty s m (Queue.Output i)) (λ _. frame_idle) (λ _. frame_printing)

-- an output appended
pub out_sound : (s : Shape) (m : List ℕ) (i : Task) → i.0 < s.n → Sound s m → (v : ℕ) → full s m (Queue.Output i) ≡ false → Sound s (appended s m (Queue.Output i) v)
out_sound s m i hi h v clear = appended_sound s m (Queue.Output i) hi h v (has_space s m h (Queue.Output i) hi clear)

-- the word of a service moves, and nothing is pending
module _ {s : Shape} {E : Cell → Type 0} {im m : List ℕ} (k : Frame s E im m) (h : Sound s m) (i : Task) (hi : i.0 < s.n)
    (e : (c : Cell) → device_parts c.part ≡ true → E c) (own : (r : ℕ) → E (reg i r)) where
  pub frame_delivered : (q : Queue) → Has s q → device_parts (part_of q) ≡ true → Frame s E im (delivered s m i q)
  unfolding delivered
  frame_delivered q hq t = frame_put (frame_taken k q hq h (λ r. e _ t)) (reg i 3) _ (hi, omega arith) (own 3)

  frame_output : (v : ℕ) → full s m (Queue.Output i) ≡ false → Frame s E im (printing_if_idle s (appended s m (Queue.Output i) v) i)
  unfolding printing_if_idle
  frame_output v clear =
      let sent = frame_appended k (Queue.Output i) hi h (λ r. e _ refl) v in
      when (Frame s E im) (eqb (at s (appended s m (Queue.Output i) v) (busy i)) 0) (λ _. frame_printing sent (out_sound s m i hi h v clear) i hi (λ r. e _ refl) (λ r. e _ refl)) (λ _. sent)

  pub frame_moved : (v : Service) → fault_of s m i v ≡ None → blocked s m i v ≡ false → Frame s E im (moved s m i v)
  frame_moved Service.Send right clear =
      frame_appended k (Queue.Message i (other s m i)) (buffer_has s m i hi Service.Send right) h (λ r. e _ refl) (given s m i)
  frame_moved Service.Receive right clear =
      frame_delivered (Queue.Message (other s m i) i) (buffer_has s m i hi Service.Receive right) refl
  frame_moved Service.Input right clear = frame_delivered (Queue.Input i) hi refl
  frame_moved Service.Output right clear = frame_output (given s m i) clear

  pub frame_served : (v : Service) → fault_of s m i v ≡ None → blocked s m i v ≡ false → Frame s E im (served s m i v)
  unfolding served
  frame_served v right clear = frame_put (frame_moved v right clear) (flags i) _ (hi, omega arith) (own 8)
