-- A word that moves to or from a buffer keeps an image good, but for a task that waits on that buffer. Assumes nothing.
use Rattle.std.specs.Prelude.{◌≡◌, refl, List, true, ◌≢◌, ◌⊎◌, ℕ, ◌+◌, ◌<◌, None, Option}
use Rattle.std.proofs.Common.{ap, ◌∙◌, inl, inr, ⊎_elim, arith}
use Rattle.paper.specs.Image.{lead, ord, at, status}
use Rattle.paper.specs.Queues.{part_of, row_of, Has, header_capacity, queue_word, held, free}
use Rattle.paper.specs.Flags.{waits}
use Rattle.paper.specs.Rules.{Zeros, Ported}
use Rattle.paper.specs.declared.Task.{Task}
use Rattle.paper.specs.declared.Shape.{Shape}
use Rattle.paper.specs.declared.Cell.{Cell}
use Rattle.paper.specs.declared.Part.{Part}
use Rattle.paper.specs.declared.Queue.{Queue}
use Rattle.paper.specs.declared.Service.{Service}
use Rattle.laws.specs.Queues.{Off, word_valid, held_frame, free_frame, same_queue}
use Rattle.laws.specs.Sound.{Sound, sound}
use Rattle.laws.specs.Frame.{Frame, Apart, SameCount, frame_more, kept_flags, kept_same}
use Rattle.laws.specs.Changes.{device_parts}
use Rattle.event_laws.specs.Standing.{awaits, stands_frame}
use Rattle.event_laws.specs.Kept.{Spared, Chars, Nearly, awaits_has, kept_listed, kept_clocked}

-- no queue lies among the ports
not_port : (q : Queue) → part_of q ≢ Part.Ports
not_port Queue.Ready e = absurd (let z : ◌≡◌ {A = ℕ} 2 7 = ap ord e in omega arith)
not_port (Queue.Input i) e = absurd (let z : ◌≡◌ {A = ℕ} 4 7 = ap ord e in omega arith)
not_port (Queue.Output i) e = absurd (let z : ◌≡◌ {A = ℕ} 5 7 = ap ord e in omega arith)
not_port (Queue.Message i j) e = absurd (let z : ◌≡◌ {A = ℕ} 6 7 = ap ord e in omega arith)

-- a cell of a queue's row, or of a port
abbrev pub BufferCell : Shape → Queue → Cell → Type 0
BufferCell s q c = ((c.part ≡ part_of q) × (c.row ≡ row_of s q)) ⊎ (c.part ≡ Part.Ports)

-- which tasks wait on a buffer: none but those whom the event wakes
abbrev pub Free : Shape → List ℕ → Queue → Option Task → Type 0
Free s im q w = (i : Task) (v : Service) → i.0 < s.n → ¬ Spared w i → at s im (status i) ≡ waits v → awaits s im i v ≢ q

chars_same : (s : Shape) (im m : List ℕ) (p : Queue) → held s m p ≡ held s im p → Chars s im p → Chars s m p
chars_same s im m Queue.Ready e c = tt
chars_same s im m (Queue.Input i) e c = rw e c
chars_same s im m (Queue.Output i) e c = rw e c
chars_same s im m (Queue.Message i j) e c = tt

-- a buffer's row, and ports, written anew
module _ {s : Shape} {im m : List ℕ} (h : Nearly s im None) (q : Queue) (hq : Has s q) (device : device_parts (part_of q) ≡ true)
    (k : Frame s (BufferCell s q) im m) (chars : Chars s m q) (cleared : Zeros (free s m q)) where
  buffer_apart : Apart s device_parts im m
  buffer_apart = frame_more k go
    where
      go : (c : Cell) → BufferCell s q c → device_parts c.part ≡ true
      go c (inl (e, _)) = ap device_parts e ∙ device
      go c (inr e) = ap device_parts e

  -- other queues
  module _ (p : Queue) (hp : Has s p) (o : (j : ℕ) → Off s q (queue_word s p j)) where
    queue_kept : (j : ℕ) → j < lead + header_capacity s p → at s m (queue_word s p j) ≡ at s im (queue_word s p j)
    queue_kept j hj = k.others (queue_word s p j) (word_valid s p j hp hj) (λ e. ⊎_elim (λ r. o j r.0 r.1) (not_port p) e)

    counts_kept : SameCount s im m p
    counts_kept = (queue_kept 2 (omega arith), queue_kept 3 (omega arith))

  -- the image is good, but for tasks that wait on the buffer
  pub buffer_nearly : (w : Option Task) → Sound s m → ((i : Task) → i.0 < s.n → Ported s m i) → Free s im q w → Nearly s m w
  buffer_nearly w lies ports none-waits =
      record {
        lies = lies;
        flags = λ i hi. kept_flags device_parts buffer_apart refl i hi (h.flags i hi);
        chars = λ p hp.
            ⊎_elim (λ e. rw e chars) (λ o. chars_same s im m p (held_frame s im m p ((sound h.lies).queues p hp) (queue_kept p hp o)) (h.chars p hp)) (same_queue s p q hp hq);
        cleared = λ p hp.
            ⊎_elim (λ e. rw e cleared) (λ o. rw (free_frame s im m p ((sound h.lies).queues p hp) (queue_kept p hp o)) (h.cleared p hp)) (same_queue s p q hp hq);
        listed = kept_listed device_parts buffer_apart h refl refl;
        clocked = kept_clocked device_parts buffer_apart h refl refl;
        ports = ports;
        statuses = λ i hi sp.
            let st = h.statuses i hi (λ z. z) in
            stands_frame s im m i (kept_same device_parts buffer_apart refl refl i hi) (λ v e.
            let has = awaits_has s im i hi st v e in
            ⊎_elim (λ f. absurd (none-waits i v hi sp e f)) (counts_kept (awaits s im i v) has) (same_queue s (awaits s im i v) q has hq)) st;
      }
