-- What is printed for the events of some bytes, event by event and buffer by buffer. Assumes nothing.
use Rattle.std.specs.Prelude.{Err, Ok, Result, ⊤}
use mathlib.Core.Path.{◌≡◌, refl, sym, ap, ◌∙◌}
use mathlib.Core.List.{List, [], ◌∷◌, ◌++◌, append-nil, append_assoc}
use mathlib.Core.Bool.{Bool, true, false}
use mathlib.Core.Logic.{◌≢◌}
use Prim.Native.Nat.{ℕ, ◌+◌, ◌%◌, ◌<◌}
use native.Mathlib.Nat.{add-zero, zero-add}
use native.Mathlib.Omega.{arith}
use borrow.Author.Tests.{eqb-true, eqb-false}
use lib.Dec.{eqb}
use lib.ListN.{length, length-append}
use Rattle.paper.specs.Events.{event_of, happening}
use Rattle.paper.specs.Runner.{word, line, Printed, nothing_printed, last_line, after_line, prints_on, printed_from}
use Rattle.paper.specs.declared.Shape.{Shape}
use Rattle.paper.specs.declared.Refusal.{Refusal}
use Rattle.writes.specs.Written.{written, written_none, written_on}
use Rattle.laws.specs.Checked.{never_fine}
use Rattle.runner_events.specs.Buffers.{event_bytes, event_at, Prints, followed, ForAnyRest}
use Rattle.paper.specs.declared.Answer.{Answer}

module _ (s : Shape) (im : List ℕ) (n : ℕ) (rest : List ℕ) where
  -- from a whole event on
  pub printed_step : (event : List ℕ) → length event ≡ 6
      → printed_from s im n (event ++ rest) ≡
      prints_on n (happening s im (event_at s event 0)).reply (happening s im (event_at s event 0)).image (λ next. printed_from s next (1 + n) rest)
  unfolding printed_from event_at
  printed_step [] h = absurd (omega arith)
  printed_step (x ∷ []) h = absurd (omega arith)
  printed_step (x ∷ y ∷ []) h = absurd (omega arith)
  printed_step (x ∷ y ∷ z ∷ []) h = absurd (omega arith)
  printed_step (x ∷ y ∷ z ∷ u ∷ []) h = absurd (omega arith)
  printed_step (x ∷ y ∷ z ∷ u ∷ v ∷ []) h = absurd (omega arith)
  printed_step (x ∷ y ∷ z ∷ u ∷ v ∷ w ∷ []) h = refl
  printed_step (x ∷ y ∷ z ∷ u ∷ v ∷ w ∷ a ∷ l) h = absurd (omega arith)

-- at the end
pub printed_none : (s : Shape) (im : List ℕ) (n : ℕ) (rest : List ℕ) → length rest ≡ 0 → printed_from s im n rest ≡ nothing_printed im
unfolding printed_from
printed_none s im n [] e = refl
printed_none s im n (x ∷ l) e = absurd (omega arith)

-- at a short last event
pub printed_short : (s : Shape) (im : List ℕ) (n : ℕ) (rest : List ℕ) → 0 < length rest → length rest < 6
    → printed_from s im n rest ≡ last_line n Refusal.MalformedEvent im
unfolding printed_from
printed_short s im n [] a b = absurd (omega arith)
printed_short s im n (x ∷ []) a b = refl
printed_short s im n (x ∷ y ∷ []) a b = refl
printed_short s im n (x ∷ y ∷ z ∷ []) a b = refl
printed_short s im n (x ∷ y ∷ z ∷ u ∷ []) a b = refl
printed_short s im n (x ∷ y ∷ z ∷ u ∷ v ∷ []) a b = refl
printed_short s im n (x ∷ y ∷ z ∷ u ∷ v ∷ w ∷ l) a b = absurd (omega arith)

-- text written so far, and what is left to print, make the whole
pub record Joins (o out : List ℕ) (text taken : ℕ) (left all : Printed) : Type 0 where
  pub made : written out text left.text ≡ written o 0 all.text
  pub counted : text + length left.text ≡ length all.text
  pub number : taken + left.taken ≡ all.taken
  pub stops : left.stop ≡ all.stop
  pub leaves : left.image ≡ all.image

pub joins_start : (o : List ℕ) (all : Printed) → Joins o o 0 0 all all
joins_start o all = record { made = refl; counted = omega arith; number = omega arith; stops = refl; leaves = refl }

module _ (o out : List ℕ) (text taken : ℕ) (all : Printed) where
  -- one line more
  pub joins_line : (l : List ℕ) (p : Printed) → Joins o out text taken (after_line l p) all → Joins o (written out text l) (text + length l) (taken + 1) p all
  joins_line l p j =
      record {
        made = written_on out text l p.text ∙ j.made;
        counted = omega (arith, j.counted, length-append l p.text);
        number = omega (arith, j.number);
        stops = j.stops;
        leaves = j.leaves;
      }

  pub joins_end : (im : List ℕ) → Joins o out text taken (nothing_printed im) all → Prints o out text taken (Ok tt) im all
  joins_end im j =
      record {
        made = sym (written_none out text) ∙ j.made;
        counted = omega (arith, j.counted);
        number = omega (arith, j.number);
        stops = j.stops;
        leaves = j.leaves;
      }

  pub joins_last : (n : ℕ) (r : Refusal) (im : List ℕ) → Joins o out text taken (last_line n r im) all
      → Prints o (written out text (line n (Err r))) (text + length (line n (Err r))) taken (Err r) im all
  joins_last n r im j =
      record { made = j.made; counted = j.counted; number = omega (arith, j.number); stops = j.stops; leaves = j.leaves }

nothing_first : (im : List ℕ) (q : Printed) → q ≡ followed (nothing_printed im) q
nothing_first im q =
    ap (λ (k : ℕ). record { text = q.text; taken = k; stop = q.stop; image = q.image }) (sym (zero-add q.taken))

line_first : (l : List ℕ) (p q : Printed) → after_line l (followed p q) ≡ followed (after_line l p) q
line_first l p q =
    let e : l ++ (p.text ++ q.text) ≡ (l ++ p.text) ++ q.text = sym (append_assoc l p.text q.text) in
    let f : 1 + (p.taken + q.taken) ≡ (1 + p.taken) + q.taken = omega arith in
    ap (λ (t : List ℕ). record { text = t; taken = 1 + (p.taken + q.taken); stop = q.stop; image = q.image }) e ∙
    ap (λ (k : ℕ). record { text = (l ++ p.text) ++ q.text; taken = k; stop = q.stop; image = q.image }) f

-- Why a file may be read buffer by buffer: where all events of the first bytes are accepted, what is printed for all bytes is what is printed
-- for the first, followed by what is printed for the others, on the image that the first leave and with the numbers that follow.
pub buffers_follow : (s : Shape) (im : List ℕ) (n : ℕ) (a b : List ℕ) → (printed_from s im n a).stop ≡ Ok tt
    → printed_from s im n (a ++ b) ≡
    followed (printed_from s im n a) (printed_from s (printed_from s im n a).image (n + (printed_from s im n a).taken) b)
unfolding printed_from
buffers_follow s im n [] b e = rw (add-zero n) (nothing_first im (printed_from s im n b))
buffers_follow s im n (x ∷ []) b e = absurd (never_fine Refusal.MalformedEvent e)
buffers_follow s im n (x ∷ y ∷ []) b e = absurd (never_fine Refusal.MalformedEvent e)
buffers_follow s im n (x ∷ y ∷ z ∷ []) b e = absurd (never_fine Refusal.MalformedEvent e)
buffers_follow s im n (x ∷ y ∷ z ∷ u ∷ []) b e = absurd (never_fine Refusal.MalformedEvent e)
buffers_follow s im n (x ∷ y ∷ z ∷ u ∷ v ∷ []) b e = absurd (never_fine Refusal.MalformedEvent e)
buffers_follow s im n (x ∷ y ∷ z ∷ u ∷ v ∷ w ∷ a) b e =
    go (happening s im (event_of s (word x y) (word z u) (word v w))).reply (happening s im (event_of s (word x y) (word z u) (word v w))).image
    (λ next f. buffers_follow s next (1 + n) a b f) e
  where
    go : (r : Result Answer Refusal) (next : List ℕ)
        → ((m : List ℕ) → (printed_from s m (1 + n) a).stop ≡ Ok tt
        → printed_from s m (1 + n) (a ++ b) ≡ followed (printed_from s m (1 + n) a) (printed_from s (printed_from s m (1 + n) a).image ((1 + n) + (printed_from s m (1 + n) a).taken) b))
        → (prints_on n r next (λ m. printed_from s m (1 + n) a)).stop ≡ Ok tt
        → prints_on n r next (λ m. printed_from s m (1 + n) (a ++ b)) ≡
        followed (prints_on n r next (λ m. printed_from s m (1 + n) a))
        (printed_from s (prints_on n r next (λ m. printed_from s m (1 + n) a)).image (n + (prints_on n r next (λ m. printed_from s m (1 + n) a)).taken) b)
    go (Ok x) next h f =
        let p = printed_from s next (1 + n) a in
        let k : (1 + n) + p.taken ≡ n + (1 + p.taken) = omega arith in
        ap (after_line (line n (Ok x))) (h next f ∙ ap (λ (j : ℕ). followed p (printed_from s p.image j b)) k) ∙
        line_first (line n (Ok x)) p (printed_from s p.image (n + (1 + p.taken)) b)
    go (Err r) next h f = absurd (never_fine r f)

-- and why reading may stop at a refusal: where an event of the first bytes is refused, and these are whole events, nothing more is printed.
pub refusal_ends : (s : Shape) (im : List ℕ) (n : ℕ) (a b : List ℕ) → length a % event_bytes ≡ 0 → (printed_from s im n a).stop ≢ Ok tt
    → printed_from s im n (a ++ b) ≡ printed_from s im n a
unfolding printed_from
refusal_ends s im n [] b e ne = absurd (ne refl)
refusal_ends s im n (x ∷ []) b e ne = absurd (omega arith)
refusal_ends s im n (x ∷ y ∷ []) b e ne = absurd (omega arith)
refusal_ends s im n (x ∷ y ∷ z ∷ []) b e ne = absurd (omega arith)
refusal_ends s im n (x ∷ y ∷ z ∷ u ∷ []) b e ne = absurd (omega arith)
refusal_ends s im n (x ∷ y ∷ z ∷ u ∷ v ∷ []) b e ne = absurd (omega arith)
refusal_ends s im n (x ∷ y ∷ z ∷ u ∷ v ∷ w ∷ a) b e ne =
    go (happening s im (event_of s (word x y) (word z u) (word v w))).reply (happening s im (event_of s (word x y) (word z u) (word v w))).image
    (λ next f. refusal_ends s next (1 + n) a b (omega arith) f) ne
  where
    go : (r : Result Answer Refusal) (next : List ℕ)
        → ((m : List ℕ) → (printed_from s m (1 + n) a).stop ≢ Ok tt → printed_from s m (1 + n) (a ++ b) ≡ printed_from s m (1 + n) a)
        → (prints_on n r next (λ m. printed_from s m (1 + n) a)).stop ≢ Ok tt
        → prints_on n r next (λ m. printed_from s m (1 + n) (a ++ b)) ≡ prints_on n r next (λ m. printed_from s m (1 + n) a)
    go (Ok x) next h f = ap (after_line (line n (Ok x))) (h next f)
    go (Err r) next h f = refl

pub any_rest : (s : Shape) (im : List ℕ) (n : ℕ) (bytes o out after : List ℕ) (text taken : ℕ) (stop : Result ⊤ Refusal)
    → Prints o out text taken stop after (printed_from s im n bytes) → ForAnyRest s im n bytes after taken stop
any_rest s im n bytes o out after text taken stop p rest ended =
    record {
      goes_on = λ e. rw (p.leaves, p.number) (buffers_follow s im n bytes rest (sym p.stops ∙ e));
      ends = λ ne. go (eqb (length bytes % event_bytes) 0) refl (λ e. ne (p.stops ∙ e));
    }
  where
    go : (b : Bool) → eqb (length bytes % event_bytes) 0 ≡ b → ((printed_from s im n bytes).stop ≢ Ok tt)
        → printed_from s im n (bytes ++ rest) ≡ printed_from s im n bytes
    go true l ne = refusal_ends s im n bytes rest (eqb-true (length bytes % event_bytes) 0 l) ne
    go false l ne = rw (ended (eqb-false (length bytes % event_bytes) 0 l), append-nil bytes)
