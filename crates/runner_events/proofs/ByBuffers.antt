-- A file of events read in buffers: the runner's text is the text of its buffers, one after another. Assumes nothing.
use Rattle.std.specs.Prelude.{Err, Ok, Result, ⊤}
use mathlib.Core.Path.{◌≡◌, refl, sym, ap, ◌∙◌}
use mathlib.Core.List.{List, [], ◌∷◌, ◌++◌, append-nil}
use Prim.Native.Nat.{ℕ, ◌+◌, ◌%◌}
use lib.ListN.{length}
use Rattle.paper.specs.Plans.{plan_shape, fresh}
use Rattle.paper.specs.Runner.{words_of, check_file, line, Printed, printed_from, runner}
use Rattle.paper.specs.declared.Shape.{Shape}
use Rattle.paper.specs.declared.Refusal.{Refusal}
use Rattle.laws.specs.Checked.{never_fine}
use Rattle.runner_events.specs.Buffers.{event_bytes}
use Rattle.runner_events.proofs.Printing.{buffers_follow, refusal_ends}

-- the bytes of all buffers
abbrev pub all_bytes : List (List ℕ) → List ℕ
all_bytes [] = []
all_bytes (b ∷ bs) = b ++ all_bytes bs

-- all buffers but the last hold whole events
abbrev pub Cut : List (List ℕ) → Type 0
Cut [] = Unit {0}
Cut (b ∷ []) = Unit {0}
Cut (b ∷ c ∷ bs) = (length b % event_bytes ≡ 0) × Cut (c ∷ bs)

-- what is printed for one buffer after another, up to a refusal
abbrev pub unless_refused : Result ⊤ Refusal → List ℕ → List ℕ
unless_refused (Ok tt) later = later
unless_refused (Err r) later = []

abbrev pub by_buffers : Shape → List ℕ → ℕ → List (List ℕ) → List ℕ
by_buffers s im n [] = []
by_buffers s im n (b ∷ bs) =
    let p = printed_from s im n b in
    p.text ++ unless_refused p.stop (by_buffers s p.image (n + p.taken) bs)

nothing_later : (v : Result ⊤ Refusal) → unless_refused v [] ≡ []
nothing_later (Ok tt) = refl
nothing_later (Err r) = refl

-- it is what is printed for all bytes
pub buffers_text : (s : Shape) (im : List ℕ) (n : ℕ) (bs : List (List ℕ)) → Cut bs → by_buffers s im n bs ≡ (printed_from s im n (all_bytes bs)).text
unfolding printed_from
buffers_text s im n [] cut = refl
buffers_text s im n (b ∷ []) cut =
    rw (nothing_later (printed_from s im n b).stop, append-nil (printed_from s im n b).text, append-nil b)
buffers_text s im n (b ∷ c ∷ bs) cut =
    let p = printed_from s im n b in
    go p.stop refl (buffers_text s p.image (n + p.taken) (c ∷ bs) cut.1)
  where
    rest : List ℕ
    rest = all_bytes (c ∷ bs)

    go : (v : Result ⊤ Refusal) → (printed_from s im n b).stop ≡ v
        → by_buffers s (printed_from s im n b).image (n + (printed_from s im n b).taken) (c ∷ bs) ≡
        (printed_from s (printed_from s im n b).image (n + (printed_from s im n b).taken) rest).text
        → (printed_from s im n b).text ++
        unless_refused v (by_buffers s (printed_from s im n b).image (n + (printed_from s im n b).taken) (c ∷ bs)) ≡
        (printed_from s im n (b ++ rest)).text
    go (Ok tt) e h =
        ap (λ (l : List ℕ). (printed_from s im n b).text ++ l) h ∙ sym (ap (λ (p : Printed). p.text) (buffers_follow s im n b rest e))
    go (Err r) e h =
        append-nil (printed_from s im n b).text ∙
        sym (ap (λ (p : Printed). p.text) (refusal_ends s im n b rest cut.0 (λ f. never_fine r (sym e ∙ f))))

-- the runner's text: of a refused plan, and of an accepted one by its buffers of events
pub refused_text : (plan events : List ℕ) (r : Refusal) → check_file plan ≡ Err r → runner plan events ≡ line 0 (Err r)
unfolding runner
refused_text plan events r e = rw e

pub accepted_text : (plan : List ℕ) (bs : List (List ℕ)) → check_file plan ≡ Ok tt → Cut bs
    → runner plan (all_bytes bs) ≡ by_buffers (plan_shape (words_of plan)) (fresh (words_of plan)) 1 bs
unfolding runner
accepted_text plan bs e cut = rw e (sym (buffers_text (plan_shape (words_of plan)) (fresh (words_of plan)) 1 bs cut))
