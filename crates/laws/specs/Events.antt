-- What three words say: the event, told apart once; and the events and images that contracts speak of. Assumes nothing.
use Rattle.std.specs.Prelude.{◌≡◌, List, true, false, ℕ, ◌<◌, ◌≤◌, eqb, leb, ltb, Ok, Result, ⊤}
use Rattle.std.proofs.Common.{sym, ◌∙◌, leb-true, ltb-true}
use Rattle.paper.specs.Image.{task, most_character, shape_of}
use Rattle.paper.specs.Events.{is_tick, is_input, is_output_done, event_of}
use Rattle.paper.specs.Numbers.{check}
use Rattle.paper.specs.Rules.{Good}
use Rattle.paper.specs.declared.Shape.{Shape}
use Rattle.paper.specs.declared.Event.{Event}
use Rattle.laws.specs.Cases.{when}
use Rattle.laws.specs.Checked.{all_three, checked_good}
use Rattle.paper.specs.declared.Refusal.{Refusal}

-- whatever holds of the event that each test tells of, with what the test showed, holds of the event of three words
pub words_any : (s : Shape) (k d c : ℕ) (P : Event → Type 0) → (is_tick k d c ≡ true → P Event.Tick)
    → (is_tick k d c ≡ false → d < s.n → c ≤ most_character → P (Event.Input (task d) c))
    → (is_tick k d c ≡ false → d < s.n → P (Event.OutputDone (task d))) → (is_tick k d c ≡ false → P Event.Malformed) → P (event_of s k d c)
unfolding event_of
words_any s k d c P ticks inputs dones others =
    when P (is_tick k d c) ticks (λ f.
    when P (is_input s k d c) (λ e.
    let r = (all_three (eqb k 1) (ltb d s.n) (leb c most_character)).0 e in
    inputs f (ltb-true d s.n r.1) (leb-true c most_character r.2)) (λ _.
    when P (is_output_done s k d c) (λ e. dones f (ltb-true d s.n ((all_three (eqb k 2) (ltb d s.n) (eqb c 0)).0 e).1)) (λ _. others f)))

-- an event of tasks of this image, with a character; shut, as contracts say it
unfoldable pub Formed : Shape → Event → Type 0
Formed s Event.Tick = Unit {0}
Formed s (Event.Input i c) = (i.0 < s.n) × (c ≤ most_character)
Formed s (Event.OutputDone i) = i.0 < s.n
Formed s Event.Malformed = Unit {0}

-- what an event's words say is of this image
pub event_formed : (s : Shape) (k d c : ℕ) → Formed s (event_of s k d c)
unfolding Formed
event_formed s k d c = words_any s k d c (Formed s) (λ _. tt) (λ _ h l. (h, l)) (λ _ h. h) (λ _. tt)

-- a good image, shut, as contracts say it
unfoldable pub Lawful : Shape → List ℕ → Type 0
Lawful s im = Good s im

pub lawful : {s : Shape} {im : List ℕ} → Good s im → Lawful s im
unfolding Lawful
lawful g = g

pub good : {s : Shape} {im : List ℕ} → Lawful s im → Good s im
unfolding Lawful
good h = h

pub inspected_lawful : (s : Shape) (im : List ℕ) (v : Result ⊤ Refusal) → v ≡ check im → s ≡ shape_of im → v ≡ Ok tt → Lawful s im
inspected_lawful s im v ev es f = rw es (lawful (checked_good im (sym ev ∙ f)))
