-- What holds of each outcome of a tick, told apart rule by rule, holds of the tick. Assumes nothing.
use Rattle.std.specs.Prelude.{◌≡◌, List, false, not, ◌≢◌, ℕ, eqb, None, Option, Some}
use Rattle.std.proofs.Math.Path.{refl}
use Rattle.std.proofs.Common.{eqb-true, eq-eqb, ne_eqb}
use Rattle.std.proofs.lemmas.Bool.{eqb-false, not-true, not-false}
use Rattle.paper.specs.Image.{at, clock}
use Rattle.paper.specs.Queues.{empty}
use Rattle.paper.specs.Flags.{error, pending, waits}
use Rattle.paper.specs.Waking.{Answered}
use Rattle.paper.specs.Services.{asked}
use Rattle.paper.specs.Events.{running, acting, turn_of, tick}
use Rattle.paper.specs.declared.Shape.{Shape}
use Rattle.paper.specs.declared.Queue.{Queue}
use Rattle.paper.specs.declared.Service.{Service}
use Rattle.laws.specs.Cases.{when}
use Rattle.event_laws.specs.Walk.{asked_for, asked_waits, ServiceCases, Begins, serving_any, ordered_any, TickCases}

-- a tick
pub tick_any : {s : Shape} {im : List ℕ} (P : Answered → Type 0) → TickCases s im P → P (tick s im)
unfolding tick turn_of
tick_any {s} {im} P c =
    when P (empty s im Queue.Ready) c.idle (λ some.
    when P (not (eqb (error s im (running s im)) 0)) (λ e. c.stops some (eqb-false _ 0 (not-true _ e))) (λ e.
    when P (eqb (at s im clock) 0) (λ z. c.turns some (eqb-true _ 0 (not-false _ e)) (eqb-true _ 0 z)) (λ z. acts some (eqb-true _ 0 (not-false _ e)) (eqb-false _ 0 z) (asked (pending s im (running s im))) refl)))
  where
    acts : empty s im Queue.Ready ≡ false → error s im (running s im) ≡ 0 → at s im clock ≢ 0 → (x : Option Service) → asked (pending s im (running s im)) ≡ x → P (acting s im (running s im) x)
    acts some calm runs (Some v) e = serving_any P (c.serves some calm runs v (asked_for _ v e))
    acts some calm runs None e = ordered_any P (c.orders some calm runs e)

-- where a service is pending, with no error and time left, a tick is by rule 4
pub serves_any : (s : Shape) (im : List ℕ) → empty s im Queue.Ready ≡ false → error s im (running s im) ≡ 0 → at s im clock ≢ 0
    → (v : Service) → pending s im (running s im) ≡ waits v → (P : Answered → Type 0) → ((m : List ℕ) → Begins s im m → ServiceCases s m (running s im) v P) → P (tick s im)
unfolding tick turn_of
serves_any s im some calm runs v asks P c =
    rw (some, eq-eqb (error s im (running s im)) 0 calm, ne_eqb (at s im clock) 0 runs, asks, asked_waits v) (serving_any P c)
