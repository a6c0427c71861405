-- What is read of a plan's file is what is promised of it. Assumes nothing.
use Rattle.std.specs.Prelude.{Ok, Result, ⊤}
use mathlib.Core.Path.{◌≡◌, refl, sym, ◌∙◌}
use mathlib.Core.List.{List, [], ◌∷◌, ◌++◌}
use mathlib.Core.Bool.{Bool, true, false}
use Prim.Native.Nat.{ℕ, ◌+◌, ◌*◌, ◌<◌, ◌≤◌}
use native.Mathlib.Nat.{zero-add}
use native.Mathlib.Omega.{arith}
use lib.ListN.{length, drop, take}
use lib.Seq.{length-take-le, take-append_seam, sets-eq}
use Rattle.paper.specs.Numbers.{check_plan}
use Rattle.paper.specs.Runner.{words_of}
use Rattle.writes.specs.Written.{written, kept_length}
use Rattle.files.specs.Bytes.{words_length}
use Rattle.files.specs.PlanFiles.{enough, Rest, Decides, ReadsPlan}
use Rattle.files.proofs.LongPlans.{accepted_length, decides_more}
use Rattle.paper.specs.declared.Refusal.{Refusal}

-- the bytes found are no more than the target holds as words
pub few_bytes : (buffer : List ℕ) (found : ℕ) (target : List ℕ) → found ≤ length buffer → length buffer < 2 * length target + 2
    → length (take found buffer) < 2 * length target + 2
few_bytes buffer found target h room = rw (length-take-le found buffer h) (omega arith)

module _ (buffer : List ℕ) (found : ℕ) (target after : List ℕ) (count : ℕ) (h : found ≤ length buffer) (room : length buffer < 2 * length target + 2)
    (ec : count ≡ length (words_of (take found buffer))) (ea : after ≡ written target 0 (words_of (take found buffer))) where
  pub words_inside : count ≤ length after
  words_inside = omega (arith, few_bytes buffer found target h room, words_length (take found buffer), kept_length target after 0 (words_of (take found buffer)) ea)

  pub words_taken : take count after ≡ words_of (take found buffer)
  unfolding written
  words_taken =
      let vs = words_of (take found buffer) in
      let e : after ≡ vs ++ drop (length vs) target = rw (ea, sets-eq vs target 0 (omega (arith, few_bytes buffer found target h room, words_length (take found buffer))), zero-add) refl in
      rw (e, ec) (take-append_seam vs (drop (length vs) target))

  pub plan_read : (is_odd : Bool) (v : Result ⊤ Refusal) → enough ≤ length buffer → Decides enough (take found buffer) is_odd v
      → (v ≡ Ok tt → check_plan (take count after) ≡ Ok tt) → ReadsPlan (length buffer) (take found buffer) is_odd target after count v
  plan_read is_odd v l d f =
      record {
        counted = ec;
        made = ea;
        decides = decides_more (length buffer) l (take found buffer) is_odd v d;
        inside = words_inside;
        passes = f;
        whole = λ e rest r.
            let short = accepted_length (words_of (take found buffer)) (rw words_taken at (f e)) in
            r.ended (omega (arith, short, words_length (take found buffer)));
      }

-- where the rest has an odd count of bytes only if all that were asked for were found, there is such a file
some_rest : (asked : ℕ) (bytes : List ℕ) (is_odd : Bool) → (is_odd ≡ true → asked ≤ length bytes) → (rest : List ℕ) × Rest asked bytes rest is_odd
some_rest asked bytes true h = (0 ∷ [], record { parity = refl; ended = λ l. absurd (omega (arith, h refl)) })
some_rest asked bytes false h = ([], record { parity = refl; ended = λ l. refl })

-- so the promise allows one outcome alone
pub plan_once : (asked : ℕ) (bytes : List ℕ) (is_odd : Bool) → (is_odd ≡ true → asked ≤ length bytes)
    → (target a b : List ℕ) (j k : ℕ) (v w : Result ⊤ Refusal) → ReadsPlan asked bytes is_odd target a j v → ReadsPlan asked bytes is_odd target b k w
    → (a ≡ b) × (j ≡ k) × (v ≡ w)
plan_once asked bytes is_odd h target a b j k v w p q =
    let r = some_rest asked bytes is_odd h in
    (p.made ∙ sym q.made, p.counted ∙ sym q.counted, p.decides r.0 r.1 ∙ sym (q.decides r.0 r.1))
