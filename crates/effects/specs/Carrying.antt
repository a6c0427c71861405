-- An order of the machine in a lent part carried out: which words of the part it writes, and what became of it. Assumes nothing.
use Rattle.std.specs.Prelude.{◌≡◌, Bool, cond, ◌≢◌, ℕ, ◌+◌, ◌*◌, ◌<◌, ◌≤◌, eqb, Err, Ok, Result}
use Rattle.std.proofs.Math.Path.{refl, sym, ap}
use Rattle.std.proofs.Common.{◌∙◌, zero-add, eqb-true}
use mathlib.Core.List.{List}
use Rattle.std.proofs.Math.Bool.{true, false}
use Rattle.std.proofs.Math.Logic.{inr}
use native.Mathlib.Omega.{arith}
use Rattle.std.proofs.lemmas.Bool.{eqb-false}
use Rattle.std.proofs.Math.ListN.{length, get_or, set, length-set}
use Rattle.std.proofs.Math.Seq.{get_or-set_same, get_or-set_other, set-set, set_comm}
use Rattle.paper.specs.Image.{address}
use Rattle.paper.specs.Flags.{flags_of}
use Rattle.paper.specs.Machines.{Machine, put_back}
use Rattle.paper.specs.Orders.{with_register, with_word, moved_past, sets, compared, flags_become, cc, error, pending, decided, changed, faulted, after}
use Rattle.paper.specs.declared.Address.{Address}
use Rattle.paper.specs.declared.Change.{Change}
use Rattle.own.specs.Machines.{RowBeforeSegment, Fits, machine_fits, put_machine, register_fits, word_fits, put_with_register, put_with_flags, put_with_word}
use Rattle.effects.specs.Parts.{Lent, lies_of, address_of, stood_at, machine_of, part_ordered}
use Rattle.effects.specs.Worked.{InHand, Carried, Fell, Done, Worked}
use Rattle.effects.specs.Holding.{flags_held, is_lent, is_quiet, is_from}
use Rattle.effects.specs.declared.Aim.{Aim}
use Rattle.effects.specs.declared.Segment.{Segment}
use Rattle.effects.specs.declared.Went.{Went}

-- the part after each change
module _ (g : Segment) (p : List ℕ) (at : Aim) (lent : Lent g p) where
  apart : RowBeforeSegment (lies_of g) (stood_at g p at)
  unfolding Lent
  apart = (omega (arith, lent), omega (arith, lent, length-set p 0 (address_of g at)))

  fits : Fits (lies_of g) (machine_of g p at)
  fits = machine_fits (lies_of g) (stood_at g p at)

  abbrev made : Machine → List ℕ
  made m = put_back (lies_of g) (stood_at g p at) m

  -- one word more
  register_made : (m : Machine) → Fits (lies_of g) m → (r w : ℕ) → r < 8 → made (with_register m r w) ≡ set (made m) r w
  register_made m f r w h =
      put_with_register (lies_of g) (stood_at g p at) m f apart r w h ∙ ap (λ (k : ℕ). set (made m) k w) (zero-add r)

  word_made : (m : Machine) → Fits (lies_of g) m → (a : Address) (w : ℕ) → g.from + a.0 < g.to → made (with_word m a w) ≡ set (made m) (g.from + a.0) w
  word_made m f a w h = put_with_word (lies_of g) (stood_at g p at) m f a w (omega arith)

  -- R0 moved past the order
  past_fits : (n : ℕ) → Fits (lies_of g) (moved_past (machine_of g p at) n)
  past_fits n = register_fits (lies_of g) (machine_of g p at) fits 0 n

  past_made : (n : ℕ) → made (moved_past (machine_of g p at) n) ≡ set p 0 n
  past_made n =
      register_made (machine_of g p at) fits 0 n (omega arith) ∙
      ap (λ (l : List ℕ). set l 0 n) (put_machine (lies_of g) (stood_at g p at)) ∙ set-set p 0 (address_of g at) n

  -- R1 and R0 written anew
  stack_made : (m : Machine) → Fits (lies_of g) m → (top v : ℕ) → made (with_register (with_register m 1 top) 0 v) ≡ set (set (made m) 1 top) 0 v
  stack_made m f top v =
      register_made (with_register m 1 top) (register_fits (lies_of g) m f 1 top) 0 v (omega arith) ∙
      ap (λ (l : List ℕ). set l 0 v) (register_made m f 1 top (omega arith))

  module _ (n : ℕ) where
    ordered_does : (c : Change) → decided (machine_of g p at) ≡ Ok (n, c) → part_ordered g (stood_at g p at) ≡ made (changed (machine_of g p at) n c)
    unfolding part_ordered
    ordered_does c e = ap (λ (x : Result (ℕ × Change) ℕ). made (after (machine_of g p at) x)) e

    ordered_register : (a w : ℕ) → a < 8 → decided (machine_of g p at) ≡ Ok (n, Change.Register a w)
        → part_ordered g (stood_at g p at) ≡ set (set p 0 n) a w
    unfolding changed
    ordered_register a w h e =
        ordered_does (Change.Register a w) e ∙ register_made (moved_past (machine_of g p at) n) (past_fits n) a w h ∙
        ap (λ (l : List ℕ). set l a w) (past_made n)

    ordered_store : (a : Address) (w : ℕ) → g.from + a.0 < g.to → decided (machine_of g p at) ≡ Ok (n, Change.Store a w)
        → part_ordered g (stood_at g p at) ≡ set (set p 0 n) (g.from + a.0) w
    unfolding changed
    ordered_store a w h e =
        ordered_does (Change.Store a w) e ∙ word_made (moved_past (machine_of g p at) n) (past_fits n) a w h ∙
        ap (λ (l : List ℕ). set l (g.from + a.0) w) (past_made n)

    ordered_flags : (f : ℕ) → decided (machine_of g p at) ≡ Ok (n, Change.Flags f) → part_ordered g (stood_at g p at) ≡ set (set p 0 n) 8 f
    unfolding changed
    ordered_flags f e =
        ordered_does (Change.Flags f) e ∙
        put_with_flags (lies_of g) (stood_at g p at) (moved_past (machine_of g p at) n) (past_fits n) apart f ∙
        ap (λ (l : List ℕ). set l 8 f) (past_made n)

    ordered_call : (top : Address) (v : ℕ) → g.from + top.0 < g.to → decided (machine_of g p at) ≡ Ok (n, Change.Call top v)
        → part_ordered g (stood_at g p at) ≡ set (set (set (set p 0 n) (g.from + top.0) n) 1 top.0) 0 v
    unfolding changed
    ordered_call top v h e =
        let past = moved_past (machine_of g p at) n in
        ordered_does (Change.Call top v) e ∙ stack_made (with_word past top n) (word_fits (lies_of g) past (past_fits n) top n) top.0 v ∙
        ap (λ (l : List ℕ). set (set l 1 top.0) 0 v)
        (word_made past (past_fits n) top n h ∙ ap (λ (l : List ℕ). set l (g.from + top.0) n) (past_made n))

    ordered_return : (top v : ℕ) → decided (machine_of g p at) ≡ Ok (n, Change.Return top v)
        → part_ordered g (stood_at g p at) ≡ set (set (set p 0 n) 1 top) 0 v
    unfolding changed
    ordered_return top v e =
        ordered_does (Change.Return top v) e ∙ stack_made (moved_past (machine_of g p at) n) (past_fits n) top v ∙
        ap (λ (l : List ℕ). set (set l 1 top) 0 v) (past_made n)

  ordered_faults : (e : ℕ) → decided (machine_of g p at) ≡ Err e
      → part_ordered g (stood_at g p at) ≡ set (stood_at g p at) 8 (flags_of (cc (machine_of g p at)) e (pending (machine_of g p at)))
  unfolding part_ordered faulted
  ordered_faults e h =
      let m = machine_of g p at in
      ap (λ (x : Result (ℕ × Change) ℕ). made (after m x)) h ∙ put_with_flags (lies_of g) (stood_at g p at) m fits apart (flags_of (cc m) e (pending m)) ∙
      ap (λ (l : List ℕ). set l 8 (flags_of (cc m) e (pending m))) (put_machine (lies_of g) (stood_at g p at))

-- what became of the order, by what was written
module _ (g : Segment) (p : List ℕ) (at : Aim) (hand : InHand g p at) where
  lent : Lent g p
  lent = is_lent g p at hand

  -- another follows at a place that an address leads to, of a part as long, with no error and nothing pending
  goes_on : (y : Aim) (v : ℕ) (out : List ℕ) → y.0 ≡ g.from + v → v < 65536 → length out ≡ length p → get_or out 8 0 < 4
      → set out 0 v ≡ part_ordered g (stood_at g p at) → Done g p at (Went.On y) out
  unfolding Done Carried InHand Lent
  goes_on y v out ey low long quiet e =
      let a : address_of g y ≡ v = omega arith in (
        ap (λ (k : ℕ). set out 0 k) a ∙ e,
        ((omega (arith, lent), omega (arith, lent), omega (arith, lent, long), omega (arith, lent)), quiet, omega arith, omega arith),
      )

  -- flags without error, nothing pending, are their condition
  bare : cc (machine_of g p at) ≡ get_or p 8 0
  bare = omega (arith, flags_held g p at, is_quiet g p at hand)

  error_free : error (machine_of g p at) ≡ 0
  error_free = omega (arith, flags_held g p at, is_quiet g p at hand)

  none_pending : pending (machine_of g p at) ≡ 0
  none_pending = omega (arith, flags_held g p at, is_quiet g p at hand)

  quiet_set : (k v : ℕ) → k ≢ 8 → get_or (set p k v) 8 0 < 4
  quiet_set k v ne = omega (arith, get_or-set_other p k 8 v 0 (λ e. ne (sym e)), is_quiet g p at hand)

  -- a fault, and a service asked for
  pub fault_went : (e : ℕ) (m out : List ℕ) → 0 < e → decided (machine_of g p at) ≡ Err e → m ≡ stood_at g p at → out ≡ set m 8 (get_or m 8 0 + 4 * e)
      → Fell g p at Went.Off out
  unfolding Fell Carried Lent
  fault_went e m out some ed em eo =
      let row : 8 < length m = rw em (omega (arith, lent, length-set p 0 (address_of g at))) in
      let kept : get_or (stood_at g p at) 8 0 ≡ get_or p 8 0 = get_or-set_other p 0 8 (address_of g at) 0 (λ z. omega arith) in
      let f : get_or (stood_at g p at) 8 0 + 4 * e ≡ flags_of (cc (machine_of g p at)) e (pending (machine_of g p at)) = omega (arith, kept, bare, none_pending) in (
        refl,
        eo ∙ ap (λ (l : List ℕ). set l 8 (get_or l 8 0 + 4 * e)) em ∙ ap (λ (v : ℕ). set (stood_at g p at) 8 v) f ∙ sym (ordered_faults g p at lent e ed),
        rw eo (omega (arith, get_or-set_same m 8 (get_or m 8 0 + 4 * e) 0 row)),
      )

  pub ask_went : (a : ℕ) (next : Aim) (m out : List ℕ) → 0 < a → next.0 ≡ at.0 + 1
      → decided (machine_of g p at) ≡ flags_become (address_of g at + 1) (flags_of (cc (machine_of g p at)) (error (machine_of g p at)) a)
      → m ≡ stood_at g p next → out ≡ set m 8 (get_or m 8 0 + 32 * a) → Done g p at Went.Off out
  unfolding Done Carried Lent
  ask_went a next m out some en ed em eo =
      let row : 8 < length m = rw em (omega (arith, lent, length-set p 0 (address_of g next))) in
      let n : address_of g next ≡ address_of g at + 1 = omega (arith, is_from g p at hand) in
      let kept : get_or (stood_at g p next) 8 0 ≡ get_or p 8 0 = get_or-set_other p 0 8 (address_of g next) 0 (λ z. omega arith) in
      let f : get_or (stood_at g p next) 8 0 + 32 * a ≡ flags_of (cc (machine_of g p at)) (error (machine_of g p at)) a = omega (arith, kept, bare, error_free) in (
        eo ∙ ap (λ (l : List ℕ). set l 8 (get_or l 8 0 + 32 * a)) em ∙ ap (λ (v : ℕ). set (stood_at g p next) 8 v) f ∙
            ap (λ (k : ℕ). set (set p 0 k) 8 (flags_of (cc (machine_of g p at)) (error (machine_of g p at)) a)) n ∙
            sym (ordered_flags g p at lent (address_of g at + 1) (flags_of (cc (machine_of g p at)) (error (machine_of g p at)) a) ed),
        rw eo (omega (arith, get_or-set_same m 8 (get_or m 8 0 + 32 * a) 0 row)),
      )

  -- a jump
  pub jump_went : (n v : ℕ) (y : Aim) → decided (machine_of g p at) ≡ sets n 0 v → y.0 ≡ g.from + v → v < 65536 → Done g p at (Went.On y) p
  jump_went n v y ed ey low =
      goes_on y v p ey low refl (is_quiet g p at hand)
      (sym (set-set p 0 n v) ∙ sym (ordered_register g p at lent n 0 v (omega arith) ed))

  -- the next order so many words on
  module _ (k : ℕ) (next : Aim) (inside : at.0 < g.to) (en : next.0 ≡ at.0 + k) (two : k ≤ 2) where
    next_is : next.0 ≡ g.from + (address_of g at + k)
    next_is = omega (arith, is_from g p at hand)

    next_low : address_of g at + k < 65536
    unfolding Lent
    next_low = omega (arith, lent)

    -- a register
    register_on : (a v : ℕ) → a < 8 → a ≢ 0 → decided (machine_of g p at) ≡ sets (address_of g at + k) a v → Done g p at (Went.On next) (set p a v)
    register_on a v h ne ed =
        goes_on next (address_of g at + k) (set p a v) next_is next_low (length-set p a v) (quiet_set a v (λ e. omega arith))
        (set_comm p a 0 v (address_of g at + k) ne ∙ sym (ordered_register g p at lent (address_of g at + k) a v h ed))

    register_off : (a v : ℕ) → a ≡ 0 → decided (machine_of g p at) ≡ sets (address_of g at + k) a v → Worked g p at a Went.Off (set p a v)
    unfolding Worked Carried
    register_off a v e ed = (
      ap (λ (j : ℕ). set p j v) e ∙ sym (set-set p 0 (address_of g at + k) v) ∙
          ap (λ (j : ℕ). set (set p 0 (address_of g at + k)) j v) (sym e) ∙
          sym (ordered_register g p at lent (address_of g at + k) a v (omega arith) ed),
      inr e,
    )

    register_case : (a v : ℕ) (t : Bool) → eqb a 0 ≡ t → a < 8 → decided (machine_of g p at) ≡ sets (address_of g at + k) a v
        → Worked g p at a (cond t Went.Off (Went.On next)) (set p a v)
    unfolding Worked
    register_case a v true e h ed = register_off a v (eqb-true a 0 e) ed
    register_case a v false e h ed = register_on a v h (eqb-false a 0 e) ed

    pub set_went : (a v : ℕ) (r : Went) (out : List ℕ) → a < 8 → decided (machine_of g p at) ≡ sets (address_of g at + k) a v
        → r ≡ cond (eqb a 0) Went.Off (Went.On next) → out ≡ set p a v → Worked g p at a r out
    set_went a v r out h ed er eo = rw (er, eo) (register_case a v (eqb a 0) refl h ed)

  module _ (next : Aim) (inside : at.0 < g.to) (en : next.0 ≡ at.0 + 1) where
    -- a word of the segment
    pub store_went : (a v j : ℕ) (out : List ℕ) → decided (machine_of g p at) ≡ Ok (address_of g at + 1, Change.Store (address a) v)
        → j ≡ g.from + a → j < g.to → out ≡ set p j v → Done g p at (Went.On next) out
    unfolding Lent
    store_went a v j out ed ej h eo =
        let n = address_of g at + 1 in
        goes_on next n out (next_is 1 next inside en (omega arith)) (next_low 1 next inside en (omega arith))
        (ap (λ (l : List ℕ). length l) eo ∙ length-set p j v)
        (rw eo (quiet_set j v (λ e. omega (arith, lent))))
        (ap (λ (l : List ℕ). set l 0 n) eo ∙ set_comm p j 0 v n (λ e. omega (arith, lent)) ∙
        ap (λ (i : ℕ). set (set p 0 n) i v) ej ∙ sym (ordered_store g p at lent n (address a) v (omega arith) ed))

    -- a condition
    pub compare_went : (x y : ℕ) (out : List ℕ) → compared x y < 4
        → decided (machine_of g p at) ≡ flags_become (address_of g at + 1) (flags_of (compared x y) (error (machine_of g p at)) (pending (machine_of g p at)))
        → out ≡ set p 8 (compared x y) → Done g p at (Went.On next) out
    unfolding Lent
    compare_went x y out low ed eo =
        let n = address_of g at + 1 in
        let f : compared x y ≡ flags_of (compared x y) (error (machine_of g p at)) (pending (machine_of g p at)) = omega (arith, error_free, none_pending) in
        goes_on next n out (next_is 1 next inside en (omega arith)) (next_low 1 next inside en (omega arith))
        (ap (λ (l : List ℕ). length l) eo ∙ length-set p 8 (compared x y))
        (rw eo (omega (arith, get_or-set_same p 8 (compared x y) 0 (omega (arith, lent)))))
        (ap (λ (l : List ℕ). set l 0 n) eo ∙ set_comm p 8 0 (compared x y) n (λ e. omega arith) ∙
        ap (λ (v : ℕ). set (set p 0 n) 8 v) f ∙
        sym (ordered_flags g p at lent n (flags_of (compared x y) (error (machine_of g p at)) (pending (machine_of g p at))) ed))

  -- a call: the return address at a place of the segment, then R1
  pub call_went : (n top v j : ℕ) (y : Aim) (out : List ℕ) → decided (machine_of g p at) ≡ Ok (n, Change.Call (address top) v)
      → j ≡ g.from + top → j < g.to → out ≡ set (set p j n) 1 top → y.0 ≡ g.from + v → v < 65536 → Done g p at (Went.On y) out
  unfolding Lent
  call_went n top v j y out ed ej h e ey low =
      let kept : get_or (set (set p j n) 1 top) 8 0 ≡ get_or (set p j n) 8 0 = get_or-set_other (set p j n) 1 8 top 0 (λ z. omega arith) in
      let inner : set (set (set (set p 0 n) j n) 1 top) 0 v ≡ set (set (set p j n) 1 top) 0 v =
      ap (λ (l : List ℕ). set (set l 1 top) 0 v) (set_comm p 0 j n n (λ z. omega (arith, lent))) ∙
      ap (λ (l : List ℕ). set l 0 v) (set_comm (set p j n) 0 1 n top (λ z. omega arith)) ∙ set-set (set (set p j n) 1 top) 0 n v in
      goes_on y v out ey low
      (ap (λ (l : List ℕ). length l) e ∙ length-set (set p j n) 1 top ∙ length-set p j n)
      (rw e (omega (arith, kept, quiet_set j n (λ z. omega (arith, lent)))))
      (ap (λ (l : List ℕ). set l 0 v) e ∙ sym inner ∙ ap (λ (i : ℕ). set (set (set (set p 0 n) i n) 1 top) 0 v) ej ∙
      sym (ordered_call g p at lent n (address top) v (omega arith) ed))

  -- a return
  pub return_went : (n top v : ℕ) (y : Aim) (out : List ℕ) → decided (machine_of g p at) ≡ Ok (n, Change.Return top v)
      → out ≡ set p 1 top → y.0 ≡ g.from + v → v < 65536 → Done g p at (Went.On y) out
  return_went n top v y out ed eo ey low =
      let inner : set (set (set p 0 n) 1 top) 0 v ≡ set (set p 1 top) 0 v =
      ap (λ (l : List ℕ). set l 0 v) (set_comm p 0 1 n top (λ z. omega arith)) ∙ set-set (set p 1 top) 0 n v in
      goes_on y v out ey low
      (ap (λ (l : List ℕ). length l) eo ∙ length-set p 1 top)
      (rw eo (quiet_set 1 top (λ z. omega arith)))
      (ap (λ (l : List ℕ). set l 0 v) eo ∙ sym inner ∙ sym (ordered_return g p at lent n top v ed))
