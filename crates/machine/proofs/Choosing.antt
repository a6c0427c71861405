-- What the functions that decide ask and answer, as laws over values. Assumes nothing.
use Rattle.std.specs.Prelude.{Option, ℕ, Some}
use mathlib.Core.Path.{◌≡◌, refl, sym, ap, ◌∙◌}
use mathlib.Core.List.{List}
use mathlib.Core.Bool.{Bool, true, false, cond, not, ◌&&◌, ◌||◌, and-eq-true_iff, or-true, or-false}
use mathlib.Core.Logic.{◌≢◌, ◌⊎◌, inl, inr}
use Prim.Native.Nat.{ℕ, ◌+◌, ◌*◌, ◌/◌, ◌%◌, ◌<◌, ◌≤◌}
use native.Mathlib.Omega.{arith}
use borrow.Author.Tests.{eq-eqb, ne_eqb, eqb-false, le-leb, lt-leb, leb-true, not-false}
use lib.Dec.{eqb, leb}
use lib.ListN.{length, get_or, set, length-set}
use lib.Seq.{get_or-set_same, get_or-set_other, set-set}
use Rattle.paper.specs.Orders.{op_of, a_of, order_of, two_registers, shape_of_order, mod_word}
use Rattle.paper.specs.declared.Op.{Op}
use Rattle.order_table.specs.Entries.{kind_of_order, entry_of, kind_of, decoded}
use Rattle.effects.specs.Parts.{Lent, reach_of, address_of, stood_at, part_ordered}
use Rattle.machine.specs.InRow.{names_next, ends_row}
use Rattle.effects.specs.Worked.{InHand, Carried, Loud, Fell, Done, Worked}
use Rattle.machine.specs.After.{Fetched, After}
use Rattle.effects.specs.Holding.{is_lent, is_quiet, is_from, is_some, is_row}
use Rattle.machine.proofs.Deciding.{is_inside, shape_read, shape_at, load_shape, call_shape, return_shape, either_jump, load_acts, return_acts, jump_taken, jump_passed, service_acts, a_is, b_is, loaded}
use Rattle.effects.specs.Carrying.{set_went, jump_went, return_went, ask_went}
use Rattle.effects.specs.declared.Aim.{Aim}
use Rattle.effects.specs.declared.PartPlace.{PartPlace}
use Rattle.effects.specs.declared.Segment.{Segment}
use Rattle.effects.specs.declared.Went.{Went}
use Rattle.paper.specs.declared.Field.{Field}

-- an order ends its row where it left an error or a service pending, or names R0
module _ (g : Segment) (p : List ℕ) (at : Aim) (hand : InHand g p at) where
  own_word : get_or (stood_at g p at) (g.from + get_or (stood_at g p at) 0 0) 0 ≡ get_or p at.0 0
  unfolding Lent
  own_word =
      let r0 : g.from + get_or (stood_at g p at) 0 0 ≡ at.0 = omega (arith, get_or-set_same p 0 (address_of g at) 0 (is_some g p at hand), is_from g p at hand) in
      ap (λ (k : ℕ). get_or (stood_at g p at) k 0) r0 ∙ get_or-set_other p 0 at.0 (address_of g at) 0 (λ e. omega (arith, is_from g p at hand, is_lent g p at hand))

  ends_is : ends_row g (stood_at g p at) ≡ (leb 4 (get_or (part_ordered g (stood_at g p at)) 8 0) || names_next (shape_of_order (order_of (op_of (get_or p at.0 0)))) (get_or p at.0 0))
  unfolding ends_row
  ends_is = rw own_word

  loud_ends : (out : List ℕ) → Carried g p at out → Loud out → ends_row g (stood_at g p at) ≡ true
  unfolding Carried
  loud_ends out c loud = ends_is ∙ rw (← c, le-leb 4 (get_or out 8 0) loud)

  named_ends : (w : ℕ) → w ≡ get_or p at.0 0 → names_next (shape_of_order (order_of (op_of w))) w ≡ true → ends_row g (stood_at g p at) ≡ true
  named_ends w ew n = ends_is ∙ rw (← ew, n) (or-true (leb 4 (get_or (part_ordered g (stood_at g p at)) 8 0)))

  quiet_goes : (w : ℕ) (y : Aim) (out : List ℕ) → w ≡ get_or p at.0 0 → names_next (shape_of_order (order_of (op_of w))) w ≡ false → Done g p at (Went.On y) out
      → ends_row g (stood_at g p at) ≡ false
  unfolding Done Carried
  quiet_goes w y out ew n d =
      let calm : get_or (stood_at g out y) 8 0 < 4 = omega (arith, get_or-set_other out 0 8 (address_of g y) 0 (λ e. omega arith), is_quiet g out y d.1) in
      ends_is ∙ rw (← ew, n, ← d.0, lt-leb 4 (get_or (stood_at g out y) 8 0) calm)

  -- so what became of an order tells whether it does
  pub fell_after : (r : Went) (out : List ℕ) → Fell g p at r out → After g p at r out
  unfolding Fell After
  fell_after r out f = rw f.0 (f.1, loud_ends out f.1 f.2)

  module _ (w : ℕ) (fetched : Fetched g p at w) where
    word_of : w ≡ get_or p at.0 0
    unfolding Fetched
    word_of = fetched.1

    -- whether a field names R0 is told by the entry too
    names_read : (b : Bool) → names_next (decoded (entry_of w)) w ≡ b → names_next (shape_of_order (order_of (op_of w))) w ≡ b
    names_read b n = sym (ap (λ (sh : Option (ℕ × Field × Field)). names_next sh w) (shape_read g p at w hand fetched)) ∙ n

    done_after : names_next (decoded (entry_of w)) w ≡ false → (r : Went) (out : List ℕ) → Done g p at r out → After g p at r out
    unfolding After Done
    done_after n (Went.On y) out h = (h, quiet_goes w y out word_of (names_read false n) h)
    done_after n Went.Off out h = (h.0, loud_ends out h.0 h.1)
    done_after n (Went.Left v) out h = absurd h

    -- an order that writes a register other than R0
    worked_after : (a : ℕ) → a ≢ 0 → names_next (decoded (entry_of w)) w ≡ false → (r : Went) (out : List ℕ) → Worked g p at a r out → After g p at r out
    unfolding After Worked
    worked_after a ne n (Went.On y) out h = (h, quiet_goes w y out word_of (names_read false n) h)
    worked_after a ne n Went.Off out h = (h.0, go h.1)
      where
        go : Loud out ⊎ (a ≡ 0) → ends_row g (stood_at g p at) ≡ true
        go (inl loud) = loud_ends out h.0 loud
        go (inr z) = absurd (ne z)
    worked_after a ne n (Went.Left v) out h = absurd h

    -- load
    module _ (ek : kind_of w ≡ kind_of_order Op.Load) (a : ℕ) (ea : a ≡ w / 16 % 8) (next : Aim) where
      load_names : names_next (decoded (entry_of w)) w ≡ eqb a 0
      load_names = rw (load_shape g p at w hand fetched ek, loaded g p at w hand fetched ek a ea) (or-false (eqb (a_of w) 0))

      load_case : (t : Bool) → eqb a 0 ≡ t → (out : List ℕ) → Worked g p at a (cond t Went.Off (Went.On next)) out → After g p at (cond t Went.Off (Went.On next)) out
      unfolding After Worked
      load_case true z out h = (h.0, named_ends w word_of (names_read true (load_names ∙ z)))
      load_case false z out h = worked_after a (eqb-false a 0 z) (load_names ∙ z) (Went.On next) out h

      load_after : (r : Went) (out : List ℕ) → r ≡ cond (eqb a 0) Went.Off (Went.On next) → Worked g p at a r out → After g p at r out
      load_after r out er h = rw er (load_case (eqb a 0) refl out (rw er at h))

    -- an order of two registers, of which one may be R0
    module _ (sh : decoded (entry_of w) ≡ two_registers) (a b : ℕ) (ea : a ≡ w / 16 % 8) (eb : b ≡ w % 8) where
      two_names : names_next (decoded (entry_of w)) w ≡ (eqb a 0 || eqb b 0)
      two_names = rw (sh, a_is g p at w hand fetched sh a b ea eb, b_is g p at w hand fetched sh a b ea eb)

      pub two_after : a ≢ 0 → b ≢ 0 → (r : Went) (out : List ℕ) → Worked g p at a r out → After g p at r out
      two_after na nb r out h = worked_after a na (two_names ∙ rw (ne_eqb a 0 na, ne_eqb b 0 nb)) r out h

      left_as : (eqb a 0 || eqb b 0) ≡ true → After g p at (Went.Left w) p
      unfolding After
      left_as n = (refl, fetched, sh, named_ends w word_of (names_read true (two_names ∙ n)))

      pub r0_left : (a ≡ 0) ⊎ (a ≢ 0 × b ≡ 0) → After g p at (Went.Left w) p
      r0_left (inl z) = left_as (rw (eq-eqb a 0 z))
      r0_left (inr z) = left_as (rw (eq-eqb b 0 z.1) (or-true (eqb a 0)))

-- the registers that the fields name
module _ (g : Segment) (p : List ℕ) (at : Aim) (w : ℕ) (hand : InHand g p at) where
  pub a_in : (a : ℕ) → a ≡ w / 16 % 8 → a < length p
  a_in a e = omega (arith, is_row g p at hand)

  pub b_in : (b : ℕ) → b ≡ w % 8 → b < length p
  b_in b e = omega (arith, is_row g p at hand)

pub a_register : (a w : ℕ) → a ≡ w / 16 % 8 → a < 8
a_register a w e = omega arith

-- what became of an order
module _ (g : Segment) (p : List ℕ) (at : Aim) (w : ℕ) (hand : InHand g p at) (fetched : Fetched g p at w) where
  pub load_next : kind_of w ≡ kind_of_order Op.Load → (a n : ℕ) (x next : Aim) (r : Option PartPlace) (k : PartPlace) (z : Went) (out : List ℕ) → a ≡ w / 16 % 8
      → x.0 ≡ at.0 + 1 → r ≡ reach_of g x → r ≡ Some k → n ≡ get_or p k.0 0 → next.0 ≡ at.0 + 2 → z ≡ cond (eqb a 0) Went.Off (Went.On next) → out ≡ set p a n
      → After g p at z out
  load_next e a n x next r k z out ea ex er ek en enext ez eo =
      load_after g p at hand w fetched e a ea next z out ez
      (set_went g p at hand 2 next (is_inside g p at w hand fetched) enext (omega arith) a n z out (omega arith) (load_acts g p at w hand fetched e a ea x r k n ex er ek en) ez eo)

  pub call_after : kind_of w ≡ kind_of_order Op.Call → (r : Went) (out : List ℕ) → Done g p at r out → After g p at r out
  call_after e r out h = done_after g p at hand w fetched (rw (call_shape g p at w hand fetched e)) r out h

  pub return_next : kind_of w ≡ kind_of_order Op.Return → (v n top : ℕ) (x y : Aim) (r : Option PartPlace) (k : PartPlace) (out : List ℕ) → v ≡ get_or p 1 0 → x.0 ≡ g.from + v
      → r ≡ reach_of g x → r ≡ Some k → n ≡ get_or p k.0 0 → top ≡ mod_word (v + 1) → out ≡ set p 1 top → y.0 ≡ g.from + n → n < 65536
      → After g p at (Went.On y) out
  return_next e v n top x y r k out ev ex er ek en etop eo ey low =
      done_after g p at hand w fetched (rw (return_shape g p at w hand fetched e)) (Went.On y) out
      (return_went g p at hand _ top n y out (return_acts g p at w hand fetched e v ev x ex r er k n top ek en etop) eo ey low)

  module _ (ek : kind_of w ≡ kind_of_order Op.Jump) (low : a_of w ≤ 2) (x : Aim) (r : Option PartPlace) (ex : x.0 ≡ at.0 + 1) (er : r ≡ reach_of g x)
      (k : PartPlace) (ea : r ≡ Some k) (b : Bool) (eb : b ≡ (eqb (op_of w) 14 || eqb (get_or p 8 0) (a_of w))) where
    no_names : names_next (decoded (entry_of w)) w ≡ false
    no_names = either_jump g p at w hand fetched ek (λ e. rw (shape_at g p at w hand fetched 14 e)) (λ e. rw (shape_at g p at w hand fetched 15 e))

    pub jump_next : (n : ℕ) (y : Aim) → b ≡ true → n ≡ get_or p k.0 0 → y.0 ≡ g.from + n → n < 65536 → After g p at (Went.On y) p
    jump_next n y z en ey small =
        done_after g p at hand w fetched no_names (Went.On y) p (jump_went g p at hand _ n y (jump_taken g p at w hand fetched ek low x r ex er k ea b eb n z en) ey small)

    pub pass_next : (y : Aim) → b ≡ false → y.0 ≡ at.0 + 2 → After g p at (Went.On y) p
    unfolding Lent
    pass_next y z ey =
        let place : y.0 ≡ g.from + (address_of g at + 2) = omega (arith, is_from g p at hand) in
        let small : address_of g at + 2 < 65536 = omega (arith, is_inside g p at w hand fetched, is_lent g p at hand) in
        done_after g p at hand w fetched no_names (Went.On y) p (jump_went g p at hand _ _ y (jump_passed g p at w hand fetched ek low x r ex er k ea b eb z) place small)

  module _ (next : Aim) (en : next.0 ≡ at.0 + 1) (m : List ℕ) (em : m ≡ stood_at g p next) where
    pub asked_row : 8 < length m
    asked_row = rw em (omega (arith, is_row g p at hand, length-set p 0 (address_of g next)))

    pub asked_room : get_or m 8 0 + 32 * (a_of w) < 65536
    asked_room = rw em (omega (arith, is_quiet g p at hand, get_or-set_other p 0 8 (address_of g next) 0 (λ z. omega arith)))

    pub ask_next : (t : Bool) (out : List ℕ) → op_of w ≡ 18 → t ≡ (leb 1 (a_of w) && leb (a_of w) 4) → not t ≡ false
        → out ≡ set m 8 (get_or m 8 0 + 32 * (a_of w)) → After g p at Went.Off out
    ask_next t out op et h eo =
        let asked = (and-eq-true_iff (leb 1 (a_of w)) (leb (a_of w) 4)).0 (sym et ∙ not-false t h) in
        done_after g p at hand w fetched (rw (shape_at g p at w hand fetched 18 op)) Went.Off out
        (ask_went g p at hand (a_of w) next m out (leb-true 1 (a_of w) asked.0) en (service_acts g p at w hand fetched op t et h) em eo)

-- R0 moved past the order before operands are read
module _ (g : Segment) (p : List ℕ) (at : Aim) (hand : InHand g p at) (next : Aim) (m : List ℕ) (em : m ≡ stood_at g p next) where
  moved_long : length m ≡ length p
  moved_long = rw em (length-set p 0 (address_of g next))

  pub moved_hand : InHand g m at
  unfolding InHand Lent
  moved_hand =
      let kept : get_or m 8 0 ≡ get_or p 8 0 = rw em (get_or-set_other p 0 8 (address_of g next) 0 (λ z. omega arith)) in
      ((hand.0.0, hand.0.1, omega (arith, hand.0.2, moved_long), hand.0.3), omega (arith, hand.1, kept), hand.2, hand.3)

  pub moved_a : (a w : ℕ) → a ≡ w / 16 % 8 → a < length m
  moved_a a w e = omega (arith, is_row g p at hand, moved_long)

  pub moved_b : (b w : ℕ) → b ≡ w % 8 → b < length m
  moved_b b w e = omega (arith, is_row g p at hand, moved_long)

  carried_anew : (out : List ℕ) → Carried g m at out → Carried g p at out
  unfolding Carried
  carried_anew out h =
      h ∙ ap (part_ordered g) (ap (λ (l : List ℕ). stood_at g l at) em ∙ set-set p 0 (address_of g next) (address_of g at))

  -- what became of it is carried out
  module _ (a : ℕ) (r : Went) (l : List ℕ) (h : Worked g m at a r l) where
    pub moved_on : (y : Aim) (out : List ℕ) → r ≡ Went.On y → out ≡ stood_at g l y → Carried g p at out
    unfolding Worked Done
    moved_on y out e eo = carried_anew out (rw eo (rw e at h).0)

    pub moved_off : ((y : Aim) → r ≡ Went.On y → ⊥) → Carried g p at l
    unfolding Worked
    moved_off none = go r h none
      where
        go : (z : Went) → Worked g m at a z l → ((y : Aim) → z ≡ Went.On y → ⊥) → Carried g p at l
        go (Went.On y) h none = absurd (none y refl)
        go Went.Off h none = carried_anew l h.0
        go (Went.Left w) h none = absurd h

    -- where another follows, R0 is in hand
    pub on_hand : (y : Aim) → r ≡ Went.On y → InHand g l y
    unfolding Worked Done
    on_hand y e = (rw e at h).1
