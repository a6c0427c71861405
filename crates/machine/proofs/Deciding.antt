-- What an order of the machine in a lent part is decided to do, from its first word. Assumes nothing.
use Rattle.std.specs.Prelude.{Err, Ok, Option, Result, Some, ℕ, None}
use mathlib.Core.Path.{◌≡◌, refl, sym, ap, ◌∙◌}
use mathlib.Core.List.{List}
use mathlib.Core.Bool.{Bool, true, false, cond, not, ◌&&◌, ◌||◌, true≢false}
use mathlib.Core.Logic.{◌≢◌, dite}
use Prim.Native.Nat.{ℕ, ◌+◌, ◌/◌, ◌%◌, ◌<◌, ◌≤◌, min}
use native.Mathlib.Decide.{ℕ_discrete, dec_lt}
use native.Mathlib.Omega.{arith}
use borrow.Author.Tests.{not-true, not-false, ltb-true, eqb-true, le-leb, lt-leb}
use lib.Dec.{eqb, leb}
use lib.ListN.{get_or}
use lib.Seq.{get_or-set_same, get_or-set_other, set-set}
use Rattle.paper.specs.Flags.{flags_of}
use Rattle.paper.specs.Machines.{machine}
use Rattle.paper.specs.Orders.{op_of, a_of, b_of, order_of, two_registers, shape_of_order, holds, serves, outside, bad_order, bad_service, mod_word, next_order, stack, past, operand, found, reading, second, sets, on_bits, cc, error, flags_become, calls, effect, effect_of, checked, decided}
use Rattle.paper.specs.declared.Op.{Op}
use Rattle.paper.specs.declared.Field.{Field}
use Rattle.paper.specs.declared.Change.{Change}
use Rattle.order_table.specs.Entries.{kind_of_order, entry_of, kind_of, decoded, FitsEntry}
use Rattle.order_table.specs.Reading.{told, fields_told, misfit, only, one_of_two, not_service}
use Rattle.effects.specs.Parts.{Lent, lies_of, reach_of, address_of, stood_at, machine_of}
use Rattle.effects.specs.Worked.{InHand}
use Rattle.machine.specs.After.{Fetched}
use Rattle.effects.specs.Holding.{past_end, place_is, within, next_held, register_held, flags_held, operand_next, operand_held, word_held, outside_held, is_lent, is_quiet, is_from, is_some}
use Rattle.effects.specs.declared.Aim.{Aim}
use Rattle.effects.specs.declared.PartPlace.{PartPlace}
use Rattle.effects.specs.declared.Segment.{Segment}

-- the first word's address before all
module _ (g : Segment) (p : List ℕ) (at : Aim) (hand : InHand g p at) where
  own_place : at.0 ≡ g.from + address_of g at
  own_place = omega (arith, is_from g p at hand)

  next_is : next_order (machine_of g p at) ≡ address_of g at
  next_is = next_held g p at (is_lent g p at hand)

  pub first_outside : (r : Option PartPlace) → r ≡ reach_of g at → r ≡ None → decided (machine_of g p at) ≡ Err outside
  unfolding decided
  first_outside r er eo =
      let past = outside_held g p at (address_of g at) at.0 own_place (past_end g at r er eo) in
      rw (next_is, past)

  -- the first word
  pub first_word : (r : Option PartPlace) (k : PartPlace) (w : ℕ) → r ≡ reach_of g at → r ≡ Some k → w ≡ get_or p k.0 0 → w ≡ get_or p at.0 0
  first_word r k w er ek ew = rw (← place_is g at r er k ek) ew

  decided_is : (w : ℕ) → at.0 < g.to → w ≡ get_or p at.0 0
      → decided (machine_of g p at) ≡ checked (shape_of_order (order_of (op_of w))) (machine_of g p at) w
  unfolding decided
  decided_is w h ew =
      let word = word_held g p at (address_of g at) at.0 own_place (is_lent g p at hand) h in
      rw (next_is, word, ew)

  -- the entry of the first word tells the order's shape; a word with a bit that it wants 0 faults
  module _ (w : ℕ) (h : at.0 < g.to) (ew : w ≡ get_or p at.0 0) (e r : ℕ) (ee : e ≡ entry_of w) (es : decoded e ≡ shape_of_order (order_of (op_of w)))
      (er : r ≡ on_bits min e w) where
    read : decoded (entry_of w) ≡ shape_of_order (order_of (op_of w))
    read = sym (ap decoded ee) ∙ es

    pub bad_fields : r ≢ 0 → decided (machine_of g p at) ≡ Err bad_order
    bad_fields ne =
        decided_is w h ew ∙ ap (λ (sh : Option (ℕ × Field × Field)). checked sh (machine_of g p at) w) (sym read) ∙
        misfit w (machine_of g p at) (λ z. ne (er ∙ ap (λ (k : ℕ). on_bits min k w) ee ∙ z))

    pub is_fetched : r ≡ 0 → Fetched g p at w
    unfolding Fetched FitsEntry
    is_fetched z = (h, ew, sym (ap (λ (k : ℕ). on_bits min k w) ee) ∙ sym er ∙ z, read)

-- a number other than 0
pos : (a : ℕ) → a ≢ 0 → 0 < a
pos a ne = dite (dec_lt 0 a) (λ l. l) (λ l. absurd (ne (omega arith)))

-- an order whose entry was read
module _ (g : Segment) (p : List ℕ) (at : Aim) (w : ℕ) (hand : InHand g p at) (fetched : Fetched g p at w) where
  pub is_inside : at.0 < g.to
  unfolding Fetched
  is_inside = fetched.0

  fits : FitsEntry w
  unfolding Fetched
  fits = fetched.2

  -- its shape is what the entry says
  pub shape_read : decoded (entry_of w) ≡ shape_of_order (order_of (op_of w))
  unfolding Fetched
  shape_read = fetched.3

  pub shape_at : (k : ℕ) → op_of w ≡ k → decoded (entry_of w) ≡ shape_of_order (order_of k)
  shape_at k e = shape_read ∙ ap (λ (j : ℕ). shape_of_order (order_of j)) e

  ordered_by : decided (machine_of g p at) ≡ checked (decoded (entry_of w)) (machine_of g p at) w
  unfolding Fetched
  ordered_by =
      decided_is g p at hand w fetched.0 fetched.1 ∙
      ap (λ (sh : Option (ℕ × Field × Field)). checked sh (machine_of g p at) w) (sym shape_read)

  past_is : (n : ℕ) → n ≤ 2 → past (machine_of g p at) n ≡ address_of g at + n
  unfolding Lent
  past_is n small = omega (arith, next_is g p at hand, is_lent g p at hand, is_inside)

  abbrev Acts : ℕ → ℕ → Type 0
  Acts k n =
      decided (machine_of g p at) ≡
      effect (order_of k) (machine_of g p at) (address_of g at + n) (a_of w) (operand (machine_of g p at) (address_of g at + n) (a_of w))
      (operand (machine_of g p at) (address_of g at + n) (b_of w))

  -- op k, of n words, with the fields fa and fb
  module _ (k n : ℕ) (fa fb : Field) (e : op_of w ≡ k) (sh : decoded (entry_of w) ≡ Some (n, fa, fb)) where
    fields : (told fa (a_of w) ≡ true) × (told fb (b_of w) ≡ true)
    fields = fields_told w n fa fb sh fits

    module _ (small : n ≤ 2) (ha : holds fa (a_of w) ≡ true) (hb : holds fb (b_of w) ≡ true) where
      known_acts : serves fa (a_of w) ≡ true → Acts k n
      unfolding checked effect_of
      known_acts hs = rw (sh, ha, hb, hs, e, past_is n small) at ordered_by

      unserved : serves fa (a_of w) ≡ false → decided (machine_of g p at) ≡ Err bad_service
      unfolding checked
      unserved hs = rw (sh, ha, hb, hs) at ordered_by

  -- two registers
  module _ (sh : decoded (entry_of w) ≡ two_registers) where
    registers : (told Field.Register (a_of w) ≡ true) × (told Field.Register (b_of w) ≡ true)
    registers = fields (op_of w) 1 Field.Register Field.Register refl sh

    two_acts : Acts (op_of w) 1
    two_acts = known_acts (op_of w) 1 Field.Register Field.Register refl sh (omega arith) registers.0 registers.1 refl

    module _ (a b : ℕ) (ea : a ≡ w / 16 % 8) (eb : b ≡ w % 8) where
      pub a_is : a_of w ≡ a
      a_is = omega (arith, ltb-true (a_of w) 8 registers.0)

      pub b_is : b_of w ≡ b
      b_is = omega (arith, ltb-true (b_of w) 8 registers.1)

      fields_act : (v y : ℕ) → operand (machine_of g p at) (address_of g at + 1) a ≡ v → operand (machine_of g p at) (address_of g at + 1) b ≡ y
          → decided (machine_of g p at) ≡ effect (order_of (op_of w)) (machine_of g p at) (address_of g at + 1) a v y
      fields_act v y ev ey = rw (← ev, ← ey) (rw (a_is, b_is) at two_acts)

      pub two_act : (v y : ℕ) → a ≢ 0 → b ≢ 0 → v ≡ get_or p a 0 → y ≡ get_or p b 0
          → decided (machine_of g p at) ≡ effect (order_of (op_of w)) (machine_of g p at) (address_of g at + 1) a v y
      two_act v y na nb ev ey =
          fields_act v y (operand_held g p at (address_of g at + 1) a (pos a na) (omega arith) ∙ sym ev)
          (operand_held g p at (address_of g at + 1) b (pos b nb) (omega arith) ∙ sym ey)

      -- R0 among them: R0 is moved past the order first
      module _ (next : Aim) (en : next.0 ≡ at.0 + 1) (m : List ℕ) (em : m ≡ stood_at g p next) where
        moved : machine_of g m at ≡ machine_of g p at
        moved = ap (machine (lies_of g)) (ap (λ (l : List ℕ). stood_at g l at) em ∙ set-set p 0 (address_of g next) (address_of g at))

        operand_moved : (r : ℕ) → r < 8 → operand (machine_of g p at) (address_of g at + 1) r ≡ get_or m r 0
        operand_moved r h = rw em (dite (ℕ_discrete r 0) zero other)
          where
            past_it : address_of g next ≡ address_of g at + 1
            past_it = omega (arith, is_from g p at hand)

            zero : r ≡ 0 → operand (machine_of g p at) (address_of g at + 1) r ≡ get_or (stood_at g p next) r 0
            zero e = rw e (operand_next g p at (address_of g at + 1) ∙ sym past_it ∙ sym (get_or-set_same p 0 (address_of g next) 0 (is_some g p at hand)))

            other : r ≢ 0 → operand (machine_of g p at) (address_of g at + 1) r ≡ get_or (stood_at g p next) r 0
            other ne = operand_held g p at (address_of g at + 1) r (pos r ne) h ∙ sym (get_or-set_other p 0 r (address_of g next) 0 ne)

        pub moved_act : (v y : ℕ) → v ≡ get_or m a 0 → y ≡ get_or m b 0
            → decided (machine_of g m at) ≡ effect (order_of (op_of w)) (machine_of g m at) (address_of g at + 1) a v y
        moved_act v y ev ey = rw moved (fields_act v y (operand_moved a (omega arith) ∙ sym ev) (operand_moved b (omega arith) ∙ sym ey))

  -- the second word
  module _ (x : Aim) (ex : x.0 ≡ at.0 + 1) (r : Option PartPlace) (er : r ≡ reach_of g x) where
    second_place : x.0 ≡ g.from + (next_order (machine_of g p at) + 1)
    second_place = omega (arith, next_is g p at hand, is_from g p at hand)

    module _ (f : ℕ → Result (ℕ × Change) ℕ) (acts : decided (machine_of g p at) ≡ second (machine_of g p at) f) where
      second_outside : r ≡ None → decided (machine_of g p at) ≡ Err outside
      second_outside e = rw (outside_held g p at (next_order (machine_of g p at) + 1) x.0 second_place (past_end g x r er e)) at acts

      second_is : (k : PartPlace) → r ≡ Some k → decided (machine_of g p at) ≡ f (get_or p k.0 0)
      second_is k ek =
          rw (place_is g x r er k ek)
          (rw (word_held g p at (next_order (machine_of g p at) + 1) x.0 second_place (is_lent g p at hand) (within g x r er k ek)) at acts)

  -- a register and a second word
  module _ (ek : kind_of w ≡ kind_of_order Op.Load) where
    load_op : op_of w ≡ 1
    load_op = only 1 refl w ek

    pub load_shape : decoded (entry_of w) ≡ Some (2, Field.Register, Field.Unused)
    load_shape = shape_at 1 load_op

    load_fields : (told Field.Register (a_of w) ≡ true) × (told Field.Unused (b_of w) ≡ true)
    load_fields = fields 1 2 Field.Register Field.Unused load_op load_shape

    loads_by : decided (machine_of g p at) ≡ second (machine_of g p at) (sets (address_of g at + 2) (a_of w))
    loads_by = known_acts 1 2 Field.Register Field.Unused load_op load_shape (omega arith) load_fields.0 load_fields.1 refl

    pub load_outside : (x : Aim) (r : Option PartPlace) → x.0 ≡ at.0 + 1 → r ≡ reach_of g x → r ≡ None → decided (machine_of g p at) ≡ Err outside
    load_outside x r ex er e = second_outside x ex r er _ loads_by e

    module _ (a : ℕ) (ea : a ≡ w / 16 % 8) where
      pub loaded : a ≡ a_of w
      loaded = omega (arith, ltb-true (a_of w) 8 load_fields.0)

      pub load_acts : (x : Aim) (r : Option PartPlace) (k : PartPlace) (n : ℕ) → x.0 ≡ at.0 + 1 → r ≡ reach_of g x → r ≡ Some k → n ≡ get_or p k.0 0
          → decided (machine_of g p at) ≡ sets (address_of g at + 2) a n
      load_acts x r k n ex er ek en = rw (loaded, en) (second_is x ex r er _ loads_by k ek)

  -- no register: a second word alone, or none
  module _ (k n : ℕ) (e : op_of w ≡ k) (sh : decoded (entry_of w) ≡ Some (n, Field.Unused, Field.Unused)) where
    unused : (told Field.Unused (a_of w) ≡ true) × (told Field.Unused (b_of w) ≡ true)
    unused = fields k n Field.Unused Field.Unused e sh

    bare_acts : n ≤ 2 → Acts k n
    bare_acts small = known_acts k n Field.Unused Field.Unused e sh small unused.0 unused.1 refl

  module _ (ek : kind_of w ≡ kind_of_order Op.Call) where
    call_op : op_of w ≡ 16
    call_op = only 16 refl w ek

    pub call_shape : decoded (entry_of w) ≡ Some (2, Field.Unused, Field.Unused)
    call_shape = shape_at 16 call_op

    module _ (x : Aim) (r : Option PartPlace) (ex : x.0 ≡ at.0 + 1) (er : r ≡ reach_of g x) where
      pub call_outside : r ≡ None → decided (machine_of g p at) ≡ Err outside
      call_outside eo = second_outside x ex r er _ (bare_acts 16 2 call_op call_shape (omega arith)) eo

      pub call_acts : (n : ℕ) (k : PartPlace) → r ≡ Some k → n ≡ get_or p k.0 0
          → decided (machine_of g p at) ≡ calls (machine_of g p at) (address_of g at + 2) (mod_word (stack (machine_of g p at) + 65535)) n
      call_acts n k ek en = rw en (second_is x ex r er _ (bare_acts 16 2 call_op call_shape (omega arith)) k ek)

  module _ (ek : kind_of w ≡ kind_of_order Op.Return) where
    return_op : op_of w ≡ 17
    return_op = only 17 refl w ek

    pub return_shape : decoded (entry_of w) ≡ Some (1, Field.Unused, Field.Unused)
    return_shape = shape_at 17 return_op

    module _ (v : ℕ) (ev : v ≡ get_or p 1 0) (x : Aim) (ex : x.0 ≡ g.from + v) where
      returns_by : decided (machine_of g p at) ≡ reading (found (machine_of g p at) v) (λ n. Ok (address_of g at + 1, Change.Return (mod_word (v + 1)) n))
      returns_by =
          let top : stack (machine_of g p at) ≡ v = register_held g p at 1 (omega arith) (omega arith) ∙ sym ev in
          rw top at (bare_acts 17 1 return_op return_shape (omega arith))

      module _ (r : Option PartPlace) (er : r ≡ reach_of g x) where
        pub return_outside : r ≡ None → decided (machine_of g p at) ≡ Err outside
        return_outside eo = rw (outside_held g p at v x.0 ex (past_end g x r er eo)) at returns_by

        pub return_acts : (k : PartPlace) (n top : ℕ) → r ≡ Some k → n ≡ get_or p k.0 0 → top ≡ mod_word (v + 1)
            → decided (machine_of g p at) ≡ Ok (address_of g at + 1, Change.Return top n)
        return_acts k n top ek en etop =
            rw (en, etop, place_is g x r er k ek) (rw (word_held g p at v x.0 ex (is_lent g p at hand) (within g x r er k ek)) at returns_by)

  -- a condition
  condition_bare : cc (machine_of g p at) ≡ get_or p 8 0
  condition_bare = omega (arith, flags_held g p at, is_quiet g p at hand)

  module _ (e : op_of w ≡ 15) where
    condition_refused : 2 < a_of w → decided (machine_of g p at) ≡ Err bad_order
    unfolding checked
    condition_refused h = rw (shape_at 15 e, lt-leb (a_of w) 2 h) at ordered_by

    condition_acts : a_of w ≤ 2 → Acts 15 2
    condition_acts low =
        known_acts 15 2 Field.Condition Field.Unused e (shape_at 15 e) (omega arith) (le-leb (a_of w) 2 low)
        (fields 15 2 Field.Condition Field.Unused e (shape_at 15 e)).1 refl

  -- a jump, or one by a condition
  module _ (ek : kind_of w ≡ kind_of_order Op.Jump) where
    pub either_jump : {A : Type 0} → (op_of w ≡ 14 → A) → (op_of w ≡ 15 → A) → A
    either_jump f h = dite (ℕ_discrete (op_of w) 14) f (λ ne. h (one_of_two 14 15 refl w ek ne))

    jump_acts : op_of w ≡ 14 → Acts 14 2
    jump_acts e = bare_acts 14 2 e (shape_at 14 e) (omega arith)

    pub bad_condition : 2 < a_of w → decided (machine_of g p at) ≡ Err bad_order
    bad_condition h =
        either_jump (λ e. absurd (omega (arith, eqb-true (a_of w) 0 (unused 14 2 e (shape_at 14 e)).0))) (λ e. condition_refused e h)

    module _ (low : a_of w ≤ 2) (x : Aim) (r : Option PartPlace) (ex : x.0 ≡ at.0 + 1) (er : r ≡ reach_of g x) where
      pub jump_outside : r ≡ None → decided (machine_of g p at) ≡ Err outside
      jump_outside h = either_jump (λ e. second_outside x ex r er _ (jump_acts e) h) (λ e. second_outside x ex r er _ (condition_acts e low) h)

      module _ (k : PartPlace) (ea : r ≡ Some k) (b : Bool) (eb : b ≡ (eqb (op_of w) 14 || eqb (get_or p 8 0) (a_of w))) where
        by_condition : (e : op_of w ≡ 15) → decided (machine_of g p at) ≡ sets (address_of g at + 2) 0 (cond b (get_or p k.0 0) (address_of g at + 2))
        by_condition e =
            let same : eqb (cc (machine_of g p at)) (a_of w) ≡ b = rw condition_bare (sym (rw e at eb)) in
            rw same at (second_is x ex r er _ (condition_acts e low) k ea)

        pub jump_taken : (n : ℕ) → b ≡ true → n ≡ get_or p k.0 0 → decided (machine_of g p at) ≡ sets (address_of g at + 2) 0 n
        jump_taken n z en = either_jump (λ e. rw en (second_is x ex r er _ (jump_acts e) k ea)) (λ e. rw en (rw z at (by_condition e)))

        pub jump_passed : b ≡ false → decided (machine_of g p at) ≡ sets (address_of g at + 2) 0 (address_of g at + 2)
        jump_passed z = either_jump (λ e. absurd (true≢false (sym (rw e at eb) ∙ z))) (λ e. rw z at (by_condition e))

  -- a service, or an unknown op
  pub unknown_op : kind_of w ≡ kind_of_order Op.Service → op_of w ≢ 18 → decided (machine_of g p at) ≡ Err bad_order
  unfolding checked
  unknown_op ek ne = rw (not_service w ek ne) at ordered_by

  module _ (op : op_of w ≡ 18) (t : Bool) (et : t ≡ (leb 1 (a_of w) && leb (a_of w) 4)) where
    service_field : told Field.Unused (b_of w) ≡ true
    service_field = (fields 18 1 Field.Service Field.Unused op (shape_at 18 op)).1

    pub unknown_service : not t ≡ true → decided (machine_of g p at) ≡ Err bad_service
    unknown_service h =
        unserved 18 1 Field.Service Field.Unused op (shape_at 18 op) (omega arith) refl service_field (sym et ∙ not-true t h)

    pub service_acts : not t ≡ false
        → decided (machine_of g p at) ≡ flags_become (address_of g at + 1) (flags_of (cc (machine_of g p at)) (error (machine_of g p at)) (a_of w))
    service_acts h =
        known_acts 18 1 Field.Service Field.Unused op (shape_at 18 op) (omega arith) refl service_field (sym et ∙ not-false t h)
