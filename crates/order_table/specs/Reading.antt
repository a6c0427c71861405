-- What an entry of the table tells of a first word: its fields by their bits, and its op by the kind. Assumes nothing.
use Rattle.std.specs.Prelude.{◌≡◌, refl, Bool, true, false, not, cond, ◌&&◌, ◌||◌, ◌≢◌, ℕ, zero, suc, ◌+◌, ◌*◌, ◌/◌, ◌%◌, ◌<◌, ◌≤◌, min, eqb, leb, ltb, length, Err, None, Option, Some}
use Rattle.std.proofs.Common.{sym, ap, ◌∙◌, true≢false, zero-add, suc-add, arith, eqb-true, eq-eqb, ne_eqb, ltb-true, ltb-false, leb-true}
use Rattle.std.proofs.Math.Bool.{So, and-eq-true_iff, or-false}
use Rattle.std.proofs.Math.Logic.{dite}
use Prim.{Unit}
use Rattle.std.proofs.Math.Decide.{ℕ_discrete, dec_lt}
use Rattle.std.proofs.lemmas.Bool.{lt-leb, not-true}
use Rattle.std.proofs.Math.ListN.{get_or-eq_default}
use Rattle.paper.specs.Machines.{Machine}
use Rattle.paper.specs.Orders.{op_of, a_of, b_of, orders, order_of, two_registers, holds, bad_order, bitwise, on_bits, checked}
use Rattle.paper.specs.declared.Op.{Op}
use Rattle.paper.specs.declared.Field.{Field}
use Rattle.order_table.specs.Entries.{kind_of_order, clear_bits, encoded, entry_of, kind_of, words_of, decoded, FitsEntry}

-- a test passes at each number below n
abbrev pub all_below : ℕ → (ℕ → Bool) → Bool
all_below zero f = true
all_below (suc n) f = all_below n f && f n

pub all_below_at : (n : ℕ) (f : ℕ → Bool) → So (all_below n f) → (k : ℕ) → k < n → f k ≡ true
all_below_at zero f t k h = absurd (omega arith)
all_below_at (suc n) f t k h =
    let both = (and-eq-true_iff (all_below n f) (f n)).0 t in
    dite (ℕ_discrete k n) (λ e. rw e both.1) (λ ne. all_below_at n f both.0 k (omega arith))

-- past the orders an op is unknown
past_orders : (k : ℕ) → length orders ≤ k → order_of k ≡ Op.Unknown
past_orders k h = get_or-eq_default orders Op.Unknown h

-- a test of an op and its order that passes at each of the orders, and past them, passes at any op
at_any : (f : ℕ → Op → Bool) → So (all_below (length orders) (λ k. f k (order_of k))) → ((k : ℕ) → So (f k Op.Unknown)) → (k : ℕ) → f k (order_of k) ≡ true
at_any f t past k = dite (dec_lt k (length orders)) (all_below_at (length orders) (λ j. f j (order_of j)) t k) (λ n. rw (past_orders k (omega arith)) (past k))

-- the n low bits of a number, a number n bits up, and n bits down
abbrev low : ℕ → ℕ → ℕ
low zero x = 0
low (suc n) x = x % 2 + 2 * low n (x / 2)

abbrev up : ℕ → ℕ → ℕ
up zero x = x
up (suc n) x = 2 * up n x

abbrev down : ℕ → ℕ → ℕ
down zero x = x
down (suc n) x = down n (x / 2)

-- the bits of m and n bits are those of the m low ones and of the n above them
parted : (m n x y : ℕ) → bitwise min (m + n) x y ≡ bitwise min m x y + up m (bitwise min n (down m x) (down m y))
parted zero n x y = rw (zero-add n) (sym (zero-add (bitwise min n x y)))
parted (suc m) n x y = rw (suc-add m n) (omega (arith, parted m n (x / 2) (y / 2)))

-- the low ones are those of the low bits
of_low : (n x y : ℕ) → bitwise min n x y ≡ bitwise min n (low n x) (low n y)
of_low zero x y = refl
of_low (suc n) x y =
    let odd : (z : ℕ) → (z % 2 + 2 * low n (z / 2)) % 2 ≡ z % 2 = λ z. omega arith in
    let half : (z : ℕ) → (z % 2 + 2 * low n (z / 2)) / 2 ≡ low n (z / 2) = λ z. omega arith in
    rw (odd x, odd y, half x, half y, ← of_low n (x / 2) (y / 2))

-- the bits of a byte
unfoldable byte : ℕ → ℕ → ℕ
byte x y = bitwise min 8 x y

joined : (a b c d : ℕ) → a ≡ c → b ≡ d → a + up 8 b ≡ c + 256 * d
joined a b c d ea eb = rw (ea, eb) (omega arith)

-- the bits of a word are those of its low byte and of its high byte
in_bytes : (e w : ℕ) → on_bits min e w ≡ byte (e % 256) (w % 256) + 256 * byte (e / 256) (w / 256)
unfolding byte
in_bytes e w =
    let lows : (x : ℕ) → low 8 x ≡ x % 256 = λ x. omega arith in
    let highs : (x : ℕ) → down 8 x ≡ x / 256 = λ x. omega arith in
    let a : bitwise min 8 e w ≡ byte (e % 256) (w % 256) = of_low 8 e w ∙ ap (λ x. byte x (low 8 w)) (lows e) ∙ ap (byte (e % 256)) (lows w) in
    let b : bitwise min 8 (down 8 e) (down 8 w) ≡ byte (e / 256) (w / 256) = ap (λ x. byte x (down 8 w)) (highs e) ∙ ap (byte (e / 256)) (highs w) in
    parted 8 8 e w ∙ joined _ _ _ _ a b

-- what the bits of a field tell; which condition and which service it is are tested apart
abbrev pub told : Field → ℕ → Bool
told Field.Unused x = eqb x 0
told Field.Register x = ltb x 8
told Field.Condition x = ltb x 4
told Field.Service x = true

-- a field that holds what it may is told so
told_holds : (f : Field) (x : ℕ) → told f x ≡ false → holds f x ≡ false
told_holds Field.Unused x e = e
told_holds Field.Register x e = e
told_holds Field.Condition x e = lt-leb x 2 (omega (arith, ltb-false x 4 e))
told_holds Field.Service x e = absurd (true≢false e)

-- both fields of a low byte
abbrev both_told : Option (ℕ × Field × Field) → ℕ → Bool
both_told None l = true
both_told (Some (n, fa, fb)) l = told fa (l / 16) && told fb (l % 16)

-- a low byte has no bit that entry e wants 0 exactly where the fields that e stands for are told
abbrev exact : ℕ → ℕ → Bool
exact e l = cond (both_told (decoded e) l) (eqb (byte (e % 256) l) 0) (not (eqb (byte (e % 256) l) 0))

unfoldable Exact : ℕ → Type 0
Exact e = So (all_below 256 (exact e))

exactly : (k : ℕ) → Exact (encoded (order_of k))
unfolding Exact byte decoded
exactly k = at_any (λ k o. all_below 256 (exact (encoded o))) refl (λ k. refl) k

agrees : (b z : Bool) → cond b z (not z) ≡ true → z ≡ b
agrees true z e = e
agrees false z e = not-true z e

exact_at : (w : ℕ) → eqb (byte (entry_of w % 256) (w % 256)) 0 ≡ both_told (decoded (entry_of w)) (w % 256)
unfolding Exact
exact_at w = agrees _ _ (all_below_at 256 (exact (entry_of w)) (exactly (op_of w)) (w % 256) (omega arith))

-- both fields of a word that fits its entry are told
pub fields_told : (w n : ℕ) (fa fb : Field) → decoded (entry_of w) ≡ Some (n, fa, fb) → FitsEntry w
    → (told fa (a_of w) ≡ true) × (told fb (b_of w) ≡ true)
unfolding FitsEntry
fields_told w n fa fb e h =
    let none : byte (entry_of w % 256) (w % 256) ≡ 0 = omega (arith, sym (in_bytes (entry_of w) w) ∙ h) in
    let ok : (told fa (w % 256 / 16) && told fb (w % 256 % 16)) ≡ true = rw (none, e) at (sym (exact_at w)) in
    let ea : w % 256 / 16 ≡ a_of w = omega arith in
    let eb : w % 256 % 16 ≡ b_of w = omega arith in
    (and-eq-true_iff (told fa (a_of w)) (told fb (b_of w))).0 (rw (ea, eb) at ok)

-- a word that does not has a field that does not hold what it may, or an unknown op
and_false : (a b c d : Bool) → (a ≡ false → c ≡ false) → (b ≡ false → d ≡ false) → (a && b) ≡ false → (c && d) ≡ false
and_false false b c d f g e = rw (f refl)
and_false true b true d f g e = g e
and_false true b false d f g e = refl

refused : (sh : Option (ℕ × Field × Field)) (m : Machine) (w : ℕ) → both_told sh (w % 256) ≡ false → checked sh m w ≡ Err bad_order
unfolding checked
refused None m w e = refl
refused (Some (n, fa, fb)) m w e =
    let ea : w % 256 / 16 ≡ a_of w = omega arith in
    let eb : w % 256 % 16 ≡ b_of w = omega arith in
    let no : (holds fa (a_of w) && holds fb (b_of w)) ≡ false = and_false _ _ _ _ (told_holds fa (a_of w)) (told_holds fb (b_of w)) (rw (ea, eb) at e) in
    rw no

-- the high byte of an entry and the op never meet
nothing_meets : (n y : ℕ) → bitwise min n 0 y ≡ 0
nothing_meets zero y = refl
nothing_meets (suc n) y = omega (arith, nothing_meets n (y / 2))

apart : (op : ℕ) → byte (encoded (order_of op) / 256) op ≡ 0
unfolding byte
apart op = eqb-true _ 0 (at_any (λ k o. eqb (byte (encoded o / 256) k) 0) refl (λ k. eq-eqb _ 0 (nothing_meets 8 k)) op)

pub misfit : (w : ℕ) (m : Machine) → on_bits min (entry_of w) w ≢ 0 → checked (decoded (entry_of w)) m w ≡ Err bad_order
misfit w m ne =
    let some : byte (entry_of w % 256) (w % 256) ≢ 0 = λ z. ne (in_bytes (entry_of w) w ∙ omega (arith, z, apart (op_of w))) in
    refused (decoded (entry_of w)) m w (sym (exact_at w) ∙ ne_eqb _ 0 some)

-- the ops of a kind: all pass a test, that is tried at each order of the kind
abbrev pub Among : (ℕ → Bool) → ℕ → Type 0
Among f j = So (not (eqb 0 j) && all_below (length orders) (λ k. not (eqb (encoded (order_of k) / 4096) j) || f k))

of_kind : (f : ℕ → Bool) (j : ℕ) → Among f j → (w : ℕ) → kind_of w ≡ j → f (op_of w) ≡ true
unfolding kind_of
of_kind f j t w e =
    let both = (and-eq-true_iff (not (eqb 0 j)) (all_below (length orders) (λ k. not (eqb (encoded (order_of k) / 4096) j) || f k))).0 t in
    rw (eq-eqb (entry_of w / 4096) j e) at (at_any (λ k o. not (eqb (encoded o / 4096) j) || f k) both.1 (λ k. rw both.0) (op_of w))

-- one op alone, or one of two
pub only : (n : ℕ) → Among (λ k. eqb k n) (kind_of_order (order_of n)) → (w : ℕ) → kind_of w ≡ kind_of_order (order_of n) → op_of w ≡ n
only n t w e = eqb-true (op_of w) n (of_kind (λ k. eqb k n) (kind_of_order (order_of n)) t w e)

pub one_of_two : (m n : ℕ) → Among (λ k. eqb k m || eqb k n) (kind_of_order (order_of n)) → (w : ℕ) → kind_of w ≡ kind_of_order (order_of n) → op_of w ≢ m
    → op_of w ≡ n
one_of_two m n t w e ne =
    eqb-true (op_of w) n (rw (ne_eqb (op_of w) m ne) at (of_kind (λ k. eqb k m || eqb k n) (kind_of_order (order_of n)) t w e))

-- an op of kind 0 that is not the service is unknown
pub not_service : (w : ℕ) → kind_of w ≡ 0 → op_of w ≢ 18 → decoded (entry_of w) ≡ None
unfolding kind_of decoded
not_service w e ne =
    let test = at_any (λ k o. eqb (encoded o) 0 || not (eqb (encoded o / 4096) 0 && not (eqb k 18))) refl (λ k. refl) (op_of w) in
    let none : entry_of w ≡ 0 = eqb-true (entry_of w) 0 (rw (eq-eqb (entry_of w / 4096) 0 e, ne_eqb (op_of w) 18 ne, or-false) at test) in
    ap decoded none

-- sixteen kinds in all
pub kind_few : (w : ℕ) → kind_of w < 16
unfolding kind_of
kind_few w = ltb-true _ _ (at_any (λ k o. ltb (encoded o / 4096) 16) refl (λ k. refl) (op_of w))

-- the kinds of two registers
abbrev pub two_kind : ℕ → Bool
two_kind k = leb (kind_of_order Op.Copy) k && leb k (kind_of_order Op.ExclusiveOr) || eqb k (kind_of_order Op.Compare)

abbrev two_entry : ℕ → Bool
two_entry e = eqb (e % 256) (clear_bits two_registers) && eqb (words_of (e / 4096)) 1

two_decoded : (e : ℕ) → two_entry e ≡ true → decoded e ≡ two_registers
unfolding decoded
two_decoded e t =
    let both = (and-eq-true_iff (eqb (e % 256) (clear_bits two_registers)) (eqb (words_of (e / 4096)) 1)).0 t in
    let low : e % 256 ≡ 136 = eqb-true _ _ both.0 in
    let one : words_of (e / 4096) ≡ 1 = eqb-true _ _ both.1 in
    let ea : e / 16 % 16 ≡ 8 = omega arith in
    let eb : e % 16 ≡ 8 = omega arith in
    rw (ne_eqb e 0 (λ z. omega arith), one, ea, eb)

pub two_shape : (w : ℕ) → So (two_kind (kind_of w)) → decoded (entry_of w) ≡ two_registers
unfolding kind_of
two_shape w t =
    two_decoded (entry_of w) (rw t at (at_any (λ k o. not (two_kind (encoded o / 4096)) || two_entry (encoded o)) refl (λ k. refl) (op_of w)))

-- the last of them compares
pub last_two : (w : ℕ) → decoded (entry_of w) ≡ two_registers → (kind_of_order Op.Copy ≤ kind_of w → kind_of_order Op.ExclusiveOr < kind_of w) → op_of w ≡ 13
unfolding kind_of decoded
last_two w sh rest =
    let test = at_any (λ k o. not (eqb (clear_bits (decoded (encoded o))) (clear_bits two_registers)) || leb 2 (encoded o / 4096) && (leb (encoded o / 4096) 11 || eqb k 13)) refl (λ k. refl) (op_of w) in
    let both = (and-eq-true_iff (leb 2 (entry_of w / 4096)) (leb (entry_of w / 4096) 11 || eqb (op_of w) 13)).0 (rw (ap clear_bits sh) at test) in
    eqb-true _ _ (rw (lt-leb (entry_of w / 4096) 11 (rest (leb-true _ _ both.0))) at both.1)

-- none of the n kinds from m on
abbrev pub NoneOf : ℕ → ℕ → ℕ → Type 0
NoneOf m zero k = Unit
NoneOf m (suc n) k = NoneOf m n k × (k ≢ m + n)

pub past_them : (m n k : ℕ) → NoneOf m n k → m ≤ k → m + n ≤ k
past_them m zero k none h = omega arith
past_them m (suc n) k none h = dite (dec_lt (m + n) k) (λ l. omega arith) (λ l. absurd (none.1 (omega (arith, past_them m n k none.0 h))))
