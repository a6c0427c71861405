-- "Order code": one order of a task's own machine, and of a task of an image.
use Rattle.std.specs.Prelude.{Bool, true, cond, ◌&&◌, List, [], ◌∷◌, ℕ, zero, suc, ◌+◌, ◌-◌, ◌*◌, ◌/◌, ◌%◌, min, max, eqb, leb, ltb, length, get_or, set, Err, None, Ok, Option, Result, Some}
use Rattle.paper.specs.Image.{address}
use Rattle.paper.specs.Flags.{flags_of, cc_of, error_of, pending_of, most_cc}
use Rattle.paper.specs.Machines.{Machine, own, with_own}
use Rattle.paper.specs.Services.{known_service}
use Rattle.paper.specs.declared.Task.{Task}
use Rattle.paper.specs.declared.Address.{Address}
use Rattle.paper.specs.declared.Shape.{Shape}
use Rattle.paper.specs.declared.Op.{Op}
use Rattle.paper.specs.declared.Field.{Field}
use Rattle.paper.specs.declared.Change.{Change}
use Rattle.paper.specs.declared.Answer.{Answer}

-- first word: op = word / 256, a = word / 16 mod 16, b = word mod 16
abbrev pub op_of : ℕ → ℕ
op_of w = w / 256

abbrev pub a_of : ℕ → ℕ
a_of w = w / 16 % 16

abbrev pub b_of : ℕ → ℕ
b_of w = w % 16

-- the orders 1 to 18 by their numbers; 0 and every number past them are unknown
abbrev pub orders : List Op
orders =
    Op.Unknown ∷ Op.Load ∷ Op.Copy ∷ Op.Fetch ∷ Op.Store ∷ Op.Add ∷ Op.Subtract ∷ Op.Multiply ∷ Op.Quotient ∷ Op.Remainder ∷
    Op.And ∷ Op.Or ∷ Op.ExclusiveOr ∷ Op.Compare ∷ Op.Jump ∷ Op.JumpIf ∷ Op.Call ∷ Op.Return ∷ Op.Service ∷ []

abbrev pub order_of : ℕ → Op
order_of k = get_or orders k Op.Unknown

-- the shape of an order: count of words, and what the fields a and b hold
abbrev pub two_registers : Option (ℕ × Field × Field)
two_registers = Some (1, Field.Register, Field.Register)

abbrev pub shape_of_order : Op → Option (ℕ × Field × Field)
shape_of_order Op.Unknown = None
shape_of_order Op.Load = Some (2, Field.Register, Field.Unused)
shape_of_order Op.Copy = two_registers
shape_of_order Op.Fetch = two_registers
shape_of_order Op.Store = two_registers
shape_of_order Op.Add = two_registers
shape_of_order Op.Subtract = two_registers
shape_of_order Op.Multiply = two_registers
shape_of_order Op.Quotient = two_registers
shape_of_order Op.Remainder = two_registers
shape_of_order Op.And = two_registers
shape_of_order Op.Or = two_registers
shape_of_order Op.ExclusiveOr = two_registers
shape_of_order Op.Compare = two_registers
shape_of_order Op.Jump = Some (2, Field.Unused, Field.Unused)
shape_of_order Op.JumpIf = Some (2, Field.Condition, Field.Unused)
shape_of_order Op.Call = Some (2, Field.Unused, Field.Unused)
shape_of_order Op.Return = Some (1, Field.Unused, Field.Unused)
shape_of_order Op.Service = Some (1, Field.Service, Field.Unused)

-- registers are 0..7, unused fields are 0, a condition is 0..2; a service number is tested apart
abbrev pub holds : Field → ℕ → Bool
holds Field.Unused x = eqb x 0
holds Field.Register x = ltb x 8
holds Field.Condition x = leb x most_cc
holds Field.Service x = true

abbrev pub serves : Field → ℕ → Bool
serves Field.Unused x = true
serves Field.Register x = true
serves Field.Condition x = true
serves Field.Service x = known_service x

-- errors: 1 address outside the segment, 2 unknown op or bad field, 3 unknown service, 4 zero divisor
abbrev pub outside : ℕ
outside = 1

abbrev pub bad_order : ℕ
bad_order = 2

abbrev pub bad_service : ℕ
bad_service = 3

abbrev pub zero_divisor : ℕ
zero_divisor = 4

-- numbers are taken mod 65536
abbrev pub mod_word : ℕ → ℕ
mod_word x = x % 65536

-- a register; R0 is the next order's address, R1 the stack pointer
abbrev pub register : Machine → ℕ → ℕ
register m r = get_or m.registers r 0

abbrev pub next_order : Machine → ℕ
next_order m = register m 0

abbrev pub stack : Machine → ℕ
stack m = register m 1

-- the machine with a register, its flags or a word of its segment changed
unfoldable pub with_register : Machine → ℕ → ℕ → Machine
with_register m r w = record { registers = set m.registers r w; flags = m.flags; segment = m.segment }

unfoldable pub with_flags : Machine → ℕ → Machine
with_flags m f = record { registers = m.registers; flags = f; segment = m.segment }

unfoldable pub with_word : Machine → Address → ℕ → Machine
with_word m a w = record { registers = m.registers; flags = m.flags; segment = set m.segment a.0 w }

-- R0 is moved past the order, to next
abbrev pub past : Machine → ℕ → ℕ
past m n = mod_word (next_order m + n)

abbrev pub moved_past : Machine → ℕ → Machine
moved_past m next = with_register m 0 next

-- before operands are read
unfoldable pub operand : Machine → ℕ → ℕ → ℕ
operand m next r = register (moved_past m next) r

-- an address outside the segment faults
abbrev pub inside : Machine → ℕ → Bool
inside m a = ltb a (length m.segment)

-- the word at an address of the segment
unfoldable pub found : Machine → ℕ → Option ℕ
found m a = cond (inside m a) (Some (get_or m.segment a 0)) None

abbrev pub reading : Option ℕ → (ℕ → Result (ℕ × Change) ℕ) → Result (ℕ × Change) ℕ
reading (Some w) f = f w
reading None f = Err outside

abbrev pub storing : Machine → ℕ → Result (ℕ × Change) ℕ → Result (ℕ × Change) ℕ
storing m a e = cond (inside m a) e (Err outside)

-- n, the second word of an order, at the address after the first
abbrev pub second : Machine → (ℕ → Result (ℕ × Change) ℕ) → Result (ℕ × Change) ℕ
second m f = reading (found m (next_order m + 1)) f

-- Ra becomes a word; a jump: R0 becomes one; the flags become a word
abbrev pub sets : ℕ → ℕ → ℕ → Result (ℕ × Change) ℕ
sets next a w = Ok (next, Change.Register a w)

abbrev pub jumps : ℕ → ℕ → Result (ℕ × Change) ℕ
jumps next n = sets next 0 n

abbrev pub flags_become : ℕ → ℕ → Result (ℕ × Change) ℕ
flags_become next f = Ok (next, Change.Flags f)

-- quotient and remainder: a zero divisor faults
abbrev pub unless_zero : ℕ → Result (ℕ × Change) ℕ → Result (ℕ × Change) ℕ
unless_zero y e = cond (eqb y 0) (Err zero_divisor) e

-- and, or, exclusive or: bit by bit, over the 16 bits of a word
abbrev pub bitwise : (ℕ → ℕ → ℕ) → ℕ → ℕ → ℕ → ℕ
bitwise f zero x y = 0
bitwise f (suc n) x y = f (x % 2) (y % 2) + 2 * bitwise f n (x / 2) (y / 2)

abbrev pub on_bits : (ℕ → ℕ → ℕ) → ℕ → ℕ → ℕ
on_bits f x y = bitwise f 16 x y

-- cc 0 equal, 1 Ra less, 2 greater, unsigned
abbrev pub compared : ℕ → ℕ → ℕ
compared x y = cond (eqb x y) 0 (cond (ltb x y) 1 2)

-- the fields of the flags
abbrev pub cc : Machine → ℕ
cc m = cc_of m.flags

abbrev pub error : Machine → ℕ
error m = error_of m.flags

abbrev pub pending : Machine → ℕ
pending m = pending_of m.flags

-- call: R1 falls by 1, the return address is stored there, R0 becomes n
abbrev pub calls : Machine → ℕ → ℕ → ℕ → Result (ℕ × Change) ℕ
calls m next top n = storing m top (Ok (next, Change.Call (address top) n))

-- what each order does: next is R0 past it, x is Ra and y is Rb
abbrev pub effect : Op → Machine → ℕ → ℕ → ℕ → ℕ → Result (ℕ × Change) ℕ
effect Op.Unknown m next a x y = Err bad_order
effect Op.Load m next a x y = second m (sets next a)
effect Op.Copy m next a x y = sets next a y
effect Op.Fetch m next a x y = reading (found m y) (sets next a)
effect Op.Store m next a x y = storing m y (Ok (next, Change.Store (address y) x))
effect Op.Add m next a x y = sets next a (mod_word (x + y))
effect Op.Subtract m next a x y = sets next a (mod_word (x + 65536 - y))
effect Op.Multiply m next a x y = sets next a (mod_word (x * y))
effect Op.Quotient m next a x y = unless_zero y (sets next a (x / y))
effect Op.Remainder m next a x y = unless_zero y (sets next a (x % y))
effect Op.And m next a x y = sets next a (on_bits min x y)
effect Op.Or m next a x y = sets next a (on_bits max x y)
effect Op.ExclusiveOr m next a x y = sets next a (on_bits (λ j k. (j + k) % 2) x y)
effect Op.Compare m next a x y = flags_become next (flags_of (compared x y) (error m) (pending m))
effect Op.Jump m next a x y = second m (jumps next)
effect Op.JumpIf m next a x y = second m (λ n. jumps next (cond (eqb (cc m) a) n next))
effect Op.Call m next a x y = second m (calls m next (mod_word (stack m + 65535)))
effect Op.Return m next a x y = reading (found m (stack m)) (λ w. Ok (next, Change.Return (mod_word (stack m + 1)) w))
effect Op.Service m next a x y = flags_become next (flags_of (cc m) (error m) a)

-- an order of op, a and b, of n words
unfoldable pub effect_of : Machine → ℕ → ℕ → ℕ → ℕ → Result (ℕ × Change) ℕ
effect_of m op n a b =
    let next = past m n in
    effect (order_of op) m next a (operand m next a) (operand m next b)

-- op and fields, save the service number; service number; then the order
unfoldable pub checked : Option (ℕ × Field × Field) → Machine → ℕ → Result (ℕ × Change) ℕ
checked None m w = Err bad_order
checked (Some (n, fa, fb)) m w =
    cond (holds fa (a_of w) && holds fb (b_of w))
    (cond (serves fa (a_of w)) (effect_of m (op_of w) n (a_of w) (b_of w)) (Err bad_service))
    (Err bad_order)

-- one order: the first word's address before all
unfoldable pub decided : Machine → Result (ℕ × Change) ℕ
decided m = reading (found m (next_order m)) (λ w. checked (shape_of_order (order_of (op_of w))) m w)

-- the machine with R1 and R0 written anew
abbrev pub with_stack : Machine → ℕ → ℕ → Machine
with_stack m top n = with_register (with_register m 1 top) 0 n

-- the machine after a change: R0 is moved past the order first
unfoldable pub changed : Machine → ℕ → Change → Machine
changed m next (Change.Register a w) = with_register (moved_past m next) a w
changed m next (Change.Store a w) = with_word (moved_past m next) a w
changed m next (Change.Flags f) = with_flags (moved_past m next) f
changed m next (Change.Call top n) = with_stack (with_word (moved_past m next) top next) top.0 n
changed m next (Change.Return top w) = with_stack (moved_past m next) top w

-- a faulting order changes only the error in the flags
unfoldable pub faulted : Machine → ℕ → Machine
faulted m e = with_flags m (flags_of (cc m) e (pending m))

-- the machine after an order, and its answer
abbrev pub after : Machine → Result (ℕ × Change) ℕ → Machine
after m (Ok (next, c)) = changed m next c
after m (Err e) = faulted m e

abbrev pub order_answer : Task → Result (ℕ × Change) ℕ → Answer
order_answer i (Ok (next, c)) = Answer.OrderDone i
order_answer i (Err e) = Answer.OrderFaulted i

-- an order of task i: what its own machine decides, and the image with that machine put back into its place
abbrev pub order : Shape → List ℕ → Task → Result (ℕ × Change) ℕ
order s im i = decided (own s im i)

abbrev pub after_order : Shape → List ℕ → Task → Result (ℕ × Change) ℕ → List ℕ
after_order s im i e = with_own s im i (after (own s im i) e)
