-- A task's own machine, read where it lies and put back there. Assumes nothing.
use Rattle.std.specs.Prelude.{◌≡◌, refl, ◌⊎◌, ℕ, ◌+◌, ◌<◌, ◌≤◌, set, Err, None, Ok, Result, Some}
use Rattle.std.proofs.Common.{sym, ◌∙◌, inl, inr, lt-ltb, le-ltb, length-append, get_or-set_other, get_or-append-add}
use Rattle.std.proofs.Math.Path.{ap}
use mathlib.Core.List.{List, [], ◌∷◌, ◌++◌}
use native.Mathlib.Omega.{arith}
use Rattle.std.proofs.Math.ListN.{length, get_or, length-set}
use Rattle.std.proofs.Math.Seq.{get_or_at}
use Rattle.std.proofs.lemmas.List.{set-append_left, set_at}
use Rattle.paper.specs.Machines.{Machine, Lies, machine, put_back, words_at, over}
use Rattle.paper.specs.Orders.{register, found, with_register, with_flags, with_word, changed, faulted, after}
use Rattle.paper.specs.declared.Address.{Address}
use Rattle.paper.specs.declared.Change.{Change}
use Rattle.own.specs.Spans.{length_words, length_over, get_d_words, Spanned, over_elsewhere, over_before, over_within, set_elsewhere, set_before, over_set, over_words, words_same, words_over, words_last, words_front, words_after, over_after}

-- the row lies before the segment, and the segment within the words
abbrev pub RowBeforeSegment : Lies → List ℕ → Type 0
RowBeforeSegment g l = (g.row + 9 ≤ g.base) × (g.base + g.length ≤ length l)

-- a machine of eight registers and a segment of that length
abbrev pub Fits : Lies → Machine → Type 0
Fits g m = (length m.registers ≡ 8) × (length m.segment ≡ g.length)

-- the nine words of its row
abbrev row_words : Machine → List ℕ
row_words m = m.registers ++ (m.flags ∷ [])

row_long : (g : Lies) (m : Machine) → Fits g m → length (row_words m) ≡ 9
row_long g m fits = omega (arith, length-append m.registers (m.flags ∷ []), fits.0)

-- a machine is its registers, its flags and its segment
abbrev made : List ℕ → ℕ → List ℕ → Machine
made rs f ws = record { registers = rs; flags = f; segment = ws }

pub one_machine : (m n : Machine) → m.registers ≡ n.registers → m.flags ≡ n.flags → m.segment ≡ n.segment → m ≡ n
one_machine m n a b c =
    let e : made m.registers m.flags m.segment ≡ made n.registers n.flags n.segment = cc (a, b, c) in
    e

-- what is read fits, and put back it changes nothing
pub machine_fits : (g : Lies) (l : List ℕ) → Fits g (machine g l)
unfolding machine
machine_fits g l = (length_words l g.row 8, length_words l g.base g.length)

pub put_machine : (g : Lies) (l : List ℕ) → put_back g l (machine g l) ≡ l
unfolding machine put_back
put_machine g l =
    ap (λ (ws : List ℕ). over (over l g.row ws) g.base (words_at l g.base g.length)) (sym (words_last l g.row 8)) ∙
    ap (λ (m : List ℕ). over m g.base (words_at l g.base g.length)) (over_words l g.row 9) ∙ over_words l g.base g.length

pub length_put_back : (g : Lies) (l : List ℕ) (m : Machine) → length (put_back g l m) ≡ length l
unfolding put_back
length_put_back g l m =
    let ws = row_words m in
    length_over (over l g.row ws) g.base m.segment ∙ length_over l g.row ws

-- a word of a machine is the word where it lies
pub machine_register : (g : Lies) (l : List ℕ) (r : ℕ) → r < 8 → register (machine g l) r ≡ get_or l (g.row + r) 0
unfolding machine
machine_register g l r h = get_d_words l g.row 8 r h

pub machine_flags : (g : Lies) (l : List ℕ) → (machine g l).flags ≡ get_or l (g.row + 8) 0
unfolding machine
machine_flags g l = refl

-- an address of the segment, and one outside
pub found_word : (g : Lies) (l : List ℕ) (a : ℕ) → a < g.length → found (machine g l) a ≡ Some (get_or l (g.base + a) 0)
unfolding machine found
found_word g l a h = rw (length_words l g.base g.length, lt-ltb a g.length h, get_d_words l g.base g.length a h)

pub found_outside : (g : Lies) (l : List ℕ) (a : ℕ) → g.length ≤ a → found (machine g l) a ≡ None
unfolding machine found
found_outside g l a h = rw (length_words l g.base g.length, le-ltb a g.length h)

-- a changed machine fits as before
module _ (g : Lies) (m : Machine) (fits : Fits g m) where
  pub register_fits : (r w : ℕ) → Fits g (with_register m r w)
  unfolding with_register
  register_fits r w = (length-set m.registers r w ∙ fits.0, fits.1)

  pub flags_fits : (f : ℕ) → Fits g (with_flags m f)
  unfolding with_flags
  flags_fits f = fits

  pub word_fits : (a : Address) (w : ℕ) → Fits g (with_word m a w)
  unfolding with_word
  word_fits a w = (fits.0, length-set m.segment a.0 w ∙ fits.1)

-- and so does the machine after an order
module _ (g : Lies) (m : Machine) (fits : Fits g m) where
  moved_fits : (next : ℕ) → Fits g (with_register m 0 next)
  moved_fits next = register_fits g m fits 0 next

  changed_fits : (next : ℕ) (c : Change) → Fits g (changed m next c)
  unfolding changed
  changed_fits next (Change.Register a w) = register_fits g (with_register m 0 next) (moved_fits next) a w
  changed_fits next (Change.Store a w) = word_fits g (with_register m 0 next) (moved_fits next) a w
  changed_fits next (Change.Flags f) = flags_fits g (with_register m 0 next) (moved_fits next) f
  changed_fits next (Change.Call top n) =
      let stored = with_word (with_register m 0 next) top next in
      let s = word_fits g (with_register m 0 next) (moved_fits next) top next in
      register_fits g (with_register stored 1 top.0) (register_fits g stored s 1 top.0) 0 n
  changed_fits next (Change.Return top w) =
      register_fits g (with_register (with_register m 0 next) 1 top) (register_fits g (with_register m 0 next) (moved_fits next) 1 top) 0 w

  pub after_fits : (e : Result (ℕ × Change) ℕ) → Fits g (after m e)
  unfolding faulted
  after_fits (Ok (next, c)) = changed_fits next c
  after_fits (Err e) = flags_fits g m fits _

-- a changed machine put back: that one word is written
module _ (g : Lies) (l : List ℕ) (m : Machine) (fits : Fits g m) where
  row_set : (j v : ℕ) → g.row + 9 ≤ g.base → j < 9
      → over (over l g.row (set (row_words m) j v)) g.base m.segment ≡ set (put_back g l m) (g.row + j) v
  unfolding put_back
  row_set j v before h =
      let ws = row_words m in
      let long = row_long g m fits in
      ap (λ (x : List ℕ). over x g.base m.segment) (over_set l g.row ws j v (omega arith)) ∙
      set_before (over l g.row ws) g.base m.segment (g.row + j) v (omega arith)

  pub put_with_register : RowBeforeSegment g l → (r w : ℕ) → r < 8 → put_back g l (with_register m r w) ≡ set (put_back g l m) (g.row + r) w
  unfolding with_register put_back
  put_with_register apart r w h =
      ap (λ (ws : List ℕ). over (over l g.row ws) g.base m.segment) (sym (set-append_left m.registers (m.flags ∷ []) r w (omega (arith, fits.0)))) ∙
      row_set r w apart.0 (omega arith)

  pub put_with_flags : RowBeforeSegment g l → (f : ℕ) → put_back g l (with_flags m f) ≡ set (put_back g l m) (g.row + 8) f
  unfolding with_flags put_back
  put_with_flags apart f =
      ap (λ (ws : List ℕ). over (over l g.row ws) g.base m.segment) (sym (set_at m.registers m.flags [] f 8 fits.0)) ∙
      row_set 8 f apart.0 (omega arith)

  pub put_with_word : (a : Address) (w : ℕ) → a.0 < g.length → put_back g l (with_word m a w) ≡ set (put_back g l m) (g.base + a.0) w
  unfolding with_word put_back
  put_with_word a w h =
      over_set (over l g.row (row_words m)) g.base m.segment a.0 w (omega (arith, fits.1))

  -- a machine put back is read again
  pub machine_put : RowBeforeSegment g l → machine g (put_back g l m) ≡ m
  unfolding machine put_back
  machine_put apart =
      let ws = row_words m in
      let row = over l g.row ws in
      let long = row_long g m fits in
      let kept : (j : ℕ) → j < g.row + 9 → get_or (over row g.base m.segment) j 0 ≡ get_or row j 0 =
      λ j h. over_before row g.base m.segment j (omega (arith, apart.0)) in
      one_machine (machine g (put_back g l m)) m
      (words_same (over row g.base m.segment) row g.row 8 (λ j a b. kept j (omega arith)) ∙
      ap (λ (n : ℕ). words_at row g.row n) (sym fits.0) ∙ words_front l g.row m.registers (m.flags ∷ []) (omega (arith, fits.0, apart)))
      (kept (g.row + 8) (omega arith) ∙ over_within l g.row ws 8 (omega arith) (omega (arith, apart)) ∙ get_or_at m.registers m.flags [] 0 8 fits.0)
      (ap (λ (n : ℕ). words_at (over row g.base m.segment) g.base n) (sym fits.1) ∙
      words_over row g.base m.segment (omega (arith, fits.1, apart.1, length_over l g.row ws)))

-- a place of one of a machine's words
abbrev pub OwnPlace : Lies → ℕ → Type 0
OwnPlace g j = Spanned g.row 9 j ⊎ Spanned g.base g.length j

-- a machine is what its own places hold
pub machine_same : (g : Lies) (l n : List ℕ) → ((j : ℕ) → OwnPlace g j → get_or l j 0 ≡ get_or n j 0) → machine g l ≡ machine g n
unfolding machine
machine_same g l n f =
    one_machine (machine g l) (machine g n) (words_same l n g.row 8 (λ j a b. f j (inl (a, omega arith))))
    (f (g.row + 8) (inl (omega arith, omega arith))) (words_same l n g.base g.length (λ j a b. f j (inr (a, b))))

-- a word elsewhere is none of its words
pub machine_elsewhere : (g : Lies) (l : List ℕ) (j v : ℕ) → ¬ OwnPlace g j → machine g (set l j v) ≡ machine g l
machine_elsewhere g l j v h =
    machine_same g (set l j v) l (λ k own.
    get_or-set_other l j k v 0 (λ e. h (rw e at own)))

module _ (g : Lies) (l : List ℕ) (m : Machine) (fits : Fits g m) where
  -- and stays where one is put back, be it written before or after
  pub put_elsewhere : (j : ℕ) → ¬ OwnPlace g j → get_or (put_back g l m) j 0 ≡ get_or l j 0
  unfolding put_back
  put_elsewhere j h =
      let ws = row_words m in
      over_elsewhere (over l g.row ws) g.base m.segment j (λ k. h (inr (rw fits.1 at k))) ∙
      over_elsewhere l g.row ws j (λ k. h (inl (rw (row_long g m fits) at k)))

  pub put_set : (j v : ℕ) → ¬ OwnPlace g j → put_back g (set l j v) m ≡ set (put_back g l m) j v
  unfolding put_back
  put_set j v h =
      let ws = row_words m in
      ap (λ (x : List ℕ). over x g.base m.segment) (set_elsewhere l g.row ws j v (λ k. h (inl (rw (row_long g m fits) at k)))) ∙
      set_elsewhere (over l g.row ws) g.base m.segment j v (λ k. h (inr (rw fits.1 at k)))

-- a part of an image: where a machine lies in it, and where in the image, which has other words before that part
abbrev pub in_part : ℕ → ℕ → Lies
in_part b n = record { row = 0; base = b; length = n }

abbrev pub past_others : List ℕ → ℕ → ℕ → Lies
past_others xs b n = record { row = length xs; base = length xs + b; length = n }

module _ (xs l : List ℕ) (b n : ℕ) where
  pub machine_after : machine (past_others xs b n) (xs ++ l) ≡ machine (in_part b n) l
  unfolding machine
  machine_after =
      let start : length xs ≡ length xs + 0 = omega arith in
      one_machine (machine (past_others xs b n) (xs ++ l)) (machine (in_part b n) l)
      (ap (λ (p : ℕ). words_at (xs ++ l) p 8) start ∙ words_after xs l 0 8) (get_or-append-add xs l 8 0) (words_after xs l b n)

  pub put_after : (m : Machine) → put_back (past_others xs b n) (xs ++ l) m ≡ xs ++ put_back (in_part b n) l m
  unfolding put_back
  put_after m =
      let start : length xs ≡ length xs + 0 = omega arith in
      let ws = row_words m in
      ap (λ (x : List ℕ). over x (length xs + b) m.segment) (ap (λ (p : ℕ). over (xs ++ l) p ws) start ∙ over_after xs l 0 ws) ∙
      over_after xs (over l 0 ws) b m.segment
