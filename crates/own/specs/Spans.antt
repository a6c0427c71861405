-- Words of a list from a place on, and a list with words written over it. Assumes nothing.
use Rattle.std.specs.Prelude.{◌≡◌, refl, List, [], ◌∷◌, ◌++◌, ℕ, zero, suc, ◌+◌, ◌<◌, ◌≤◌, length, get_or, set}
use Rattle.std.proofs.Common.{sym, ap, ◌∙◌, zero-add, suc-add, arith, length-set, get_or-set_same, get_or-set_other, get_or-append-add, set-set}
use Rattle.std.proofs.lemmas.List.{set-get_or, set_comm}
use Rattle.paper.specs.Machines.{words_at, over}

shift : (p j : ℕ) → suc p + j ≡ p + suc j
shift p j = omega arith

-- as many as are asked for; a list is as long as it was
pub length_words : (l : List ℕ) (p n : ℕ) → length (words_at l p n) ≡ n
length_words l p zero = refl
length_words l p (suc n) = ap suc (length_words l (suc p) n)

pub length_over : (l : List ℕ) (p : ℕ) (ws : List ℕ) → length (over l p ws) ≡ length l
length_over l p [] = refl
length_over l p (w ∷ ws) = length_over (set l p w) (suc p) ws ∙ length-set l p w

-- each of the words
pub get_d_words : (l : List ℕ) (p n j : ℕ) → j < n → get_or (words_at l p n) j 0 ≡ get_or l (p + j) 0
get_d_words l p zero j h = absurd (omega arith)
get_d_words l p (suc n) zero h =
    let e : p ≡ p + 0 = omega arith in
    ap (λ (k : ℕ). get_or l k 0) e
get_d_words l p (suc n) (suc j) h = get_d_words l (suc p) n j (omega arith) ∙ ap (λ (k : ℕ). get_or l k 0) (shift p j)

-- j is one of n places from p on
abbrev pub Spanned : ℕ → ℕ → ℕ → Type 0
Spanned p n j = (p ≤ j) × (j < p + n)

-- a word elsewhere than what is written, so one before it, is as it was
pub over_elsewhere : (l : List ℕ) (p : ℕ) (ws : List ℕ) (j : ℕ) → ¬ Spanned p (length ws) j → get_or (over l p ws) j 0 ≡ get_or l j 0
over_elsewhere l p [] j h = refl
over_elsewhere l p (w ∷ ws) j h =
    over_elsewhere (set l p w) (suc p) ws j (λ k. h (omega arith, omega arith)) ∙ get_or-set_other l p j w 0 (λ e. h (omega arith, omega arith))

pub over_before : (l : List ℕ) (p : ℕ) (ws : List ℕ) (j : ℕ) → j < p → get_or (over l p ws) j 0 ≡ get_or l j 0
over_before l p ws j h = over_elsewhere l p ws j (λ k. omega arith)

-- one within it is what was written
over_first : (l : List ℕ) (p w : ℕ) (ws : List ℕ) → p < length l → get_or (over l p (w ∷ ws)) p 0 ≡ w
over_first l p w ws h = over_before (set l p w) (suc p) ws p (omega arith) ∙ get_or-set_same l p w 0 h

pub over_within : (l : List ℕ) (p : ℕ) (ws : List ℕ) (j : ℕ) → j < length ws → p + j < length l → get_or (over l p ws) (p + j) 0 ≡ get_or ws j 0
over_within l p [] j h k = absurd (omega arith)
over_within l p (w ∷ ws) zero h k =
    let e : p + 0 ≡ p = omega arith in
    ap (λ (x : ℕ). get_or (over l p (w ∷ ws)) x 0) e ∙ over_first l p w ws (omega arith)
over_within l p (w ∷ ws) (suc j) h k =
    ap (λ (x : ℕ). get_or (over l p (w ∷ ws)) x 0) (sym (shift p j)) ∙
    over_within (set l p w) (suc p) ws j (omega arith) (omega (arith, length-set l p w))

-- a word written elsewhere before the others is written after them as well
pub set_elsewhere : (l : List ℕ) (p : ℕ) (ws : List ℕ) (j v : ℕ) → ¬ Spanned p (length ws) j → over (set l j v) p ws ≡ set (over l p ws) j v
set_elsewhere l p [] j v h = refl
set_elsewhere l p (w ∷ ws) j v h =
    ap (λ (m : List ℕ). over m (suc p) ws) (set_comm l j p v w (λ e. h (omega arith, omega arith))) ∙
    set_elsewhere (set l p w) (suc p) ws j v (λ k. h (omega arith, omega arith))

pub set_before : (l : List ℕ) (p : ℕ) (ws : List ℕ) (j v : ℕ) → j < p → over (set l j v) p ws ≡ set (over l p ws) j v
set_before l p ws j v h = set_elsewhere l p ws j v (λ k. omega arith)

-- one of the words changed: it is written anew
pub over_set : (l : List ℕ) (p : ℕ) (ws : List ℕ) (j v : ℕ) → j < length ws → over l p (set ws j v) ≡ set (over l p ws) (p + j) v
over_set l p [] j v h = absurd (omega arith)
over_set l p (w ∷ ws) zero v h =
    let e : p ≡ p + 0 = omega arith in
    ap (λ (m : List ℕ). over m (suc p) ws) (sym (set-set l p w v)) ∙ set_before (set l p w) (suc p) ws p v (omega arith) ∙
    ap (λ (x : ℕ). set (over l p (w ∷ ws)) x v) e
over_set l p (w ∷ ws) (suc j) v h =
    over_set (set l p w) (suc p) ws j v (omega arith) ∙ ap (λ (x : ℕ). set (over l p (w ∷ ws)) x v) (shift p j)

-- the words that stand there, written there, change nothing
pub over_words : (l : List ℕ) (p n : ℕ) → over l p (words_at l p n) ≡ l
over_words l p zero = refl
over_words l p (suc n) = ap (λ (m : List ℕ). over m (suc p) (words_at l (suc p) n)) (set-get_or l p 0) ∙ over_words l (suc p) n

-- lists that agree from a place on have the same words there
pub words_same : (l m : List ℕ) (p n : ℕ) → ((j : ℕ) → p ≤ j → j < p + n → get_or l j 0 ≡ get_or m j 0) → words_at l p n ≡ words_at m p n
words_same l m p zero f = refl
words_same l m p (suc n) f =
    ap (λ (w : ℕ). w ∷ words_at l (suc p) n) (f p (omega arith) (omega arith)) ∙
    ap (λ (ws : List ℕ). get_or m p 0 ∷ ws) (words_same l m (suc p) n (λ j a b. f j (omega arith) (omega arith)))

-- what is written there is read there
pub words_over : (l : List ℕ) (p : ℕ) (ws : List ℕ) → p + length ws ≤ length l → words_at (over l p ws) p (length ws) ≡ ws
words_over l p [] h = refl
words_over l p (w ∷ ws) h =
    ap (λ (x : ℕ). x ∷ words_at (over l p (w ∷ ws)) (suc p) (length ws)) (over_first l p w ws (omega arith)) ∙
    ap (λ (xs : List ℕ). w ∷ xs) (words_over (set l p w) (suc p) ws (omega (arith, length-set l p w)))

-- one word more
pub words_last : (l : List ℕ) (p n : ℕ) → words_at l p (suc n) ≡ words_at l p n ++ (get_or l (p + n) 0 ∷ [])
words_last l p zero =
    let e : p ≡ p + 0 = omega arith in
    ap (λ (k : ℕ). get_or l k 0 ∷ []) e
words_last l p (suc n) =
    ap (λ (ws : List ℕ). get_or l p 0 ∷ ws)
    (words_last l (suc p) n ∙ ap (λ (k : ℕ). words_at l (suc p) n ++ (get_or l k 0 ∷ [])) (shift p n))

-- two runs of words, one after the other
pub over_append : (l : List ℕ) (p : ℕ) (xs ys : List ℕ) → over l p (xs ++ ys) ≡ over (over l p xs) (p + length xs) ys
over_append l p [] ys =
    let e : p ≡ p + 0 = omega arith in
    ap (λ (k : ℕ). over l k ys) e
over_append l p (x ∷ xs) ys =
    over_append (set l p x) (suc p) xs ys ∙ ap (λ (k : ℕ). over (over l p (x ∷ xs)) k ys) (shift p (length xs))

-- the first run is read
pub words_front : (l : List ℕ) (p : ℕ) (xs ys : List ℕ) → p + length xs ≤ length l → words_at (over l p (xs ++ ys)) p (length xs) ≡ xs
words_front l p xs ys h =
    ap (λ (m : List ℕ). words_at m p (length xs)) (over_append l p xs ys) ∙
    words_same (over (over l p xs) (p + length xs) ys) (over l p xs) p (length xs) (λ j a b. over_before (over l p xs) (p + length xs) ys j b) ∙ words_over l p xs h

-- a list after another: the places are moved by as much as that is long
set_after : (xs l : List ℕ) (p v : ℕ) → set (xs ++ l) (length xs + p) v ≡ xs ++ set l p v
set_after [] l p v = ap (λ (k : ℕ). set l k v) (zero-add p)
set_after (x ∷ xs) l p v =
    ap (λ (k : ℕ). set (x ∷ (xs ++ l)) k v) (suc-add (length xs) p) ∙ ap (λ (ys : List ℕ). x ∷ ys) (set_after xs l p v)

next_after : (xs : List ℕ) (p : ℕ) → suc (length xs + p) ≡ length xs + suc p
next_after xs p = omega arith

pub words_after : (xs l : List ℕ) (p n : ℕ) → words_at (xs ++ l) (length xs + p) n ≡ words_at l p n
words_after xs l p zero = refl
words_after xs l p (suc n) =
    ap (λ (w : ℕ). w ∷ words_at (xs ++ l) (suc (length xs + p)) n) (get_or-append-add xs l p 0) ∙
    ap (λ (ws : List ℕ). get_or l p 0 ∷ ws) (ap (λ (k : ℕ). words_at (xs ++ l) k n) (next_after xs p) ∙ words_after xs l (suc p) n)

pub over_after : (xs l : List ℕ) (p : ℕ) (ws : List ℕ) → over (xs ++ l) (length xs + p) ws ≡ xs ++ over l p ws
over_after xs l p [] = refl
over_after xs l p (w ∷ ws) =
    ap (λ (m : List ℕ). over m (suc (length xs + p)) ws) (set_after xs l p w) ∙
    ap (λ (k : ℕ). over (xs ++ set l p w) k ws) (next_after xs p) ∙ over_after xs (set l p w) (suc p) ws
