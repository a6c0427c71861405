-- Words that are 0 already, where no zeros need be written. Assumes nothing.
use Rattle.std.specs.Prelude.{◌≡◌, refl, List, [], ◌∷◌, ◌++◌, ℕ, zero, suc, ◌+◌, ◌-◌, ◌<◌, ◌≤◌, length, get_or, set, replicate}
use Rattle.std.proofs.Common.{sym, ap, ◌∙◌, add-zero, add-suc, suc-add, arith, get_or-set_other}
use Rattle.std.proofs.lemmas.List.{length-replicate, set-get_or}
use Rattle.std.proofs.lemmas.List.Edits.{sets}
use Rattle.writes.specs.Written.{written, written_on}

-- the n words from index i on are 0
unfoldable pub Zeroed : List ℕ → ℕ → ℕ → Type 0
Zeroed l i n = (k : ℕ) → k < n → get_or l (i + k) 0 ≡ 0

-- a word before or after those written is as it was
read_before : (l : List ℕ) (i j : ℕ) (vs : List ℕ) → j < i → get_or (sets l i vs) j 0 ≡ get_or l j 0
read_before l i j [] h = refl
read_before l i j (v ∷ vs) h = read_before (set l i v) (suc i) j vs (omega arith) ∙ get_or-set_other l i j v 0 (λ e. omega arith)

read_after : (l : List ℕ) (i j : ℕ) (vs : List ℕ) → i + length vs ≤ j → get_or (sets l i vs) j 0 ≡ get_or l j 0
read_after l i j [] h = refl
read_after l i j (v ∷ vs) h = read_after (set l i v) (suc i) j vs (omega arith) ∙ get_or-set_other l i j v 0 (λ e. omega arith)

-- a zero written is read, and past the end 0 is read as well
read_zero : (l : List ℕ) (i : ℕ) → get_or (set l i 0) i 0 ≡ 0
read_zero [] i = refl
read_zero (x ∷ l) zero = refl
read_zero (x ∷ l) (suc i) = read_zero l i

read_zeros : (n : ℕ) (l : List ℕ) (i k : ℕ) → k < n → get_or (sets l i (replicate n 0)) (i + k) 0 ≡ 0
read_zeros zero l i k h = absurd (omega arith)
read_zeros (suc n) l i zero h =
    rw (add-zero i) (read_before (set l i 0) (suc i) i (replicate n 0) (omega arith) ∙ read_zero l i)
read_zeros (suc n) l i (suc k) h =
    ap (λ (j : ℕ). get_or (sets (set l i 0) (suc i) (replicate n 0)) j 0) (add-suc i k ∙ sym (suc-add i k)) ∙
    read_zeros n (set l i 0) (suc i) k (omega arith)

-- zeros written are there
pub zeros_zeroed : (l out : List ℕ) (i n : ℕ) → out ≡ written l i (replicate n 0) → Zeroed out i n
unfolding Zeroed written
zeros_zeroed l out i n e k h = rw e (read_zeros n l i k h)

-- a part of words that are 0
pub part_zeroed : (l : List ℕ) (i n j m : ℕ) → Zeroed l i n → i ≤ j → j + m ≤ i + n → Zeroed l j m
unfolding Zeroed
part_zeroed l i n j m c h g k b =
    let d : ℕ = j + k - i in
    let e : i + d ≡ j + k = omega arith in
    ap (λ (x : ℕ). get_or l x 0) (sym e) ∙ c d (omega arith)

-- what comes after the words written stays 0
pub later_zeroed : (l out : List ℕ) (i : ℕ) (vs : List ℕ) (a n j m : ℕ) → out ≡ written l i vs → i + length vs ≤ j → Zeroed l a n → a ≤ j
    → j + m ≤ a + n → Zeroed out j m
unfolding Zeroed written
later_zeroed l out i vs a n j m e h z g b k d = rw e (read_after l i (j + k) vs (omega arith) ∙ part_zeroed l a n j m z g b k d)

-- zeros over zeros change nothing
pub zeroed_kept : (n : ℕ) (l : List ℕ) (i : ℕ) → Zeroed l i n → written l i (replicate n 0) ≡ l
unfolding Zeroed written
zeroed_kept zero l i c = refl
zeroed_kept (suc n) l i c =
    let z : get_or l i 0 ≡ 0 = ap (λ (j : ℕ). get_or l j 0) (sym (add-zero i)) ∙ c 0 (omega arith) in
    let e : set l i 0 ≡ l = ap (set l i) (sym z) ∙ set-get_or l i 0 in
    ap (λ (x : List ℕ). sets x (suc i) (replicate n 0)) e ∙
    zeroed_kept n l (suc i) (λ k h. ap (λ (j : ℕ). get_or l j 0) (suc-add i k ∙ sym (add-suc i k)) ∙ c (suc k) (omega arith))

-- words written among zeros are those words with zeros after them, and with zeros before them too
pub zeros_after : (l out : List ℕ) (i : ℕ) (vs : List ℕ) (n : ℕ) → Zeroed l i (length vs + n) → out ≡ written l i vs
    → out ≡ written l i (vs ++ replicate n 0)
zeros_after l out i vs n z e =
    let kept : Zeroed out (i + length vs) n = later_zeroed l out i vs i _ (i + length vs) n e (omega arith) z (omega arith) (omega arith) in
    sym (zeroed_kept n out (i + length vs) kept) ∙
    ap (λ (x : List ℕ). written x (i + length vs) (replicate n 0)) e ∙ written_on l i vs (replicate n 0)

pub zeros_around : (l out : List ℕ) (i a : ℕ) (vs : List ℕ) (n : ℕ) → Zeroed l i (a + (length vs + n)) → out ≡ written l (i + a) vs
    → out ≡ written l i (replicate a 0 ++ (vs ++ replicate n 0))
zeros_around l out i a vs n z e =
    let w = vs ++ replicate n 0 in
    let first : Zeroed l i a = part_zeroed l i _ i a z (omega arith) (omega arith) in
    let later : Zeroed l (i + a) (length vs + n) = part_zeroed l i _ (i + a) _ z (omega arith) (omega arith) in
    zeros_after l out (i + a) vs n later e ∙
    ap (λ (x : List ℕ). written x (i + a) w) (sym (zeroed_kept a l i first)) ∙
    ap (λ (k : ℕ). written (written l i (replicate a 0)) (i + k) w) (sym (length-replicate a 0)) ∙ written_on l i (replicate a 0) w
