-- How many bytes a number holds, bytes placed one after another in a text, and how writing places them. Assumes nothing.
use Rattle.std.specs.Prelude.{◌≡◌, refl, List, [], ◌∷◌, ◌++◌, ℕ, zero, suc, ◌+◌, ◌/◌, ◌≤◌, length, set, take, drop}
use Rattle.std.proofs.Common.{sym, ap, ◌∙◌, append-nil, append_assoc, add-zero, zero-add, add_assoc, arith, length-append, take-append-drop, drop-set-lt, length-take-le}
use Rattle.std.proofs.lemmas.List.Edits.{sets, sets-eq}
use Rattle.std.proofs.Math.Seq.{take-append-add}
use Rattle.std.proofs.lemmas.List.{take-append-le}
use Rattle.writes.specs.Written.{written, kept_length}
use Rattle.packing.specs.Packed.{unpacked, bytes_of, Placed}
use Rattle.packing.specs.declared.Packed.{Packed}

pub unpacked_length : (n v : ℕ) → length (unpacked n v) ≡ n
unfolding unpacked
unpacked_length zero v = refl
unpacked_length (suc n) v = ap suc (unpacked_length n (v / 256))

pub bytes_length : (p : Packed) → length (bytes_of p) ≡ p.bytes
unfolding bytes_of
bytes_length p = unpacked_length p.bytes p.value

-- two texts placed one after another, and no text placed
pub placed_then : (o mid out : List ℕ) (at next end : ℕ) (x y : List ℕ) → Placed o at x end mid → next ≡ at + length x
    → Placed mid next y end out → Placed o at (x ++ y) end out
placed_then o mid out at next end x y p e q =
    record {
      placed = rw (length-append, ← add_assoc, ← e, q.placed, e, p.placed, append_assoc);
      past = q.past ∙ p.past;
      sized = q.sized ∙ p.sized;
    }

pub placed_none : (o : List ℕ) (at end : ℕ) → Placed o at [] end o
placed_none o at end = record { placed = rw (add-zero, append-nil); past = refl; sized = refl }

-- a text placed in front whose end is the end of the part to be written
pub placed_text : (o out vs : List ℕ) (end : ℕ) → end ≡ length vs → Placed o 0 vs end out → out ≡ vs ++ drop (length vs) o
placed_text o out vs end e p =
    let t : take (length vs) out ≡ vs = rw zero-add at p.placed in
    sym (take-append-drop (length vs) out) ∙ rw (t, ← e, p.past)

-- bytes after those written stay
drop_sets : (o : List ℕ) (at : ℕ) (ws : List ℕ) (end : ℕ) → at + length ws ≤ end → drop end (sets o at ws) ≡ drop end o
drop_sets o at [] end h = refl
drop_sets o at (w ∷ ws) end h = drop_sets (set o at w) (suc at) ws end (omega arith) ∙ drop-set-lt end o at w (omega arith)

-- what was written before the end places each of its first parts
pub placed_first : (o out : List ℕ) (at : ℕ) (ws : List ℕ) (end m : ℕ) → out ≡ written o at ws → m ≤ length ws → at + length ws ≤ end
    → end ≤ length o → Placed o at (take m ws) end out
unfolding written
placed_first o out at ws end m e h g l =
    let rest = drop (at + length ws) o in
    let a : length (take at o) ≡ at = length-take-le at o (omega arith) in
    let b : take (at + m) (take at o ++ (ws ++ rest)) ≡ take at o ++ take m (ws ++ rest) = rw a at (take-append-add (take at o) (ws ++ rest) m) in
    let c : out ≡ take at o ++ (ws ++ rest) = e ∙ sets-eq ws o at (omega arith) ∙ append_assoc (take at o) ws rest in
    record {
      placed = rw (length-take-le m ws h, c, b, take-append-le m ws rest h);
      past = rw e (drop_sets o at ws end g);
      sized = kept_length o out at ws e;
    }
