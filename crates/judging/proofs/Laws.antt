-- A line of the script judged, and what the lines so far come to. Assumes nothing.
use Rattle.std.specs.Prelude.{Option, Result, ℕ}
use mathlib.Core.Path.{◌≡◌, refl, sym, ap, subst, ◌∙◌}
use mathlib.Core.Bool.{Bool, true, false}
use mathlib.Core.List.{List, [], ◌∷◌, ◌++◌, append_assoc}
use Prim.Native.Nat.{ℕ, suc, ◌+◌, ◌-◌, ◌*◌, ◌<◌, ◌≤◌, min}
use native.Mathlib.Numerals.{add-one}
use native.Mathlib.Nat.{add-zero}
use native.Mathlib.Omega.{arith}
use borrow.Author.Tests.{lt-ltb, le-ltb, ltb-true, ltb-false}
use lib.Dec.{ltb}
use lib.ListN.{length, drop, length-append}
use lib.Seq.{drop_at}
use Rattle.grammar.specs.Tokens.{tokens, lines, first_line}
use Rattle.grammar.specs.Sums.{Entry, end_of_range}
use Rattle.grammar.specs.Lines as Lines
use Rattle.grammar.specs.Lines.{label_of, body_of, size_of, given, line_words}
use Rattle.grammar.specs.Texts.{give, label_gives, noted, nowhere, room_flaw, judged_as, labels_given, script_fault, script_words, last_line}
use Rattle.grammar.specs.declared.Line.{Line}
use Rattle.grammar.specs.declared.Refusal.{Refusal}
use Rattle.grammar.specs.declared.Text.{Text}
use Rattle.tokens.specs.Shown.{part}
use Rattle.tables.specs.Tables.{Table, entries, entry_word, most}
use Rattle.tables.proofs.Laws.{entries_count, earlier_entries}
use Rattle.giving.proofs.Lines.{line_splits, line_is_part, line_within, part_count}
use Rattle.giving.specs.Passes.{KnownLabel, one_more, above_after, LineJudged, line_at, ScriptJudged}

-- one entry more, and none where the table is full
pub has_one_more : (m : ℕ) → m < most → m + 1 ≡ one_more m
has_one_more m h = rw (lt-ltb m most h, one_more)

pub has_no_more : (m : ℕ) → most ≤ m → m ≡ one_more m
has_no_more m h = rw (le-ltb m most h, one_more)

-- the entries given later stand before those given above
record Later (es all : List Entry) : Type 0 where
  more : List Entry
  are : all ≡ more ++ es

later_twice : (es fs gs : List Entry) → Later es fs → Later fs gs → Later es gs
later_twice es fs gs p q = record { more = q.more ++ p.more; are = q.are ∙ rw (p.are, append_assoc) }

give_one : (es : List Entry) (w : List ℕ) (v : ℕ) → length es < most → give es w v ≡ record { spelt = w; value = v } ∷ es
give_one es w v h = rw (lt-ltb (length es) most h, give)

give_none : (es : List Entry) (w : List ℕ) (v : ℕ) → most ≤ length es → give es w v ≡ es
give_none es w v h = rw (le-ltb (length es) most h, give)

give_later : (es : List Entry) (w : List ℕ) (v : ℕ) → Later es (give es w v)
give_later es w v = go (ltb (length es) most) refl
  where
    go : (b : Bool) → ltb (length es) most ≡ b → Later es (give es w v)
    go true e = record { more = record { spelt = w; value = v } ∷ []; are = give_one es w v (ltb-true (length es) most e) }
    go false e = record { more = []; are = give_none es w v (ltb-false (length es) most e) }

label_later : (es : List Entry) (place : ℕ) (lab : Lines.Label) → Later es (label_gives es place lab)
label_later es place Lines.Label.none = record { more = []; are = refl }
label_later es place (Lines.Label.label w) = give_later es w (min place end_of_range)

labels_later : (es : List Entry) (place : ℕ) (ls : List (List ℕ)) → Later es (labels_given es place ls)
unfolding labels_given
labels_later es place [] = record { more = []; are = refl }
labels_later es place (l ∷ ls) =
    later_twice _ _ _ (label_later es place (label_of (tokens l)))
    (labels_later (label_gives es place (label_of (tokens l))) (place + size_of (body_of (tokens l))) ls)

abbrev first_word : List Entry → List ℕ
first_word [] = []
first_word (e ∷ es) = e.spelt

-- so the next entry is the label's
module _ (t : Table) (n m : ℕ) where
  next_entry : (e : Entry) → Later (e ∷ entries t m) (entries t n) → (m < n) × (e ∷ entries t m ≡ entries t (suc m))
  next_entry e later =
      let long : n ≡ length later.more + suc m =
      sym (entries_count t n) ∙ ap length later.are ∙ length-append later.more (e ∷ entries t m) ∙ ap (λ (k : ℕ). length later.more + suc k) (entries_count t m)
      in
      let less : m < n = omega arith in
      let cut : length later.more ≡ n - suc m = omega arith in
      (less, sym (drop_at later.more (e ∷ entries t m) (n - suc m) cut) ∙ ap (drop (n - suc m)) (sym later.are) ∙ earlier_entries t (suc m) n less)

  next_word : (e : Entry) → e ∷ entries t m ≡ entries t (suc m) → e.spelt ≡ entry_word t m
  unfolding entries
  next_word e same = ap first_word same

  given_next : (place : ℕ) (lab : Lines.Label) → Later (label_gives (entries t m) place lab) (entries t n) →
      entries t (above_after m lab) ≡ label_gives (entries t m) place lab
  given_next place Lines.Label.none later = refl
  given_next place (Lines.Label.label w) later = go (ltb m most) refl
    where
      made : List Entry
      made = give (entries t m) w (min place end_of_range)

      go : (b : Bool) → ltb m most ≡ b → entries t (one_more m) ≡ made
      go true e =
          let h : m < most = ltb-true m most e in
          let one : made ≡ record { spelt = w; value = min place end_of_range } ∷ entries t m =
          give_one (entries t m) w (min place end_of_range) (rw entries_count h)
          in
          ap (entries t) (sym (has_one_more m h) ∙ add-one m) ∙ sym (next_entry _ (rw one at later)).1 ∙ sym one
      go false e =
          let h : most ≤ m = ltb-false m most e in
          ap (entries t) (sym (has_no_more m h)) ∙ sym (give_none (entries t m) w (min place end_of_range) (rw entries_count h))

  given_known : (place : ℕ) (lab : Lines.Label) → Later (label_gives (entries t m) place lab) (entries t n) → KnownLabel t n m lab
  given_known place Lines.Label.none later = tt
  given_known place (Lines.Label.label w) later =
      λ h.
      let next : (m < n) × (record { spelt = w; value = min place end_of_range } ∷ entries t m ≡ entries t (suc m)) =
      next_entry _ (rw (give_one (entries t m) w (min place end_of_range) (rw entries_count h)) at later)
      in
      (next.0, next_word _ next.1)

-- the next line of the script
next_line : (script : List ℕ) (at count : ℕ) → at < length script → count ≡ length (first_line (drop at script)) →
    lines (drop at script) ≡ part script at (at + count) ∷ lines (drop (at + count + 1) script)
next_line script at count h e =
    rw e (line_splits script at h ∙ ap (λ (l : List ℕ). l ∷ lines (drop (at + length (first_line (drop at script)) + 1) script)) (sym (line_is_part script at _ refl)))

-- what the lines before a place have left, where `place` words come before the labels from there on
pub record SoFar (t : Table) (split n : ℕ) (script : List ℕ) (before fault : Option (Refusal × Line)) (above words at last stop : ℕ) : Type 0 where
  pub place : ℕ
  pub labels : labels_given (entries t above) place (lines (drop at script)) ≡ entries t n
  pub faults :
      script_fault (entries t n) (entries t above) place fault at (lines (drop at script)) ≡ script_fault (entries t n) (entries t split) 0 before 0 (lines script)
  pub counted : words + length (script_words (entries t n) (lines (drop at script))) ≡ length (script_words (entries t n) (lines script))
  pub lasts : last_line (line_at last stop) at (lines (drop at script)) ≡ last_line nowhere 0 (lines script)
  pub ordered : last ≤ stop
  pub few : words ≤ 2 * at

module _ (t : Table) (split n : ℕ) (script : List ℕ) (before : Option (Refusal × Line)) where
  module _ (fault : Option (Refusal × Line)) (above words at last stop : ℕ) (so : SoFar t split n script before fault above words at last stop) where
    module _ (count : ℕ) (h : at < length script) (is : count ≡ length (first_line (drop at script))) where
      here : List ℕ
      here = part script at (at + count)

      rest : List (List ℕ)
      rest = lines (drop (at + count + 1) script)

      splits : lines (drop at script) ≡ here ∷ rest
      unfolding here rest
      splits = next_line script at count h is

      label_after : Later (label_gives (entries t above) so.place (label_of (tokens here))) (entries t n)
      unfolding labels_given
      label_after =
          subst (Later _) (ap (labels_given (entries t above) so.place) (sym splits) ∙ so.labels)
          (labels_later (label_gives (entries t above) so.place (label_of (tokens here))) (so.place + size_of (body_of (tokens here))) rest)

      pub so_known : KnownLabel t n above (label_of (tokens (part script at (at + count))))
      unfolding here
      so_known = given_known t n above so.place (label_of (tokens here)) label_after

      pub one_line_more : (after : Option (Refusal × Line)) (higher more : ℕ) → LineJudged t n above at (part script at (at + count)) fault words higher after more →
          SoFar t split n script before after higher more (at + count + 1) at (at + count)
      unfolding labels_given script_fault script_words last_line here rest
      one_line_more after higher more judged =
          let long : length here ≡ at + count - at = part_count script at (at + count) (omega arith) (line_within script at count h is) in
          let next : at + length here + 1 ≡ at + count + 1 = omega arith in
          let all : length (script_words (entries t n) (lines (drop at script))) ≡ length (line_words (given (entries t n) (body_of (tokens here)))) + length (script_words (entries t n) rest) =
          ap (λ (ks : List (List ℕ)). length (script_words (entries t n) ks)) splits ∙ length-append (line_words (given (entries t n) (body_of (tokens here)))) (script_words (entries t n) rest)
          in
          let stands : entries t higher ≡ label_gives (entries t above) so.place (label_of (tokens here)) =
          ap (entries t) judged.stands ∙ given_next t n above so.place (label_of (tokens here)) label_after
          in
          record {
            place = so.place + size_of (body_of (tokens here));
            labels =
                ap (λ (es : List Entry). labels_given es (so.place + size_of (body_of (tokens here))) rest) stands ∙ ap (labels_given (entries t above) so.place) (sym splits) ∙ so.labels;
            faults =
                (λ i. script_fault (entries t n) (stands i) (so.place + size_of (body_of (tokens here))) (judged.fault i) (sym next i) rest) ∙
                ap (script_fault (entries t n) (entries t above) so.place fault at) (sym splits) ∙ so.faults;
            counted = omega (arith, judged.counted, so.counted, all);
            lasts =
                (λ i. last_line (record { text = Text.Script; from = at; count = sym long i }) (sym next i) rest) ∙ ap (last_line (line_at last stop) at) (sym splits) ∙ so.lasts;
            ordered = omega arith;
            few = omega (arith, judged.few, so.few);
          }

    pub all_so_far : (room : ℕ) (after : Option (Refusal × Line)) (r : Result ℕ (Refusal × Line)) → lines (drop at script) ≡ [] → after ≡ noted fault (room_flaw words room) (line_at last stop) →
        r ≡ judged_as after words → ScriptJudged t split n script before room r
    unfolding script_fault script_words last_line
    all_so_far room after r ends noting judged =
        let faults : fault ≡ script_fault (entries t n) (entries t split) 0 before 0 (lines script) =
        ap (script_fault (entries t n) (entries t above) so.place fault at) (sym ends) ∙ so.faults
        in
        let lasts : line_at last stop ≡ last_line nowhere 0 (lines script) = ap (last_line (line_at last stop) at) (sym ends) ∙ so.lasts in
        let counted : words ≡ length (script_words (entries t n) (lines script)) =
        sym (add-zero words) ∙ ap (λ (ls : List (List ℕ)). words + length (script_words (entries t n) ls)) (sym ends) ∙ so.counted
        in
        judged ∙ (λ i. judged_as ((noting ∙ (λ j. noted (faults j) (room_flaw (counted j) room) (lasts j))) i) (counted i))
