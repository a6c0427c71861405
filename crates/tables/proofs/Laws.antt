-- What a search along a chain finds, and what an entry more leaves as it was. Assumes nothing.
use Rattle.std.specs.Prelude.{None, Some}
use mathlib.Core.Path.{◌≡◌, refl, sym, ap, ◌∙◌}
use mathlib.Core.Bool.{Bool, true, false, false≢true}
use mathlib.Core.List.{List, [], ◌∷◌}
use Prim.Native.Nat.{ℕ, zero, suc, ◌+◌, ◌-◌, ◌*◌, ◌/◌, ◌%◌, ◌<◌, ◌≤◌}
use native.Mathlib.Nat.{add-zero, add-suc, eq-or-lt_of_le}
use mathlib.Core.Logic.{◌⊎◌, ⊎_elim}
use native.Mathlib.Numerals.{add-one}
use native.Mathlib.Omega.{arith}
use borrow.Author.Tests.{lt-ltb, le-ltb, eq-eqb, ne_eqb, eqb-true, eqb-false, ltb-true, ltb-false}
use lib.Dec.{eqb, ltb}
use lib.ListN.{length, get_or, set, take, drop, replicate, length-set, length-replicate, get_or-replicate}
use lib.Seq.{drop-cons, drop-length, get_or-set_same, get_or-set_other}
use Rattle.grammar.specs.Tokens.{same}
use Rattle.grammar.specs.Sums.{find}
use Rattle.tables.specs.Tables.{Table, table, most, text_at, text_of, entry_word, entry, entries, mixed, bucket, latest, Long, Chained, Headed, Links, above, Added}

-- a word is the same as itself, and as no other
same_as_itself : (w : List ℕ) → same w w ≡ true
unfolding same
same_as_itself [] = refl
same_as_itself (b ∷ w) = rw (eq-eqb b b refl, same_as_itself w)

no_other_same : (a b : List ℕ) → same a b ≡ true → a ≡ b
unfolding same
no_other_same [] [] e = refl
no_other_same [] (y ∷ b) e = absurd (false≢true e)
no_other_same (x ∷ a) [] e = absurd (false≢true e)
no_other_same (x ∷ a) (y ∷ b) e = go (eqb x y) refl (λ r. no_other_same a b r)
  where
    go : (t : Bool) → eqb x y ≡ t → (same a b ≡ true → a ≡ b) → x ∷ a ≡ y ∷ b
    go true q tail = let p : x ≡ y = eqb-true x y q in let r : a ≡ b = tail (rw q at e) in cc
    go false q tail = absurd (false≢true (rw q at e))

not_the_same : (a b : List ℕ) → (a ≡ b → ⊥) → same a b ≡ false
not_the_same a b other = go (same a b) refl
  where
    go : (t : Bool) → same a b ≡ t → same a b ≡ false
    go true e = absurd (other (no_other_same a b e))
    go false e = e

-- a bucket is one of the heads
mixed_is_short : (w : List ℕ) (n : ℕ) → n < 4294967296 → mixed n w < 4294967296
unfolding mixed
mixed_is_short [] n h = h
mixed_is_short (b ∷ w) n h = mixed_is_short w ((n + b) * 2654435761 % 4294967296) (omega arith)

bucket_has_head : (w : List ℕ) → bucket w < most
unfolding bucket
bucket_has_head w = omega (arith, mixed_is_short w 0 (omega arith))

-- a word is mixed byte after byte
pub mixed_goes_on : (w : List ℕ) (n k : ℕ) → k < length w → mixed n (drop k w) ≡ mixed ((n + get_or w k 0) * 2654435761 % 4294967296) (drop (k + 1) w)
unfolding mixed
mixed_goes_on w n k h = rw (add-one, drop-cons w k 0)

mixed_ends : (w : List ℕ) (n k : ℕ) → k ≤ length w → length w ≤ k → mixed n (drop k w) ≡ n
unfolding mixed
mixed_ends w n k h l = let e : k ≡ length w = omega arith in rw (e, drop-length)

pub mixed_comes_to_bucket : (w : List ℕ) (n k : ℕ) → k ≤ length w → length w ≤ k → mixed 0 w ≡ mixed n (drop k w) → n / 524288 ≡ bucket w
unfolding bucket
mixed_comes_to_bucket w n k h l e = rw (e ∙ mixed_ends w n k h l)

-- what holds of the names' length and of the script's holds of the text's that an entry stands in
pub text_in_range : (names script : List ℕ) (split k m : ℕ) → length names < m → length script < m → length (text_at names script split k) < m
text_in_range names script split k m p q = go (ltb k split) refl
  where
    go : (b : Bool) → ltb k split ≡ b → length (text_at names script split k) < m
    go true e = rw (e, text_at) p
    go false e = rw (e, text_at) q

-- an entry of the word is taken, and any other is passed over
entry_taken : (t : Table) (k : ℕ) (w : List ℕ) → entry_word t k ≡ w → find (entries t (suc k)) w ≡ Some (get_or t.values k 0)
unfolding entries find
entry_taken t k w e = rw (ap (λ (a : List ℕ). same a w) e ∙ same_as_itself w, find)

entry_passed : (t : Table) (k : ℕ) (w : List ℕ) → (entry_word t k ≡ w → ⊥) → find (entries t (suc k)) w ≡ find (entries t k) w
unfolding entries find
entry_passed t k w other = rw (not_the_same (entry_word t k) w other, find)

-- the latest entry of a bucket, with one entry more
latest_is_new : (t : Table) (k h : ℕ) → bucket (entry_word t k) ≡ h → latest t (suc k) h ≡ k
unfolding latest
latest_is_new t k h e = rw (eq-eqb (bucket (entry_word t k)) h e, latest)

latest_stays : (t : Table) (k h : ℕ) → (bucket (entry_word t k) ≡ h → ⊥) → latest t (suc k) h ≡ latest t k h
unfolding latest
latest_stays t k h other = rw (ne_eqb (bucket (entry_word t k)) h other, latest)

no_latest : (t : Table) (h : ℕ) → latest t 0 h ≡ most
unfolding latest
no_latest t h = refl

-- whether an entry has a bucket
by_bucket : (P : Type 0) (t : Table) (k h : ℕ) → (bucket (entry_word t k) ≡ h → P) → ((bucket (entry_word t k) ≡ h → ⊥) → P) → P
by_bucket P t k h has lacks = go (eqb (bucket (entry_word t k)) h) refl
  where
    go : (b : Bool) → eqb (bucket (entry_word t k)) h ≡ b → P
    go true e = has (eqb-true (bucket (entry_word t k)) h e)
    go false e = lacks (eqb-false (bucket (entry_word t k)) h e)

-- the latest entry of a bucket is one of those, and has the bucket
record Within (t : Table) (n h k : ℕ) : Type 0 where
  before : k < n
  bucketed : bucket (entry_word t k) ≡ h

latest_within : (t : Table) (n h k : ℕ) → k ≡ latest t n h → k < most → Within t n h k
latest_within t zero h k e l = absurd (omega (arith, no_latest t h))
latest_within t (suc n) h k e l =
    by_bucket (Within t (suc n) h k) t n h
    (λ new. let p : k ≡ n = e ∙ latest_is_new t n h new in record { before = omega arith; bucketed = rw p new })
    (λ old. let w : Within t n h k = latest_within t n h k (e ∙ latest_stays t n h old) l in record { before = omega arith; bucketed = w.bucketed })

-- the entries up to one that there is, and up to none
above_one : (n k : ℕ) → k < n → above n k ≡ suc k
above_one n k h = rw (lt-ltb k n h, above)

above_none : (n k : ℕ) → n ≤ k → above n k ≡ 0
above_none n k h = rw (le-ltb k n h, above)

-- a word is among the entries up to the latest of its bucket, if anywhere
word_is_above : (t : Table) (n m : ℕ) (w : List ℕ) → n ≤ most → m ≤ n → find (entries t m) w ≡ find (entries t (above n (latest t m (bucket w)))) w
word_is_above t n zero w few le = rw (no_latest t (bucket w), above_none n most few)
word_is_above t n (suc m) w few le =
    by_bucket (find (entries t (suc m)) w ≡ find (entries t (above n (latest t (suc m) (bucket w)))) w) t m (bucket w)
    (λ new. rw (latest_is_new t m (bucket w) new, above_one n m le))
    (λ old. rw (latest_stays t m (bucket w) old, entry_passed t m w (λ e. old (ap bucket e))) (word_is_above t n m w few (omega arith)))

-- from an entry on, a chain has a word's bucket, and leads to what is found among the first m entries
pub record Leads (t : Table) (n m : ℕ) (w : List ℕ) (k : ℕ) : Type 0 where
  pub linked : Links t n w k
  pub kept : find (entries t (above n k)) w ≡ find (entries t m) w

chain_begins : (t : Table) (n m : ℕ) (w : List ℕ) (k : ℕ) → n ≤ most → m ≤ n → k ≡ latest t m (bucket w) → Leads t n m w k
unfolding Links
chain_begins t n m w k few le e =
    record {
      linked = λ h. (latest_within t m (bucket w) k e (omega arith)).bucketed;
      kept = rw e (sym (word_is_above t n m w few le));
    }

-- the first n entries stand in their texts
pub entry_stands : (t : Table) (n k : ℕ) → Chained t n → k < n → get_or t.froms k 0 + get_or t.counts k 0 ≤ length (text_of t k)
unfolding Chained
entry_stands t n k chained h = chained.inside k h

pub entries_are_few : (t : Table) (n : ℕ) → Chained t n → n ≤ most
unfolding Chained
entries_are_few t n chained = chained.few

-- the latest of a bucket is the end of chains where it is no entry
latest_in_range : (t : Table) (n h : ℕ) → n ≤ most → latest t n h ≤ most
latest_in_range t zero h few = omega (arith, no_latest t h)
latest_in_range t (suc n) h few =
    by_bucket (latest t (suc n) h ≤ most) t n h (λ new. omega (arith, latest_is_new t n h new))
    (λ old. rw (latest_stays t n h old) (latest_in_range t n h (omega arith)))

pub next_in_range : (t : Table) (n k : ℕ) → Chained t n → k < n → get_or t.nexts k 0 ≤ most
unfolding Chained
next_in_range t n k chained h = rw (chained.follows k h) (latest_in_range t k (bucket (entry_word t k)) (omega (arith, chained.few)))

-- a bucket's head leads to what is found among all entries, and the entry that follows one to what is found before that
pub head_leads : (t : Table) (n : ℕ) (heads w : List ℕ) (h : ℕ) → Chained t n → Headed t n heads → h ≡ bucket w → Leads t n n w (get_or heads h 0)
unfolding Headed
head_leads t n heads w h chained headed at =
    chain_begins t n n w (get_or heads h 0) (entries_are_few t n chained) (omega arith) (headed.heads_latest h (rw at (bucket_has_head w)) ∙ ap (latest t n) at)

pub next_leads : (t : Table) (n k : ℕ) (w : List ℕ) → Chained t n → k < n → bucket w ≡ bucket (entry_word t k) → Leads t n k w (get_or t.nexts k 0)
unfolding Chained
next_leads t n k w chained h at = chain_begins t n k w (get_or t.nexts k 0) chained.few (omega arith) (chained.follows k h ∙ ap (latest t k) (sym at))

-- a search is over where the word stands, and where the chain ends
pub search_finds : (t : Table) (n m : ℕ) (w : List ℕ) (k : ℕ) → Leads t n m w k → k < n → entry_word t k ≡ w →
    Some (get_or t.values k 0) ≡ find (entries t m) w
search_finds t n m w k leads h e = sym (entry_taken t k w e) ∙ rw (above_one n k h) at leads.kept

pub search_ends : (t : Table) (n m : ℕ) (w : List ℕ) (k : ℕ) → Leads t n m w k → n ≤ k → None ≡ find (entries t m) w
unfolding entries find
search_ends t n m w k leads h = rw (above_none n k h) at leads.kept

-- past another word a search goes on with the entry that follows, which comes before
pub search_goes_on : (t : Table) (n m : ℕ) (w : List ℕ) (k : ℕ) → Chained t n → Leads t n m w k → k < n → (entry_word t k ≡ w → ⊥) →
    Leads t n m w (get_or t.nexts k 0)
unfolding Links
search_goes_on t n m w k chained leads h other =
    let next : Leads t n k w (get_or t.nexts k 0) = next_leads t n k w chained h (sym (leads.linked h)) in
    let here : find (entries t (suc k)) w ≡ find (entries t m) w = rw (above_one n k h) at leads.kept in
    record { linked = next.linked; kept = next.kept ∙ sym (entry_passed t k w other) ∙ here }

pub search_falls : (t : Table) (n k : ℕ) → Chained t n → k < n → above n (get_or t.nexts k 0) < above n k
unfolding Chained
search_falls t n k chained h = go (ltb (get_or t.nexts k 0) n) refl
  where
    go : (b : Bool) → ltb (get_or t.nexts k 0) n ≡ b → above n (get_or t.nexts k 0) < above n k
    go true e =
        let l : get_or t.nexts k 0 < n = ltb-true (get_or t.nexts k 0) n e in
        let i : Within t k (bucket (entry_word t k)) (get_or t.nexts k 0) =
        latest_within t k (bucket (entry_word t k)) (get_or t.nexts k 0) (chained.follows k h) (omega (arith, chained.few))
        in
        rw (above_one n (get_or t.nexts k 0) l, above_one n k h) (omega (arith, i.before))
    go false e = rw (above_none n (get_or t.nexts k 0) (ltb-false (get_or t.nexts k 0) n e), above_one n k h) (omega arith)

-- two tables that hold an entry alike
record Alike (t u : Table) (k : ℕ) : Type 0 where
  text : text_of t k ≡ text_of u k
  from : get_or t.froms k 0 ≡ get_or u.froms k 0
  count : get_or t.counts k 0 ≡ get_or u.counts k 0
  value : get_or t.values k 0 ≡ get_or u.values k 0
  next : get_or t.nexts k 0 ≡ get_or u.nexts k 0

abbrev AlikeBelow : ℕ → Table → Table → Type 0
AlikeBelow n t u = (k : ℕ) → k < n → Alike t u k

fewer : {n : ℕ} (t u : Table) → AlikeBelow (suc n) t u → AlikeBelow n t u
fewer t u alike k h = alike k (omega arith)

word_alike : {t u : Table} {k : ℕ} → Alike t u k → entry_word t k ≡ entry_word u k
word_alike alike = rw (alike.text, alike.from, alike.count)

-- the same entries are in both, the same is the latest of a bucket, and the same chains and heads
entries_alike : (t u : Table) (n : ℕ) → AlikeBelow n t u → entries t n ≡ entries u n
unfolding entries
entries_alike t u zero alike = refl
entries_alike t u (suc n) alike =
    let one : entry t n ≡ entry u n = λ i. record { spelt = word_alike (alike n (omega arith)) i; value = (alike n (omega arith)).value i } in
    let others : entries t n ≡ entries u n = entries_alike t u n (fewer t u alike) in
    cc

latest_alike : (t u : Table) (n h : ℕ) → AlikeBelow n t u → latest t n h ≡ latest u n h
latest_alike t u zero h alike = no_latest t h ∙ sym (no_latest u h)
latest_alike t u (suc n) h alike =
    let both : bucket (entry_word t n) ≡ bucket (entry_word u n) = ap bucket (word_alike (alike n (omega arith))) in
    by_bucket (latest t (suc n) h ≡ latest u (suc n) h) t n h
    (λ new. latest_is_new t n h new ∙ sym (latest_is_new u n h (sym both ∙ new)))
    (λ old. latest_stays t n h old ∙ latest_alike t u n h (fewer t u alike) ∙ sym (latest_stays u n h (λ e. old (both ∙ e))))

chained_alike : (t u : Table) (n : ℕ) → AlikeBelow n t u → Long u.froms u.counts u.values u.nexts → Chained t n → Chained u n
unfolding Chained
chained_alike t u n alike long chained =
    record {
      few = chained.few;
      long = long;
      inside = λ k h. rw ((alike k h).text, (alike k h).from, (alike k h).count) at (chained.inside k h);
      follows =
          λ k h.
          sym (alike k h).next ∙ chained.follows k h ∙ latest_alike t u k (bucket (entry_word t k)) (λ j l. alike j (omega arith)) ∙ ap (λ (w : List ℕ). latest u k (bucket w)) (word_alike (alike k h));
    }

headed_alike : (t u : Table) (n : ℕ) (heads : List ℕ) → AlikeBelow n t u → Headed t n heads → Headed u n heads
unfolding Headed
headed_alike t u n heads alike headed =
    record { heads_long = headed.heads_long; heads_latest = λ h l. headed.heads_latest h l ∙ latest_alike t u n h alike }

-- with no entries, each chain is at its end
pub none_chained : (t : Table) → Long t.froms t.counts t.values t.nexts → Chained t 0
unfolding Chained
none_chained t long = record { few = omega arith; long = long; inside = λ k h. absurd (omega arith); follows = λ k h. absurd (omega arith) }

pub none_headed : (t : Table) (heads : List ℕ) → length heads ≡ most → ((h : ℕ) → h < most → get_or heads h 0 ≡ most) → Headed t 0 heads
unfolding Headed
none_headed t heads long ends = record { heads_long = long; heads_latest = λ h l. ends h l ∙ sym (no_latest t h) }

-- the lists of a table to be filled, written out
pub fresh_chained : (names script : List ℕ) (split n a b c d : ℕ) → n ≡ most →
    Chained (table names script split (replicate n a) (replicate n b) (replicate n c) (replicate n d)) 0
fresh_chained names script split n a b c d e =
    none_chained _
    (record {
      froms_long = length-replicate n a ∙ e;
      counts_long = length-replicate n b ∙ e;
      values_long = length-replicate n c ∙ e;
      nexts_long = length-replicate n d ∙ e;
    })

pub fresh_headed : (t : Table) (n : ℕ) → n ≡ most → Headed t 0 (replicate n most)
fresh_headed t n e = none_headed t (replicate n most) (length-replicate n most ∙ e) (λ h l. get_or-replicate n h most 0 (omega arith))

-- where two counts of names are both past the entries, all entries stand in the names
module _ (names script : List ℕ) (m o : ℕ) (froms counts values nexts : List ℕ) (n : ℕ) (p : n ≤ m) (q : n ≤ o) where
  split_alike : AlikeBelow n (table names script m froms counts values nexts) (table names script o froms counts values nexts)
  split_alike k h =
      record {
        text = rw (lt-ltb k m (omega arith), lt-ltb k o (omega arith), text_at);
        from = refl;
        count = refl;
        value = refl;
        next = refl;
      }

  pub entries_resplit : entries (table names script m froms counts values nexts) n ≡ entries (table names script o froms counts values nexts) n
  entries_resplit = entries_alike _ _ n split_alike

  pub chained_resplit : Chained (table names script m froms counts values nexts) n → Chained (table names script o froms counts values nexts) n
  unfolding Chained
  chained_resplit chained = chained_alike _ _ n split_alike chained.long chained

  pub headed_resplit : (heads : List ℕ) → Headed (table names script m froms counts values nexts) n heads →
      Headed (table names script o froms counts values nexts) n heads
  headed_resplit heads headed = headed_alike _ _ n heads split_alike headed

-- there are as many entries as are asked for, the earlier ones after the later
pub entries_count : (t : Table) (n : ℕ) → length (entries t n) ≡ n
unfolding entries
entries_count t zero = refl
entries_count t (suc n) = ap suc (entries_count t n)

after_the_later : (t : Table) (m n : ℕ) → drop n (entries t (m + n)) ≡ entries t m
unfolding entries
after_the_later t m zero = rw add-zero
after_the_later t m (suc n) = rw add-suc (after_the_later t m n)

pub earlier_entries : (t : Table) (m n : ℕ) → m ≤ n → drop (n - m) (entries t n) ≡ entries t m
earlier_entries t m n h = let e : n ≡ m + (n - m) = omega arith in ap (λ (k : ℕ). drop (n - m) (entries t k)) e ∙ after_the_later t m (n - m)

-- one entry more in the chains and the heads
chained_more : (t : Table) (n : ℕ) → Chained t n → n < most → get_or t.froms n 0 + get_or t.counts n 0 ≤ length (text_of t n) →
    get_or t.nexts n 0 ≡ latest t n (bucket (entry_word t n)) → Chained t (n + 1)
unfolding Chained
chained_more t n chained room stands follows =
    record {
      few = omega arith;
      long = chained.long;
      inside = λ k h. ⊎_elim (λ e. rw e stands) (λ l. chained.inside k l) (last_or_before h);
      follows = λ k h. ⊎_elim (λ e. rw e follows) (λ l. chained.follows k l) (last_or_before h);
    }
  where
    last_or_before : {k : ℕ} → k < n + 1 → (k ≡ n) ⊎ (k < n)
    last_or_before {k} h = eq-or-lt_of_le (omega arith)

headed_more : (t : Table) (n h : ℕ) (heads : List ℕ) → Headed t n heads → h ≡ bucket (entry_word t n) → Headed t (n + 1) (set heads h n)
unfolding Headed
headed_more t n h heads headed at =
    record {
      heads_long = length-set heads h n ∙ headed.heads_long;
      heads_latest =
          λ k l.
          by_bucket (get_or (set heads h n) k 0 ≡ latest t (n + 1) k) t n k
          (λ new. rw (add-one, latest_is_new t n k new, at ∙ new) (get_or-set_same heads k n 0 (omega arith)))
          (λ old. rw (add-one, latest_stays t n k old, get_or-set_other heads h k n 0 (λ e. old (sym at ∙ sym e))) (headed.heads_latest k l));
    }

-- an entry after those that are alike, followed by the latest of its bucket, is added
added_after : (t u : Table) (n h : ℕ) (heads w : List ℕ) (v : ℕ) → Chained t n → Headed t n heads → n < most →
    Long u.froms u.counts u.values u.nexts → AlikeBelow n t u → get_or u.froms n 0 + get_or u.counts n 0 ≤ length (text_of u n) →
    entry_word u n ≡ w → get_or u.values n 0 ≡ v → h ≡ bucket w → get_or u.nexts n 0 ≡ get_or heads h 0 → Added t u n (set heads h n) w v
unfolding entries Headed
added_after t u n h heads w v chained headed room long alike stands word value at next =
    let one : entry u n ≡ record { spelt = w; value = v } = λ i. record { spelt = word i; value = value i } in
    let others : entries t n ≡ entries u n = entries_alike t u n alike in
    let head : h ≡ bucket (entry_word u n) = at ∙ ap bucket (sym word) in
    let before : Headed u n heads = headed_alike t u n heads alike headed in
    record {
      more = rw add-one (cc);
      chained =
          chained_more u n (chained_alike t u n alike long chained) room stands
          (next ∙ before.heads_latest h (rw at (bucket_has_head w)) ∙ ap (latest u n) head);
      headed = headed_more u n h heads before head;
    }

-- an entry is added by a write to each list, at the count of those before it
pub entry_added : (names script : List ℕ) (split n : ℕ) (froms counts values nexts heads : List ℕ) (from count value h : ℕ) →
    Chained (table names script split froms counts values nexts) n → Headed (table names script split froms counts values nexts) n heads → n < most →
    from + count ≤ length (text_at names script split n) → h ≡ bucket (take count (drop from (text_at names script split n))) →
    Added (table names script split froms counts values nexts)
    (table names script split (set froms n from) (set counts n count) (set values n value) (set nexts n (get_or heads h 0))) n (set heads h n)
    (take count (drop from (text_at names script split n))) value
unfolding Chained
entry_added names script split n froms counts values nexts heads from count value h chained headed room stands at =
    let long : Long froms counts values nexts = chained.long in
    let f : get_or (set froms n from) n 0 ≡ from = get_or-set_same froms n from 0 (omega arith) in
    let c : get_or (set counts n count) n 0 ≡ count = get_or-set_same counts n count 0 (omega arith) in
    added_after _ _ n h heads _ value chained headed room
    (record {
      froms_long = length-set froms n from ∙ long.froms_long;
      counts_long = length-set counts n count ∙ long.counts_long;
      values_long = length-set values n value ∙ long.values_long;
      nexts_long = length-set nexts n (get_or heads h 0) ∙ long.nexts_long;
    })
    (λ k l.
    record {
      text = refl;
      from = other froms from l;
      count = other counts count l;
      value = other values value l;
      next = other nexts (get_or heads h 0) l;
    })
    (rw (f, c) stands) (rw (f, c)) (get_or-set_same values n value 0 (omega arith)) at (get_or-set_same nexts n (get_or heads h 0) 0 (omega arith))
  where
    other : {k : ℕ} (l : List ℕ) (a : ℕ) → k < n → get_or l k 0 ≡ get_or (set l n a) k 0
    other {k} l a h = sym (get_or-set_other l n k a 0 (omega arith))
