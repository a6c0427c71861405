-- Buffers as code goes over them: rows of queues of one capacity, one after another, by their places.
use Rattle.std.specs.Prelude.{◌≡◌, List, Bool, true, ◌&&◌, ◌↔◌, ℕ, ◌+◌, ◌-◌, ◌*◌, ◌%◌, ◌<◌, eqb, leb, ltb, get_or}
use Rattle.paper.specs.Image.{most_character, lead, word, place_at}
use Rattle.paper.specs.Tests.{every, implies}
use Rattle.paper.specs.declared.Place.{Place}
use Rattle.laws.specs.Steps.{steps}
use Rattle.four_words.specs.FourWords.{Clear}

-- head, tail, count and capacity are right, where the header gives a capacity
abbrev pub leads : ℕ → ℕ → ℕ → ℕ → ℕ → Bool
leads given h t n c = eqb c given && ltb h c && ltb t c && leb n c && eqb ((h + n) % c) t

-- the four words at a place are those of a queue of the capacity given
unfoldable pub row_queued : List ℕ → Place → ℕ → Bool
row_queued im p given = leads given (word im p) (get_or im (p.0 + 1) 0) (get_or im (p.0 + 2) 0) (get_or im (p.0 + 3) 0)

-- slot k of the row at a place
abbrev pub slot_at : List ℕ → Place → ℕ → ℕ
slot_at im p k = get_or im (p.0 + lead + k) 0

-- n words of a row are below m, from slot h on
unfoldable pub row_words_below : List ℕ → Place → ℕ → ℕ → ℕ → ℕ → Bool
row_words_below im p given h n m = every n (λ i. ltb (slot_at im p (steps h i given)) m)

-- the free slots of a row are 0
abbrev pub row_cleared : List ℕ → Place → ℕ → Bool
row_cleared im p given = row_words_below im p given (get_or im (p.0 + 1) 0) (given - get_or im (p.0 + 2) 0) 1

-- the words that it holds are characters
abbrev pub row_typed : List ℕ → Place → ℕ → Bool
row_typed im p given = row_words_below im p given (word im p) (get_or im (p.0 + 2) 0) (most_character + 1)

-- whether all slots of a row have characters, where it is typed
unfoldable pub SlotsTyped : List ℕ → Place → ℕ → Bool → Bool → Type 0
SlotsTyped im p given typed r = (r ≡ true) ↔ (typed ≡ true → (k : ℕ) → k < given → slot_at im p k < most_character + 1)

-- the row at a place is a queue of the capacity given, with 0 in its free slots; where it is typed, its words are characters
unfoldable pub row_right : List ℕ → Place → ℕ → Bool → Bool
row_right im p given typed = row_queued im p given && row_cleared im p given && implies typed (row_typed im p given)

-- a row before a place, where the message buffers start, is typed
abbrev pub row_fine : List ℕ → Place → ℕ → Place → Bool
row_fine im p given messages = row_right im p given (ltb p.0 messages.0)

-- a row never used: it holds nothing, and all its slots are 0
pub record Unused (im : List ℕ) (p : Place) (given : ℕ) : Type 0 where
  pub queued : row_queued im p given ≡ true
  pub clear : Clear im (p.0 + lead) (p.0 + lead + given)

-- row k of those from a place on
abbrev pub row_at : Place → ℕ → ℕ → Place
row_at from given k = place_at (from.0 + k * (lead + given))

-- there are whole rows from one place up to another
pub record RowsBetween (from end : Place) (given : ℕ) : Type 0 where
  pub rows : ℕ
  pub ends : end.0 ≡ (row_at from given rows).0

-- the rows from one place up to another are right, and at that place a row starts, or it is the end
pub record RightUpTo (im : List ℕ) (from end : Place) (given : ℕ) (messages at : Place) : Type 0 where
  pub k : ℕ
  pub here : at.0 ≡ (row_at from given k).0
  pub right : every k (λ j. row_fine im (row_at from given j) given messages) ≡ true
  pub left : RowsBetween at end given

-- whether all rows from one place up to another are right
unfoldable pub AllRight : List ℕ → Place → Place → ℕ → Place → Bool → Type 0
AllRight im from end given messages r =
    (rows : ℕ) → end.0 ≡ (row_at from given rows).0 → r ≡ every rows (λ j. row_fine im (row_at from given j) given messages)
