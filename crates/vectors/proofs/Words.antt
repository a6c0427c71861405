-- Laws of Words. Assumes nothing.
use Rattle.std.proofs.Common.{◌≡◌, refl, ap, ◌∙◌, Bool, true, List, [], ◌∷◌, ◌++◌, ℕ, ◌+◌, ◌<◌, length, take, get_or, set, add-one, set-set}
use Rattle.std.proofs.Math.Seq.{take-suc}
use Rattle.std.specs.Cmp.{first_so, second_so}
use Rattle.std.specs.Cmp.Lexicographic.{pointwise}
use Rattle.std.proofs.lemmas.List.{set-get_or}
use Rattle.vectors.specs.declared.changes.Change.{Change}
use Rattle.vectors.specs.Words.{with_changes}

-- a change at the end is made first
pub with_changes-append : (words : List ℕ) (changes : List (Change ℕ)) (c : Change ℕ) → with_changes words (changes ++ (c ∷ [])) ≡ with_changes (set words c.place c.item) changes
unfolding with_changes
with_changes-append words [] c = refl
with_changes-append words (d ∷ changes) c = ap (λ (ws : List ℕ). set ws d.place d.item) (with_changes-append words changes c)

-- one is taken back
pub taken_back : (words before : List ℕ) (changes : List (Change ℕ)) (k v : ℕ) (d : Change ℕ) → with_changes words (take k changes) ≡ before → k < length changes
    → get_or words (get_or changes k d).place 0 ≡ (get_or changes k d).item → with_changes (set words (get_or changes k d).place v) (take (k + 1) changes) ≡ before
taken_back words before changes k v d h l e =
    let c : Change ℕ = get_or changes k d in
    let same : set (set words c.place v) c.place c.item ≡ words = rw (set-set words c.place v c.item, ← e) (set-get_or words c.place 0) in
    rw (add-one, take-suc changes k d l) (with_changes-append (set words c.place v) (take k changes) c ∙ ap (λ (ws : List ℕ). with_changes ws (take k changes)) same ∙ h)

-- lists are the same that are found equal, where items are
pub same_lists : {A : Type 0} (E : A → A → Bool) → ((a b : A) → E a b ≡ true → a ≡ b) → (xs ys : List A) → pointwise E xs ys ≡ true → xs ≡ ys
same_lists E same [] [] h = refl
same_lists E same [] (y ∷ ys) h = cc
same_lists E same (x ∷ xs) [] h = cc
same_lists E same (x ∷ xs) (y ∷ ys) h =
    let first : x ≡ y = same x y (first_so (E x y) (pointwise E xs ys) h) in
    let others : xs ≡ ys = same_lists E same xs ys (second_so (E x y) (pointwise E xs ys) h) in
    cc
