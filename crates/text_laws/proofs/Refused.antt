-- Which texts are refused, with which number and which line. Assumes nothing.
use Rattle.std.specs.Prelude.{◌≡◌, refl, false, List, ◌↔◌, ℕ, ◌<◌, Err, None, Some}
use Rattle.std.proofs.Math.Path.{ap}
use Rattle.std.proofs.Common.{sym, ◌∙◌, ⊎_elim, arith, leb-false}
use Rattle.std.proofs.lemmas.Bool.{lt-leb}
use Rattle.grammar.specs.Texts.{number, judged_as, judged}
use Rattle.grammar.specs.declared.Refusal.{Refusal}
use Rattle.grammar.specs.declared.Line.{Line}
use Rattle.text_laws.specs.Lined.{all_lines, count, last, NoneBelow, Each, Clean, First}
use Rattle.text_laws.specs.First.{noted_clean, clean_noted, each_so}
use Rattle.text_laws.specs.Refused.{line_is_below_16, room_after_line, fits, judged_by, why}
use Rattle.text_laws.proofs.First.{noted_first, first_noted, first_is_lowest}

module _ (names script : List ℕ) (room : ℕ) where
  -- a text is refused with 13, 14 or 15 exactly where a line has that number, none before it has it, and none at all a lower one
  pub refused_for_line : (r : Refusal) (l : Line) → number r < 16 → (judged names script room ≡ Err (r, l)) ↔ First r l (all_lines names script)
  refused_for_line r l h = (
    λ e. ⊎_elim (noted_first r l (all_lines names script)) (λ x. absurd (let z : number r ≡ 16 = ap number x.2 in omega arith)) (why names script room r l e),
    λ x. judged_by names script room (Some (r, l)) (fits names script room) (first_noted r l (all_lines names script) x) refl
        ∙ ap (λ f. judged_as f (count names script)) (room_after_line r l (last script) (fits names script room)),
  )

  -- a text is refused with 16 exactly where nothing is wrong with any line and its words do not fit; the line is the script's last
  pub refused_for_room : (l : Line) → (judged names script room ≡ Err (Refusal.NoRoom, l))
      ↔ ((l ≡ last script) × Clean (all_lines names script) × (room < count names script))
  refused_for_room l = (
    λ e. ⊎_elim
        (λ z. absurd (omega (arith, line_is_below_16 names script Refusal.NoRoom l (noted_first Refusal.NoRoom l (all_lines names script) z))))
        (λ x. (x.3, noted_clean (all_lines names script) x.0, leb-false (count names script) room x.1))
        (why names script room Refusal.NoRoom l e),
    λ h. judged_by names script room None false (clean_noted (all_lines names script) h.1) (lt-leb (count names script) room h.2) ∙ ap (λ l. Err (Refusal.NoRoom, l)) (sym h.0),
  )

  -- where a text is refused, no line of either text has a lower number
  pub none_lower : (r : Refusal) (l : Line) → judged names script room ≡ Err (r, l) → Each (NoneBelow (number r)) (all_lines names script)
  none_lower r l e =
      ⊎_elim (λ z. first_is_lowest r l (all_lines names script) (noted_first r l (all_lines names script) z))
      (λ x. each_so (λ w. w ≡ None) (NoneBelow (number r)) (λ w h. rw h tt) (all_lines names script) (noted_clean (all_lines names script) x.0))
      (why names script room r l e)
