-- What request 3 asks for is so: RoundTrip.antt says it. Assumes nothing.
use Rattle.std.specs.Prelude.{◌≡◌, refl, Bool, true, false, List, [], ◌↔◌, ℕ, ◌≤◌, leb, length, take, drop, Err, Ok, Result}
use Rattle.std.proofs.Math.Path.{ap}
use Rattle.std.proofs.Common.{sym, ◌∙◌, arith, leb-true, le-leb, take_at}
use Rattle.grammar.specs.Tokens.{lines}
use Rattle.grammar.specs.Texts.{names_given, given_all, program, judged}
use Rattle.grammar.specs.Printing.{printed, most_printed, measured, fitting, printing}
use Rattle.grammar.specs.Promises.{Prints}
use Rattle.grammar.specs.declared.Refusal.{Refusal}
use Rattle.text_laws.specs.Lined.{names_lines, all_lines, Clean}
use Rattle.text_laws.specs.Refused.{accepted}
use Rattle.print_laws.specs.RoundTrip.{Words, Request3}
use Rattle.print_laws.proofs.Back.{printed_spells}

-- the text of a list gives no name and no label, and nothing is wrong with any line
module _ (ws : List ℕ) (r : Words ws) where
  none_given : given_all [] (printed ws) ≡ []
  unfolding lines names_given
  none_given = (printed_spells ws r).labels 0

  back : program [] (printed ws) ≡ ws
  unfolding program
  back = rw none_given (printed_spells ws r).words

  clean : Clean (all_lines [] (printed ws))
  unfolding lines names_given names_lines
  clean = rw none_given ((printed_spells ws r).clean 0 0)

  fine : (room : ℕ) → length ws ≤ room → judged [] (printed ws) room ≡ Ok (length ws)
  fine room h = (accepted [] (printed ws) room (length ws)).1 (clean, rw back h, rw back)

-- what a print answers, by its two tests
abbrev measured_if : Bool → ℕ → Result ℕ Refusal
measured_if t n = elim t [ true ↦ Ok n | false ↦ Err Refusal.NoRoom ]

measured_bytes : (t : Bool) (k n : ℕ) → measured_if t k ≡ Ok n → (t ≡ true) × (n ≡ k)
measured_bytes true k n e = (refl, cc)
measured_bytes false k n e = absurd (let z : ◌≡◌ {A = ℕ} 0 1 = cc in omega arith)

fitting_bytes : (t : Bool) (k room n : ℕ) → fitting (measured_if t k) room ≡ Ok n → (t ≡ true) × (n ≡ k) × (k ≤ room)
fitting_bytes true k room n e = let h = measured_bytes (leb k room) k n e in (refl, h.1, leb-true k room h.0)
fitting_bytes false k room n e = absurd (let z : ◌≡◌ {A = ℕ} 0 1 = cc in omega arith)

fitting_only : (t : Bool) (k room : ℕ) → (fitting (measured_if t k) room ≡ Ok k → ⊥) → fitting (measured_if t k) room ≡ Err Refusal.NoRoom
fitting_only true k room ne = go (leb k room) ne
  where
    go : (u : Bool) → (measured_if u k ≡ Ok k → ⊥) → measured_if u k ≡ Err Refusal.NoRoom
    go true f = absurd (f refl)
    go false f = refl
fitting_only false k room ne = refl

module _ (ws : List ℕ) where
  abbrev Fits : ℕ → Type 0
  Fits room = (length ws ≤ most_printed) × (length (printed ws) ≤ room)

  pub measured_is : (n : ℕ) → Ok n ≡ measured ws → (length ws ≤ most_printed) × (n ≡ length (printed ws))
  unfolding measured
  measured_is n e =
      let h = measured_bytes (leb (length ws) most_printed) (length (printed ws)) n (sym e) in
      (leb-true (length ws) most_printed h.0, h.1)

  module _ (room : ℕ) where
    printing_is : (n : ℕ) → Ok n ≡ printing ws room → (n ≡ length (printed ws)) × Fits room
    unfolding printing measured
    printing_is n e =
        let h = fitting_bytes (leb (length ws) most_printed) (length (printed ws)) room n (sym e) in
        (h.1, (leb-true (length ws) most_printed h.0, h.2))

    printing_fits : Fits room → printing ws room ≡ Ok (length (printed ws))
    unfolding printing measured
    printing_fits h =
        ap (λ t. fitting (measured_if t (length (printed ws))) room) (le-leb (length ws) most_printed h.0)
        ∙ ap (λ t. measured_if t (length (printed ws))) (le-leb (length (printed ws)) room h.1)

    printing_refuses : (Fits room → ⊥) → printing ws room ≡ Err Refusal.NoRoom
    unfolding printing measured
    printing_refuses ne =
        fitting_only (leb (length ws) most_printed) (length (printed ws)) room (λ e. ne (printing_is (length (printed ws)) (sym e)).1)

-- the text that a print leaves
text_left : (ws buffer after : List ℕ) (n : ℕ) → Prints ws buffer (Ok n) after → take n after ≡ printed ws
text_left ws buffer after n p =
    let h = printing_is ws (length buffer) n p.answers in
    rw (p.left, ← p.answers) (take_at (printed ws) (drop (length (printed ws)) buffer) n (sym h.0))

pub request_3 : Request3
request_3 =
    record {
      printed_back = back;
      accepted_back = fine;
      same_text = same;
      translated_back = λ ws buffer after target target' n r h p t room.
          let e = text_left ws buffer after n p in
          let f = fine ws h (length target) room in
          (t.answers ∙ rw (e, f), t.left ∙ rw (e, f, back ws h));
      same_prints = λ ws vs buffer buffer' after after' n m h g p q. rw (text_left ws buffer after n p, text_left vs buffer' after' m q) (same ws vs h g);
      accepted_print = λ ws buffer after a p. (
        λ e. (printing_is ws (length buffer) (length (printed ws)) (sym e ∙ p.answers)).1,
        λ f. p.answers ∙ printing_fits ws (length buffer) f,
      );
      refused_print = λ ws buffer after a p. (
        λ e f. never _ (sym e ∙ p.answers ∙ printing_fits ws (length buffer) f),
        λ f. p.answers ∙ printing_refuses ws (length buffer) f,
      );
      measured_enough = λ ws buffer after n a x l p.
          let h = measured_is ws n x.answers in
          p.answers ∙ printing_fits ws (length buffer) (h.0, omega arith) ∙ rw h.1;
      measured_few = λ ws n r x. rw (measured_is ws n x.answers).1 (printed_spells ws r).short;
    }
  where
    same : (ws vs : List ℕ) → Words ws → Words vs → (printed ws ≡ printed vs) ↔ (ws ≡ vs)
    same ws vs h g = (λ e. sym (back ws h) ∙ ap (program []) e ∙ back vs g, λ e. ap printed e)

    never : (n : ℕ) → Err Refusal.NoRoom ≡ Ok n → ⊥
    never n e = let z : ◌≡◌ {A = ℕ} 0 1 = cc in omega arith
