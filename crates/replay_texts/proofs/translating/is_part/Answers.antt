-- Bytes that are found equal are the same.
use Rattle.std.proofs.Common.{◌≡◌, sym, ◌∙◌, take, drop, length, ◌-◌, arith}
use Rattle.std.proofs.lemmas.Grind.{common_steps}
use Rattle.std.specs.Cmp.Lexicographic.{same_text}
use Rattle.replay_texts.proofs.translating.is_part.Goals as goal

pub returns-then-part-rest : goal.returns-then-part-rest
returns-then-part-rest c = λ h.
    let a = c.args in
    let same : take (length a.part.now) (take (length a.text.now - a.start) (drop a.start a.text.now)) ≡ a.part.now = same_text _ _ (sym h ∙ c.eq.ensures) in
    grind (arith, common_steps, same)
