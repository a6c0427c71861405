-- A refusal for want of room names the script's last line. Assumes nothing.
use Rattle.std.specs.Prelude.{◌≡◌, List, [], ◌∷◌, ℕ, suc, ◌-◌, ◌<◌, length, get_or, Err}
use Rattle.std.proofs.Common.{◌∙◌, arith}
use Rattle.grammar.specs.Tokens.{lines}
use Rattle.grammar.specs.Texts.{last_line, nowhere, judged}
use Rattle.grammar.specs.declared.Refusal.{Refusal}
use Rattle.grammar.specs.declared.Line.{Line}
use Rattle.grammar.specs.declared.Text.{Text}
use Rattle.text_laws.specs.Lined.{placed, numbered}
use Rattle.text_laws.specs.Refused.{last_placed, program_needs_lines}
use Rattle.text_laws.proofs.Refused.{refused_for_room}

-- so 16 names a line of the script: the last
pub room_names_the_last : (names script : List ℕ) (room : ℕ) (l : Line) → judged names script room ≡ Err (Refusal.NoRoom, l)
    → (0 < length (lines script)) × (l ≡ numbered names script Text.Script (length (lines script) - 1))
room_names_the_last names script room l e =
    let h = (refused_for_room names script room l).0 e in
    let some = program_needs_lines names script (omega arith) in
    (some, h.0 ∙ go (lines script) some)
  where
    go : (ls : List (List ℕ)) → 0 < length ls → last_line nowhere 0 ls ≡ get_or (placed Text.Script 0 ls) (length ls - 1) nowhere
    go [] h = absurd (omega arith)
    go (m ∷ ls) h = let n : suc (length ls) - 1 ≡ length ls = omega arith in last_placed nowhere 0 m ls ∙ rw n
