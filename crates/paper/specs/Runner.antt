-- "One run in full": what the runner prints of two files.
use Rattle.std.specs.Prelude.{not, cond, List, [], ◌∷◌, ◌++◌, ℕ, zero, suc, ◌+◌, ◌*◌, ◌/◌, ◌%◌, eqb, ltb, length, Err, Ok, Result, ⊤}
use Rattle.paper.specs.Events.{event_of, happening}
use Rattle.paper.specs.Plans.{plan_shape, fresh}
use Rattle.paper.specs.Numbers.{number, kind, answer_task, refused_if, check_plan}
use Rattle.paper.specs.declared.Shape.{Shape}
use Rattle.paper.specs.declared.Refusal.{Refusal}
use Rattle.paper.specs.declared.Answer.{Answer}

-- files hold the low byte first
abbrev pub word : ℕ → ℕ → ℕ
word low high = low + 256 * high

-- a byte without a second makes no word
unfoldable pub words_of : List ℕ → List ℕ
words_of [] = []
words_of (b ∷ []) = []
words_of (low ∷ high ∷ bytes) = word low high ∷ words_of bytes

-- a plan's file; an odd count of bytes in it is 11
unfoldable pub check_file : List ℕ → Result ⊤ Refusal
check_file plan =
    refused_if (not (eqb (length plan % 2) 0)) Refusal.BadPlan (check_plan (words_of plan))

-- a number in decimal digits
abbrev pub digit : ℕ → ℕ
digit d = 48 + d

-- its last digits, k of them at most and none in front that is not needed
abbrev pub last_digits : ℕ → ℕ → List ℕ
last_digits zero n = []
last_digits (suc k) n = cond (ltb n 10) (digit n ∷ []) (last_digits k (n / 10) ++ (digit (n % 10) ∷ []))

unfoldable pub decimal : ℕ → List ℕ
decimal n = last_digits (suc n) n

abbrev pub space : List ℕ
space = 32 ∷ []

abbrev pub newline : List ℕ
newline = 10 ∷ []

-- the word "refused"
abbrev pub refused_word : List ℕ
refused_word = 114 ∷ 101 ∷ 102 ∷ 117 ∷ 115 ∷ 101 ∷ 100 ∷ []

-- a line: an event's number, then kind and task, or `refused` and the number
unfoldable pub line : ℕ → Result Answer Refusal → List ℕ
line n (Ok a) = decimal n ++ space ++ decimal (kind a) ++ space ++ decimal (answer_task a) ++ newline
line n (Err r) = decimal n ++ space ++ refused_word ++ space ++ decimal (number r) ++ newline

-- what is printed for some events: the text, how many were taken, where it stopped, and the image then
pub record Printed : Type 0 where
  pub text : List ℕ
  pub taken : ℕ
  pub stop : Result ⊤ Refusal
  pub image : List ℕ

abbrev pub nothing_printed : List ℕ → Printed
nothing_printed im = record { text = []; taken = 0; stop = Ok tt; image = im }

-- it stops at a refused event
abbrev pub last_line : ℕ → Refusal → List ℕ → Printed
last_line n r im = record { text = line n (Err r); taken = 0; stop = Err r; image = im }

abbrev pub after_line : List ℕ → Printed → Printed
after_line l p = record { text = l ++ p.text; taken = 1 + p.taken; stop = p.stop; image = p.image }

abbrev pub prints_on : ℕ → Result Answer Refusal → List ℕ → (List ℕ → Printed) → Printed
prints_on n (Ok a) im later = after_line (line n (Ok a)) (later im)
prints_on n (Err r) im later = last_line n r im

-- events are read one at a time, numbered from n; a last one of under six bytes is refused 7
unfoldable pub printed_from : Shape → List ℕ → ℕ → List ℕ → Printed
printed_from s im n [] = nothing_printed im
printed_from s im n (_ ∷ []) = last_line n Refusal.MalformedEvent im
printed_from s im n (_ ∷ _ ∷ []) = last_line n Refusal.MalformedEvent im
printed_from s im n (_ ∷ _ ∷ _ ∷ []) = last_line n Refusal.MalformedEvent im
printed_from s im n (_ ∷ _ ∷ _ ∷ _ ∷ []) = last_line n Refusal.MalformedEvent im
printed_from s im n (_ ∷ _ ∷ _ ∷ _ ∷ _ ∷ []) = last_line n Refusal.MalformedEvent im
printed_from s im n (k ∷ k' ∷ d ∷ d' ∷ c ∷ c' ∷ events) =
    let o = happening s im (event_of s (word k k') (word d d') (word c c')) in
    prints_on n o.reply o.image (λ next. printed_from s next (1 + n) events)

-- for each event its line, numbered from 1; a refused plan prints only 0 and its refusal
abbrev pub runner_if : Result ⊤ Refusal → List ℕ → List ℕ → List ℕ
runner_if (Ok tt) plan events = (printed_from (plan_shape plan) (fresh plan) 1 events).text
runner_if (Err r) plan events = line 0 (Err r)

-- the whole text; a missing file counts as empty
unfoldable pub runner : List ℕ → List ℕ → List ℕ
runner plan events = runner_if (check_file plan) (words_of plan) events
