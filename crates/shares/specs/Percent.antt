-- How large sums of counts can be, and a share for people, in hundredths of a percent.
use Rattle.std.specs.Prelude.{ℕ, ◌+◌, ◌*◌, ◌/◌, ◌^◌}

-- 97 counts of at most 4294967295 add up to less than 2 to this
abbrev pub sums_bits : ℕ
sums_bits = 39

abbrev pub sums_end : ℕ
sums_end = 2 ^ sums_bits

-- a whole is 100 percent, each of 100 hundredths
abbrev pub whole : ℕ
whole = 10000

-- so many ticks of all, in hundredths of a percent: the nearest whole number, a half upwards
unfoldable pub percent : ℕ → ℕ → ℕ
percent ticks all = (2 * whole * ticks + all) / (2 * all)
