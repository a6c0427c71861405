-- Bytes in one number, the first byte lowest, and bytes placed in a text of which a part is still to be written.
use Rattle.std.specs.Prelude.{◌≡◌, cond, List, [], ◌∷◌, ◌++◌, ℕ, zero, suc, ◌+◌, ◌*◌, ◌/◌, ◌%◌, leb, length, take, drop}
use Rattle.packing.specs.declared.Packed.{Packed}

-- the n lowest bytes of a number
unfoldable pub unpacked : ℕ → ℕ → List ℕ
unpacked zero v = []
unpacked (suc n) v = v % 256 ∷ unpacked n (v / 256)

unfoldable pub bytes_of : Packed → List ℕ
bytes_of p = unpacked p.bytes p.value

-- 1 where n is above most, else 0
unfoldable pub above : ℕ → ℕ → ℕ
above n most = cond (leb n most) 0 1

-- five digits of a number, with zeros in front, and the end of a line
unfoldable pub five : ℕ → ℕ
five n =
    (48 + n / 10000) + 256 * ((48 + n / 1000 % 10) + 256 * ((48 + n / 100 % 10) + 256 * ((48 + n / 10 % 10) + 256 * ((48 + n % 10) + 256 * 10))))

-- bytes placed at a place of a text: those before it and those from the end on stay; those between may be any
pub record Placed (o : List ℕ) (at : ℕ) (vs : List ℕ) (end : ℕ) (out : List ℕ) : Type 0 where
  pub placed : take (at + length vs) out ≡ take at o ++ vs
  pub past : drop end out ≡ drop end o
  pub sized : length out ≡ length o
