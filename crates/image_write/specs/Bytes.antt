-- Numbers as bytes, the lower first: what writer and reader share (docs/SPEC.md, 2.7).
use Rattle.std.specs.Prelude.{ℕ, zero, suc, ◌+◌, ◌*◌, ◌/◌, ◌%◌, List, [], ◌∷◌, take, drop}

-- the n lower bytes of v
unfoldable pub bytes : ℕ → ℕ → List ℕ
bytes zero v = []
bytes (suc n) v = (v % 256) ∷ bytes n (v / 256)

-- the number that a list of bytes spells
unfoldable pub value : List ℕ → ℕ
value [] = 0
value (b ∷ bs) = value bs * 256 + b

-- the number of the n bytes at a place
abbrev pub le : ℕ → List ℕ → ℕ → ℕ
le n xs at = value (take n (drop at xs))

-- "WLATCH01"
abbrev pub magic : List ℕ
magic = 87 ∷ 76 ∷ 65 ∷ 84 ∷ 67 ∷ 72 ∷ 48 ∷ 49 ∷ []
