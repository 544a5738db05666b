-- Lines, tokens, names and numbers, as lists of bytes.
use Rattle.std.specs.Prelude.{ℕ, ◌+◌, ◌-◌, ◌*◌, ◌^◌, Bool, ◌&&◌, ◌||◌, List, [], ◌∷◌, length}
use Rattle.std.specs.Prelude.{if◌then◌else◌, nat_lt, nat_le, ◌==◌, Option, Some, None}
use Rattle.std.specs.Char.{is_ascii_digit}
use Rattle.std.specs.List.{list_all, slice_split}

-- the whole lines, and at last what stands after the last line's end
abbrev pub lines_of : List ℕ → List (List ℕ)
lines_of bytes = slice_split (λ b. b == 10) bytes

-- the tokens of a line, between single spaces
abbrev pub tokens_of : List ℕ → List (List ℕ)
tokens_of text = slice_split (λ b. b == 32) text

-- `a` to `z`, `0` to `9`, `_` or `-`
abbrev pub is_name_byte : ℕ → Bool
is_name_byte b =
    (nat_le 97 b && nat_le b 122) || (nat_le 48 b && nat_le b 57) || (b == 95) || (b == 45)

-- 1 to 32 such bytes
abbrev pub is_name : List ℕ → Bool
is_name token = nat_le 1 (length token) && nat_le (length token) 32 && list_all is_name_byte token

-- the name that a token is
abbrev pub name_of : List ℕ → Option (List ℕ)
name_of token = if is_name token then Some token else None

-- the number below 2 ^ 64 that digits make behind those that made n
abbrev pub digits_behind : ℕ → List ℕ → Option ℕ
digits_behind n [] = if nat_lt n (2 ^ 64) then Some n else None
digits_behind n (b ∷ bs) = if is_ascii_digit b then digits_behind (10 * n + (b - 48)) bs else None

-- the number that a token is: digits, of which the first of several isn't `0`
abbrev pub number_of : List ℕ → Option ℕ
number_of [] = None
number_of (b ∷ []) = digits_behind 0 (b ∷ [])
number_of (b ∷ c ∷ bs) = if b == 48 then None else digits_behind 0 (b ∷ c ∷ bs)
