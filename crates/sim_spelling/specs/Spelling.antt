-- What the words of a script's line stand for. A digit is a letter or a figure of the hexadecimal system, in either case.
use Rattle.std.specs.Prelude.{ℕ, ◌+◌, ◌-◌, ◌*◌, ◌^◌, Bool, true, false, cond, ◌&&◌, List, [], ◌∷◌, length, take, drop, ◌==◌, nat_le, nat_lt, Option, Some, None, option_and_then, ◌||◌}
use Rattle.std.specs.List.{filter, slice_split}

-- the value of a digit
unfoldable pub digit_of : ℕ → Option ℕ
digit_of b =
    cond (nat_lt b 48) None
    (cond (nat_le b 57) (Some (b - 48))
    (cond (nat_lt b 65) None
    (cond (nat_le b 70) (Some (b - 55))
    (cond (nat_lt b 97) None
    (cond (nat_le b 102) (Some (b - 87)) None)))))

-- a number with the digit d behind it, where it has 64 bits at most
unfoldable pub more_of : (base v d : ℕ) → Option ℕ
more_of base v d = cond (nat_lt d base && nat_lt (v * base + d) (2 ^ 64)) (Some (v * base + d)) None

-- the digits of a text, behind those that make v
unfoldable pub digits_of : (base v : ℕ) → List ℕ → Option ℕ
digits_of base v [] = Some v
digits_of base v (b ∷ s) = option_and_then (λ w. digits_of base w s) (option_and_then (more_of base v) (digit_of b))

-- one digit or more
unfoldable pub number_of : (base : ℕ) → List ℕ → Option ℕ
number_of base s = cond (length s == 0) None (digits_of base 0 s)

-- the bits of a number: 16 digits
unfoldable pub bits_of : List ℕ → Option ℕ
bits_of s = cond (length s == 16) (number_of 16 s) None

-- the bytes from a up to e, none where there is no such part
unfoldable pub part_of : List ℕ → ℕ → ℕ → List ℕ
part_of s a e = cond (nat_le e (length s) && nat_le a e) (take (e - a) (drop a s)) []

-- space, tab and carriage return
unfoldable pub blank : ℕ → Bool
blank b = b == 32 || b == 9 || b == 13

-- is there a byte?
abbrev pub has_bytes : List ℕ → Bool
has_bytes [] = false
has_bytes (b ∷ w) = true

-- the words of a text: what stands between two blanks, where that is not empty
unfoldable pub words_in : List ℕ → List (List ℕ)
words_in s = filter has_bytes (slice_split blank s)

-- a remark begins with `#` (35)
abbrev pub remark : List ℕ → Bool
remark [] = false
remark (b ∷ w) = b == 35

-- is a line of these words blank, or a remark?
abbrev pub skipped : List (List ℕ) → Bool
skipped [] = true
skipped (w ∷ ws) = remark w
