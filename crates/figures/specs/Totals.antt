-- A class's totals, and the totals of two classes joined (document 02, order 13).
use Rattle.std.specs.Prelude.{ℕ, ◌+◌, ◌*◌, Bool, ◌&&◌, List, [], ◌∷◌, map, leb, ℤ, pos, neg_ℤ, ◌+ℤ◌, ◌-ℤ◌, ◌*ℤ◌, length}
use Rattle.std.specs.Int.Signed.{le_z}
use Rattle.figures.specs.declared.Totals.{Totals}

-- "up to 4,096 final marks, each from −10,000 to 10,000"; the square of one is 100,000,000 at most
abbrev pub longest : ℕ
longest = 4096

abbrev pub highest : ℕ
highest = 10000

abbrev pub highest_square : ℕ
highest_square = 100000000

-- the sum of numbers, and the square of one
unfoldable pub sum_of : List ℤ → ℤ
sum_of [] = pos 0
sum_of (x ∷ xs) = x +ℤ sum_of xs

abbrev pub square : ℤ → ℤ
square x = x *ℤ x

-- a class's totals by their numbers
abbrev pub class : ℕ → ℤ → ℤ → Totals
class n s q = record { count = n; sum = s; squares = q }

-- "counts, sums and sums of squares": the totals of a list of marks, those of no mark, and those of two classes joined
unfoldable pub totals : List ℤ → Totals
totals marks = class (length marks) (sum_of marks) (sum_of (map square marks))

abbrev pub none : Totals
none = class 0 (pos 0) (pos 0)

unfoldable pub joined : Totals → Totals → Totals
joined a b = class (a.count + b.count) (a.sum +ℤ b.sum) (a.squares +ℤ b.squares)

-- "the number times the sum of squares, less the square of the sum": what the variance has over the number squared
unfoldable pub spread : Totals → ℤ
spread t = pos t.count *ℤ t.squares -ℤ square t.sum

-- "list or joint list empty or too long": whether it is neither
unfoldable pub countable : ℕ → Bool
countable n = leb 1 n && leb n longest

-- "a sum beyond 10,000 per mark either way, a square sum below zero or beyond 100,000,000 per mark, or a variance below zero": whether a class's
-- totals have none of these
unfoldable pub possible : Totals → Bool
possible t =
    le_z (neg_ℤ (pos (highest * t.count))) t.sum
    && le_z t.sum (pos (highest * t.count))
    && le_z (pos 0) t.squares
    && le_z t.squares (pos (highest_square * t.count))
    && le_z (pos 0) (spread t)
