-- How the code hands on the results of an action: as one number, 64 times the new sets of one name and the name. Document 01 has no word for it; what it
-- stands for is said here, once.
use Rattle.std.specs.Prelude.{◌≡◌, ℕ, zero, suc, ◌+◌, ◌*◌, ◌/◌, ◌%◌, ◌<◌, ◌≤◌, cond, min, List, [], ◌∷◌, map, length, ◌==◌, slice_index, slice_set}
use Rattle.program.specs.Meaning.{Meaning}
use Rattle.analysis.specs.Results.{results}

-- two abstract memories that give each name the same set: a record's, and the array that has zeros after it
unfoldable pub Alike : List ℕ → List ℕ → Type 0
Alike ρ σ = (x : ℕ) → slice_index ρ x ≡ slice_index σ x

-- some sets as digits of base 8 before those of a number, the first lowest
unfoldable pub packed : List ℕ → ℕ → ℕ
packed [] others = others
packed (s ∷ sets) others = packed sets others * 8 + s

-- the digits of a number, the lowest first, as far as so many go: none of 0
unfoldable pub digits : ℕ → ℕ → List ℕ
digits zero n = []
digits (suc k) n = cond (n == 0) [] (n % 8 ∷ digits k (n / 8))

-- the numbers of at most twelve digits are below this
abbrev pub digits_end : ℕ
digits_end = 68719476736

-- the sets of a number, at most twelve
unfoldable pub sets_of : ℕ → List ℕ
sets_of n = digits 12 n

-- the name of a result: past the last of 32, 32, which changes nothing
unfoldable pub name_for : ℕ → ℕ
name_for x = min x 32

-- a number with some sets before those of another, and how large it is
pub record Before (sets : List ℕ) (times more : ℕ) (others r : ℕ) : Type 0 where
  pub packs : r ≡ packed sets others
  pub few : r ≤ times * others + more

-- what stands for the results of an action from every abstract memory like the one that is lent; it has at most twelve digits
pub record ResultsIn (lent : List ℕ) (m : Meaning) (r : ℕ) : Type 0 where
  pub few : r / 64 < digits_end
  pub gives : (ρ : List ℕ) → length ρ ≤ 32 → Alike ρ lent → results ρ m ≡ map (slice_set ρ (r % 64)) (sets_of (r / 64))
