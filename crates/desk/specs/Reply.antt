-- What a call tells its caller: a return value, and a row of numbers over the front of the reply that the caller lends. A row has one length for each call and one
-- meaning at each place; include/pizwoter.h has their names.
use Rattle.std.specs.Prelude.{◌≡◌, ℕ, ◌+◌, ◌<◌, cond, List, ◌∷◌, ◌++◌, map, leb, ℤ, pos, negsuc, length, take, drop}
use Rattle.desk.specs.declared.Head.{Head}
use Rattle.desk.specs.declared.Head.TheVariants.{Answered, Refused, Malformed}

-- a return value, where the reply has room, and a row
pub record Told : Type 0 where
  pub status : ℕ
  pub row : List ℤ

-- minus one: the answer of a call that is refused, and the return value where the reply is too short
abbrev pub none : ℤ
none = negsuc 0

-- a call that is answered returns 0. Its row begins with the answer in document 01's numbers; there is no place and no list
unfoldable pub answered_with : ℕ → List ℤ → Told
answered_with answer rest = record { status = 0; row = pos answer ∷ pos 0 ∷ pos 0 ∷ rest }

-- one that is refused returns the question's number. Its row begins with minus one and the question's place
unfoldable pub refused_with : ℕ → ℕ → List ℤ → Told
refused_with number place rest = record { status = number; row = none ∷ pos place ∷ pos 0 ∷ rest }

-- and question 17 has a list beside
unfoldable pub malformed_with : ℕ → ℕ → List ℤ → Told
malformed_with list place rest = record { status = 17; row = none ∷ pos place ∷ pos list ∷ rest }

-- the same with natural numbers behind
abbrev pub answered : ℕ → List ℕ → Told
answered answer rest = answered_with answer (map pos rest)

abbrev pub refused : ℕ → ℕ → List ℕ → Told
refused number place rest = refused_with number place (map pos rest)

abbrev pub malformed : ℕ → ℕ → List ℕ → Told
malformed list place rest = malformed_with list place (map pos rest)

-- how a call went, as the code has it, with the numbers behind
unfoldable pub tell : Head → List ℤ → Told
tell (Answered answer) rest = answered_with answer rest
tell (Refused number place) rest = refused_with number place rest
tell (Malformed list place) rest = malformed_with list place rest

-- one thing where a reply has room for so many numbers, another where it is too short
unfoldable pub unless_short : {A : Type 0} → ℕ → List ℤ → A → A → A
unless_short room reply roomy short = cond (leb room (length reply)) roomy short

-- numbers over a reply, from a place on
unfoldable pub over_at : ℕ → List ℤ → List ℤ → List ℤ
over_at at numbers reply = take at reply ++ numbers ++ drop (at + length numbers) reply

-- what a call returns: minus one where the reply is too short
unfoldable pub returned : ℕ → Told → List ℤ → ℤ
returned room t reply = unless_short room reply (pos t.status) none

-- the reply afterwards: the row, then what was there; as it was where it is too short
unfoldable pub replied : ℕ → Told → List ℤ → List ℤ
replied room t reply = unless_short room reply (over_at 0 t.row reply) reply

-- both, of a call's return value and of the reply afterwards
pub record Tells (room : ℕ) (t : Told) (before : List ℤ) (r : ℤ) (after : List ℤ) : Type 0 where
  pub returns : r ≡ returned room t before
  pub reply : after ≡ replied room t before

-- a number that a reply can hold
abbrev pub Narrow : ℕ → Type 0
Narrow n = n < 4294967296
