-- A prepared program with the set table of `signs` behind its code. No public contract cites these.
use Rattle.std.specs.Prelude.{◌≡◌, ℕ, ◌<◌, List, drop, slice_index}
use Rattle.std.specs.Coded.{Coded-set, coded_list, coded_ℕ}
use Rattle.program.specs.Graph.{Graph}
use Rattle.program.specs.Parts.Prepared.{table_place, Prepared, Linked}
use Rattle.signs.specs.Grid.{set_table}

-- code with the set table behind it
pub record Tabled (code : List ℕ) : Type 0 where
  pub behind : drop table_place code ≡ set_table

-- that it is there is told in one way, so a struct can hold it as a ghost field
pub tabled_prop : (code : List ℕ) → IsProp (Tabled code)
tabled_prop code a b = λ i. record { behind = Coded-set (coded_list coded_ℕ) _ _ a.behind b.behind i }

-- the same, and nothing changed before it
pub record TablePut (old code : List ℕ) : Type 0 where
  pub tabled : Tabled code
  pub before : (i : ℕ) → i < table_place → slice_index code i ≡ slice_index old i

-- a program that was prepared, with its links and the set table
pub record Ready (code graph : List ℕ) : Type 0 where
  pub ns : List ℕ
  pub g : Graph
  pub prepared : Prepared ns g code graph
  pub linked : Linked graph
  pub tabled : Tabled code
