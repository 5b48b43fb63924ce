-- How the solver's list lies in the buffer that is lent. No public contract cites these.
use Rattle.program.specs.Asking.{Validity}
use Rattle.std.specs.Prelude.{◌≡◌, ℕ, ◌*◌, ◌≤◌, List, length, drop, Result}
use mathlib.Core.List.{foldl}
use Rattle.signs.specs.Lists.{tabulate, passing, indices}
use Rattle.program.specs.Graph.{Graph}
use Rattle.semantics.specs.Step.{leaves}
use Rattle.analysis.specs.Parts.Membership.{Indexed}
use Rattle.analysis.specs.Records.{record_at}
use Rattle.analysis.specs.Solver.{Found, solved_with, buffer_with}
use Rattle.analysis.specs.declared.Solved.{Solved}
use Rattle.analysis.specs.declared.Unreadable.{Unreadable}
use Rattle.analysis.specs.declared.solver.Progress.{Progress}

-- the records found so far: those that begin a buffer
unfoldable pub found_in : ℕ → List ℕ → Progress → Found
found_in width buffer p = record { records = tabulate p.count (record_at width buffer); full = p.full }

-- a buffer with room for so many records, of which those found are indexed
pub record Growing (width : ℕ) (buffer index : List ℕ) (p : Progress) : Type 0 where
  pub wide : width ≤ 34
  pub most : p.room ≤ 4096
  pub fits : width * p.room ≤ length buffer
  pub few : p.count ≤ p.room
  pub indexed : Indexed width buffer p.count index

-- what offering does to it: it may hold more records, and the bytes past them are as before
pub record Extended (width : ℕ) (before : List ℕ) (q : Progress) (buffer index : List ℕ) (p : Progress) : Type 0 where
  pub growing : Growing width buffer index p
  pub room : p.room ≡ q.room
  pub sized : length buffer ≡ length before
  pub more : q.count ≤ p.count
  pub past : drop (width * p.count) buffer ≡ drop (width * p.count) before

-- what is done in turn along those of the first n edges that leave a node
unfoldable pub along : (Found → ℕ → Found) → Graph → ℕ → ℕ → Found → Found
along f g node n found = foldl f found (passing (λ e. leaves g e node) (indices n))

-- the reply and the buffer afterwards of a list found, where the questions of the program and those of the start list were answered so
pub record Answered (asked formed : Validity) (f : Found) (before after : List ℕ) (r : Result Solved Unreadable) : Type 0 where
  pub reply : r ≡ solved_with asked formed f
  pub buffer : after ≡ buffer_with asked formed f before
