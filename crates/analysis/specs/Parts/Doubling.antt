-- Doubled widths, by which the splitter finds quotient and remainder without a division (document 02, order 3). No public contract cites these.
use Rattle.std.specs.Prelude.{◌≡◌, ℕ, zero, suc, ◌+◌, ◌-◌, ◌<◌, ◌≤◌, cond, List, nat_le, slice_index}

-- "doubling the width": a width doubled k times
unfoldable pub doubled : ℕ → ℕ → ℕ
doubled width zero = width
doubled width (suc k) = doubled width k + doubled width k

-- the first cells hold a width and its doublings, and the next would be more than a place
pub record Doublings (width place : ℕ) (widths : List ℕ) (count : ℕ) : Type 0 where
  pub few : count ≤ 32
  pub held : (k : ℕ) → k < count → slice_index widths k ≡ doubled width k
  pub enough : place < doubled width count

-- what is left when a width is taken off where it fits
unfoldable pub taken_off : ℕ → ℕ → ℕ
taken_off rest width = cond (nat_le width rest) (rest - width) rest
