-- Membership of a record in a list by an index: chains of records with the same hash, each from the last. The index is one list: the factors of 34
-- columns, the last record of each of 8,192 hashes, and the last lower record of each of 4,096. No public contract cites these.
use Rattle.std.specs.Prelude.{◌≡◌, ℕ, zero, suc, ◌+◌, ◌*◌, ◌/◌, ◌%◌, ◌<◌, ◌≤◌, Bool, false, cond, ◌||◌, List, length, take, ◌==◌, nat_eq, slice_index, slice_set}
use mir.Val.{bool_byte}
use Rattle.analysis.specs.Records.{record_at, record_for, same_signs}
use Rattle.analysis.specs.declared.Change.{Change}

-- the most that a byte's term, the terms of 32 names, and one term more can be
abbrev pub term_most : ℕ
term_most = 16711425

abbrev pub weight_most : ℕ
weight_most = 534765600

abbrev pub changed_most : ℕ
changed_most = 551477025

-- the places of the index's heads and links, and its length
abbrev pub head_place : ℕ
head_place = 34

abbrev pub link_place : ℕ
link_place = 8226

abbrev pub index_length : ℕ
index_length = 12322

-- one more than the last number below n that passes a test, 0 where none does; and whether one does
unfoldable pub last_below : ℕ → (ℕ → Bool) → ℕ
last_below zero test = 0
last_below (suc n) test = cond (test n) (suc n) (last_below n test)

unfoldable pub any_below : ℕ → (ℕ → Bool) → Bool
any_below zero test = false
any_below (suc n) test = any_below n test || test n

-- whether one of the first n records of a width is a given one
unfoldable pub among : ℕ → List ℕ → ℕ → List ℕ → Bool
among width bytes n r = any_below n (λ k. same_signs (record_at width bytes k) r)

-- the factor of a column: a power of 31,821 modulo 65,536, so that bytes that are close fall apart
unfoldable pub factor : ℕ → ℕ
factor zero = 1
factor (suc n) = factor n * 31821 % 65536

-- the sum of some bytes, each with the factor of its column, the first of which has the column c
unfoldable pub weighted : ℕ → List ℕ → ℕ → ℕ
weighted c r zero = 0
weighted c r (suc n) = weighted c r n + slice_index r n * factor (c + n)

-- a sum, spread by one multiplication over 8,192 hashes; and the hash of a record
unfoldable pub spread : ℕ → ℕ
spread sum = sum * 2654435769 / 524288 % 8192

unfoldable pub bucket : List ℕ → ℕ
bucket r = spread (weighted 0 r (length r))

-- the record that is sought or added: an abstract memory of so many names, the front of an array, at a node and with one name's set another
unfoldable pub changed : ℕ → List ℕ → Change → List ℕ
changed names rho c = record_for c.node (slice_set (take names rho) c.name c.set)

-- how many of the first n bytes of two lists agree
unfoldable pub agreeing : List ℕ → List ℕ → ℕ → ℕ
agreeing a b zero = 0
agreeing a b (suc n) = agreeing a b n + bool_byte (slice_index a n == slice_index b n)

-- an index that has the factors
pub record Factored (index : List ℕ) : Type 0 where
  pub sized : length index ≡ index_length
  pub each : (i : ℕ) → i < head_place → slice_index index i ≡ factor i

-- so many names at the front of an array of 32, and the sum of their terms, whose columns are those after a node's two
pub record Front (names : ℕ) (rho : List ℕ) : Type 0 where
  pub few : names ≤ 32
  pub long : length rho ≡ 32

pub record Weighed (names : ℕ) (rho : List ℕ) (weight : ℕ) : Type 0 where
  pub front : Front names rho
  pub weighed : weight ≡ weighted 2 rho names
  pub small : weight ≤ weight_most

-- the chains of n numbers with these hashes, 0 where one ends: from each hash to the last number, from each number to the last lower one of its hash
pub record Chained (hashAt : ℕ → ℕ) (n : ℕ) (index : List ℕ) : Type 0 where
  pub last : (h : ℕ) → h < 8192 → slice_index index (head_place + h) ≡ last_below n (λ k. nat_eq (hashAt k) h)
  pub lower : (k : ℕ) → k < n → slice_index index (link_place + k) ≡ last_below k (λ j. nat_eq (hashAt j) (hashAt k))

-- the first n records, few and all there, are in their chains
pub record Indexed (width : ℕ) (bytes : List ℕ) (n : ℕ) (index : List ℕ) : Type 0 where
  pub few : n ≤ 4096
  pub room : width * n ≤ length bytes
  pub factored : Factored index
  pub chained : Chained (λ k. bucket (record_at width bytes k)) n index

-- a record is sought in its chain, of the hash h
pub record Sought (width : ℕ) (bytes : List ℕ) (n : ℕ) (index r : List ℕ) (h : ℕ) : Type 0 where
  pub indexed : Indexed width bytes n index
  pub hashed : h ≡ bucket r
