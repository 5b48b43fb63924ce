-- Rows put into a reply, one part after another.
use mathlib.Core.Path.{◌≡◌, sym, ap, ◌∙◌}
use mathlib.Core.List.{List, ◌++◌, map, append_assoc}
use Prim.Native.Nat.{ℕ, ◌+◌, ◌≤◌}
use native.Mathlib.Nat.{add_assoc}
use native.Mathlib.Omega.{arith}
use lib.IntN.{ℤ, pos}
use lib.ListN.{length, take, drop, length-append, length-drop, length-map}
use lib.Seq.{length-take-le, take_at, drop-append-add, drop-drop, paste, take-length}
use Rattle.desk.specs.Reply.{over_at}

-- the length stays
pub over_length : (at : ℕ) (xs reply : List ℤ) → at + length xs ≤ length reply → length (over_at at xs reply) ≡ length reply
unfolding over_at
over_length at xs reply h = simp (length-append, length-drop) (omega (arith, length-take-le at reply (omega arith)))

-- numbers copied into a part of a reply
pub part_put : (at : ℕ) (xs reply : List ℤ) → take at reply ++ (xs ++ drop (length xs) (drop at reply)) ≡ over_at at xs reply
unfolding over_at
part_put at xs reply = rw (drop-drop (length xs) at reply) (sym (append_assoc (take at reply) xs (drop (at + length xs) reply)))

-- two parts, one after the other, are one
pub over_then : (at : ℕ) (xs ys reply : List ℤ) → at + length xs ≤ length reply → over_at (at + length xs) ys (over_at at xs reply) ≡ over_at at (xs ++ ys) reply
unfolding over_at
over_then at xs ys reply h =
    let front = take at reply ++ xs in
    let rest = drop (at + length xs) reply in
    let long : length front ≡ at + length xs = length-append (take at reply) xs ∙ ap (λ n. n + length xs) (length-take-le at reply (omega arith)) in
    let past : drop (at + length xs + length ys) (front ++ rest) ≡ drop (at + length xs + length ys) reply =
    ap (λ n. drop (n + length ys) (front ++ rest)) (sym long) ∙ drop-append-add front rest (length ys) ∙ drop-drop (length ys) (at + length xs) reply in
    rw (take_at front rest (at + length xs) long, past, append_assoc (take at reply) xs ys, length-append xs ys, add_assoc at (length xs) (length ys))

-- numbers that are put one by one: all of them are there
pub all_put : (at : ℕ) (numbers : List ℕ) (reply : List ℤ) (n : ℕ) → n ≡ length numbers → paste reply at (map pos numbers) n ≡ over_at at (map pos numbers) reply
unfolding over_at
all_put at numbers reply n e =
    let long : n ≡ length (map pos numbers) = e ∙ sym (length-map numbers pos) in
    rw (long, take-length (map pos numbers))
