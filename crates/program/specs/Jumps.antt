-- Break and continue outside every do (document 02, order 7).
use Rattle.std.specs.Prelude.{ℕ, Bool, false, ◌||◌, eqb}
use Rattle.program.specs.Syntax.{Command, skip, assign, store, sequence, conditional, iteration, guarded, choice, jump}

-- whether entry n is break or continue "outside every do" of a command: all that a do has inside is passed over
unfoldable pub loose : ℕ → Command → Bool
loose n (skip k) = false
loose n (assign k x a) = false
loose n (store k x i a) = false
loose n (sequence k c d) = loose n c || loose n d
loose n (conditional k c) = loose n c
loose n (iteration k c) = false
loose n (guarded k b c) = loose n c
loose n (choice k c d) = loose n c || loose n d
loose n (jump k j) = eqb k n
