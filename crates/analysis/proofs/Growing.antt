-- The solver's list grows in its buffer as the definition says.
use Rattle.std.proofs.Common.{◌≡◌, ℕ, suc, ◌+◌, ◌-◌, ◌*◌, ◌/◌, ◌%◌, ◌<◌, ◌≤◌, Bool, true, false, ◌≢◌, List, [], ◌∷◌, ◌++◌, map, length, get_or, take, drop, sym, refl, ap, ◌∙◌, subst, append_assoc, le_refl, mul-le-mul_left, mul-suc, add-one, arith, length-append, length-drop, length-take-le, drop-drop, take_at, drop_at, le-ltb, lt-ltb}
use mathlib.Core.List.{foldl, foldl-append}
use Rattle.signs.specs.Lists.{tabulate}
use Rattle.program.specs.Drawing.{over}
use Rattle.program.specs.Parts.DrawingParts.{over_at}
use Rattle.program.proofs.Lists.{length_tabulate, tabulate_same}
use Rattle.analysis.specs.Parts.Changing.{sets_of}
use Rattle.analysis.specs.Parts.Membership.{among, bucket, Indexed}
use Rattle.analysis.specs.Records.{initial_width, record_width, record_count, record_at, records_of, record_for, listed}
use Rattle.analysis.specs.Solver.{Found, offer}
use Rattle.analysis.specs.Parts.Solving.{found_in, Growing, Extended}
use Rattle.analysis.specs.declared.solver.Progress.{Progress}
use Rattle.analysis.proofs.Among.{listed_among, record_kept, indexed_kept}
use Rattle.analysis.proofs.Chains.{record_inside}
use Rattle.analysis.proofs.Digits.{sets_none, sets_next}

-- ---- What offering does to a buffer

module _ (width : ℕ) where
  -- nothing, and one offering after another
  pub extended_none : (buffer index : List ℕ) (p : Progress) → Growing width buffer index p → Extended width buffer p buffer index p
  extended_none buffer index p g = record { growing = g; room = refl; sized = refl; more = le_refl _; past = refl }

  pub extended_more : {b₀ b₁ i₁ b₂ i₂ : List ℕ} {p₀ p₁ p₂ : Progress} → Extended width b₀ p₀ b₁ i₁ p₁ → Extended width b₁ p₁ b₂ i₂ p₂
      → Extended width b₀ p₀ b₂ i₂ p₂
  extended_more {b₀} {b₁} {i₁} {b₂} {i₂} {p₀} {p₁} {p₂} x y =
      record { growing = y.growing; room = y.room ∙ x.room; sized = y.sized ∙ x.sized; more = omega (arith, x.more, y.more); past = y.past ∙ later }
    where
      later : drop (width * p₂.count) b₁ ≡ drop (width * p₂.count) b₀
      later =
          let step = width * p₂.count - width * p₁.count in
          let whole : width * p₁.count + step ≡ width * p₂.count = omega (arith, mul-le-mul_left {m = p₁.count} {n = p₂.count} width y.more) in
          subst (λ (k : ℕ). drop k b₁ ≡ drop k b₀) whole (sym (drop-drop step (width * p₁.count) b₁) ∙ ap (drop step) x.past ∙ drop-drop step (width * p₁.count) b₀)

  -- a record written behind those found
  module _ (buffer buffer' row : List ℕ) (n : ℕ) (long : length row ≡ width) (fits : width * n + width ≤ length buffer) (put : buffer' ≡ over_at (width * n) row buffer) where
    kept_length : length (take (width * n) buffer) ≡ width * n
    kept_length = length-take-le _ _ (omega arith)

    laid : buffer' ≡ take (width * n) buffer ++ (row ++ drop (width * suc n) buffer)
    unfolding over_at over
    laid = put ∙ rw (drop-drop, long, mul-suc)

    put_keeps : take (width * n) buffer' ≡ take (width * n) buffer
    put_keeps = rw laid (take_at _ _ _ kept_length)

    put_record : record_at width buffer' n ≡ row
    unfolding record_at
    put_record = rw (laid, drop_at _ (row ++ drop (width * suc n) buffer) (width * n) kept_length) (take_at _ _ _ long)

    put_past : drop (width * suc n) buffer' ≡ drop (width * suc n) buffer
    put_past =
        let front : length (take (width * n) buffer ++ row) ≡ width * suc n = length-append (take (width * n) buffer) row ∙ omega (arith, kept_length, mul-suc width n) in
        rw (laid, ← append_assoc) (drop_at (take (width * n) buffer ++ row) (drop (width * suc n) buffer) (width * suc n) front)

    put_sized : length buffer' ≡ length buffer
    put_sized = rw (laid, length-append, length-append, kept_length, length-drop) (omega (arith, mul-suc width n))

  -- where there is room for one more
  module _ (buffer index : List ℕ) (p : Progress) (g : Growing width buffer index p) (space : p.count ≢ p.room) where
    pub put_fits : width * p.count + width ≤ length buffer
    put_fits = record_inside width p.count p.room (length buffer) (omega (arith, g.few)) g.fits

    module _ (buffer' row : List ℕ) (long : length row ≡ width) (put : buffer' ≡ over_at (width * p.count) row buffer) where
      pub extended_put : (index' : List ℕ) (h : ℕ) → h ≡ bucket row
          → (Indexed width buffer' p.count index → width * suc p.count ≤ length buffer' → h ≡ bucket (record_at width buffer' p.count) → Indexed width buffer' (suc p.count) index')
          → Extended width buffer p buffer' index' (record { count = p.count + 1; room = p.room; full = false })
      extended_put index' h hashed enter =
          record {
            growing =
                record {
                  wide = g.wide;
                  most = g.most;
                  fits = omega (arith, sized, g.fits);
                  few = omega (arith, g.few);
                  indexed =
                      rw add-one
                      (enter (indexed_kept width p.count buffer buffer' (sym (put_keeps buffer buffer' row p.count long put_fits put)) index (omega (arith, sized, put_fits)) g.indexed)
                      (omega (arith, mul-suc width p.count, sized, put_fits)) (hashed ∙ ap bucket (sym (put_record buffer buffer' row p.count long put_fits put))));
                };
            room = refl;
            sized = sized;
            more = omega arith;
            past = rw add-one (put_past buffer buffer' row p.count long put_fits put);
          }
        where
          sized : length buffer' ≡ length buffer
          sized = put_sized buffer buffer' row p.count long put_fits put

      pub found_put : found_in width buffer' (record { count = p.count + 1; room = p.room; full = false }) ≡ record { records = (found_in width buffer p).records ++ (row ∷ []); full = false }
      unfolding found_in tabulate
      found_put =
          rw (
            add-one,
            put_record buffer buffer' row p.count long put_fits put,
            tabulate_same p.count (record_at width buffer') (record_at width buffer) (λ k h. record_kept width p.count buffer' buffer (put_keeps buffer buffer' row p.count long put_fits put) k h),
          )

-- ---- What is found then

-- an offer in the order of its questions; where the list is full, none changes it
module _ (ns : List ℕ) (room node : ℕ) (f : Found) (ρ : List ℕ) where
  pub offer_full : f.full ≡ true → offer ns room node f ρ ≡ f
  unfolding offer
  offer_full e = rw e

  module _ (e : f.full ≡ false) where
    pub offer_listed : listed ns f.records node ρ ≡ true → offer ns room node f ρ ≡ f
    unfolding offer
    offer_listed l = rw (e, l)

    module _ (l : listed ns f.records node ρ ≡ false) where
      pub offer_none : room ≤ length f.records → offer ns room node f ρ ≡ record { records = f.records; full = true }
      unfolding offer
      offer_none h = rw (e, l, le-ltb (length f.records) room h)

      pub offer_more : {row : List ℕ} → row ≡ record_for node ρ → length f.records < room → offer ns room node f ρ ≡ record { records = f.records ++ (row ∷ []); full = false }
      unfolding offer
      offer_more r h = rw (e, l, lt-ltb (length f.records) room h, r)

-- as the index answers it
module _ {width : ℕ} {buffer index : List ℕ} {p : Progress} (g : Growing width buffer index p) where
  pub listed_told : ((i : ℕ) → get_or buffer i 0 < 256) → (ns : List ℕ) (node : ℕ) (ρ row : List ℕ) → node < 65536 → record_width ns ≡ width → row ≡ record_for node ρ
      → (b : Bool) → b ≡ among width buffer p.count row → listed ns (found_in width buffer p).records node ρ ≡ b
  unfolding found_in
  listed_told small ns node ρ row low w e b told =
      listed_among ns width w buffer p.count g.indexed.room small node ρ low ∙ ap (among width buffer p.count) (sym e) ∙ sym told

  pub found_count : length (found_in width buffer p).records ≡ p.count
  unfolding found_in
  found_count = length_tabulate p.count (record_at width buffer)

  -- a list found to be full is as it was
  pub extended_full : Extended width buffer p buffer index (record { count = p.count; room = p.room; full = true })
  extended_full = record { growing = record { wide = g.wide; most = g.most; fits = g.fits; few = g.few; indexed = g.indexed }; room = refl; sized = refl; more = le_refl _; past = refl }

pub found_full : (width : ℕ) (buffer : List ℕ) (p : Progress) → (found_in width buffer p).full ≡ p.full
unfolding found_in
found_full width buffer p = refl

pub found_none : (width : ℕ) (buffer : List ℕ) (p : Progress) → found_in width buffer (record { count = p.count; room = p.room; full = true }) ≡ record { records = (found_in width buffer p).records; full = true }
unfolding found_in
found_none width buffer p = refl

-- a list of so many names has records of that width
pub width_of : (ns : List ℕ) {names : ℕ} → length ns ≡ names → record_width ns ≡ 2 + names
unfolding record_width
width_of ns e = ap (λ (n : ℕ). 2 + n) e

-- ---- One offer after another

-- of what a function gives
module _ {A : Type 0} (f : Found → A → Found) (z : Found) where
  pub tabulated_more : (g : ℕ → A) (k : ℕ) {x y : Found} → y ≡ f x (g k) → x ≡ foldl f z (tabulate k g) → y ≡ foldl f z (tabulate (suc k) g)
  unfolding tabulate
  tabulated_more g k p q = rw (foldl-append f z (tabulate k g) (g k ∷ []), ← q) p

-- of the sets of a result: the others are left
pub sets_more : {A : Type 0} (f : Found → A → Found) (change : ℕ → A) (n : ℕ) → 0 < n → n < 68719476736 → {x y z : Found} → y ≡ f x (change (n % 8))
    → z ≡ foldl f x (map change (sets_of n)) → z ≡ foldl f y (map change (sets_of (n / 8)))
sets_more f change n some few p q = rw p (q ∙ rw (sets_next n some few))

pub sets_end : {A : Type 0} (f : Found → A → Found) (change : ℕ → A) (n : ℕ) → n ≤ 0 → {x z : Found} → z ≡ foldl f x (map change (sets_of n)) → x ≡ z
sets_end f change n none {x} q = let e : n ≡ 0 = omega arith in sym (q ∙ rw (e, sets_none))

-- all records of a start list
pub starts_all : (ns : List ℕ) {names : ℕ} → length ns ≡ names → (bytes : List ℕ) (room : ℕ) (x : Found) {y : Found}
    → y ≡ foldl (offer ns room 0) x (tabulate (length bytes / names) (record_at names bytes)) → y ≡ foldl (offer ns room 0) x (records_of (initial_width ns) bytes)
unfolding records_of record_count initial_width
starts_all ns e bytes room x p = p ∙ ap (λ (n : ℕ). foldl (offer ns room 0) x (tabulate (length bytes / n) (record_at n bytes))) (sym e)
