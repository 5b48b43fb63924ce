-- Two memories are the same where all of their bytes agree, which the code counts; and one name changed changes that count by one or not at all.
use Rattle.std.proofs.Common.{◌≡◌, ℕ, zero, suc, ◌+◌, ◌-◌, ◌<◌, ◌≤◌, Bool, true, false, not, ◌&&◌, T, eqb, List, length, get_or, take, set, sym, refl, ap, ◌∙◌, subst, arith, length-set, length-take-le, take_all, get_or-set_other, get_or-take, get_or-set_same, eq-eqb, ne_eqb}
use mathlib.Core.Bool.{and-true, and-false}
use native.Mathlib.Decide.{ℕ_discrete}
use mir.Val.{bool_byte}
use Rattle.analysis.specs.Parts.Membership.{agreeing}
use Rattle.analysis.specs.Records.{same_signs}
use Rattle.analysis.proofs.Accepted.{signs_same}
use Rattle.analysis.proofs.Chains.{same_more}
use Rattle.analysis.proofs.Hashes.{bit_small}

agreeing_most : (a b : List ℕ) (n : ℕ) → agreeing a b n ≤ n
unfolding agreeing
agreeing_most a b zero = omega arith
agreeing_most a b (suc n) = omega (arith, agreeing_most a b n, bit_small (eqb (get_or a n 0) (get_or b n 0)))

-- numbers are the same where others are
eqb_alike : (m n p q : ℕ) → (m ≡ n → p ≡ q) → (p ≡ q → m ≡ n) → eqb m n ≡ eqb p q
eqb_alike m n p q to from =
    elim (ℕ_discrete m n) [
      | yes e ↦ rw (eq-eqb m n e, eq-eqb p q (to e))
      | no d ↦ rw (ne_eqb m n d, ne_eqb p q (λ e. d (from e)))
    ]

-- all agree
all_agree : (a b : List ℕ) (n : ℕ) → n ≤ length a → n ≤ length b → eqb (agreeing a b n) n ≡ same_signs (take n a) (take n b)
unfolding agreeing same_signs
all_agree a b zero h l = refl
all_agree a b (suc n) h l =
    by (eqb (get_or a n 0) (get_or b n 0)) (all_agree a b n (omega arith) (omega arith)) (agreeing_most a b n)
    ∙ sym (same_more a b n h l)
  where
    by : (e : Bool) → eqb (agreeing a b n) n ≡ same_signs (take n a) (take n b) → agreeing a b n ≤ n
        → eqb (agreeing a b n + bool_byte e) (suc n) ≡ (same_signs (take n a) (take n b) && e)
    by true p m = eqb_alike (agreeing a b n + 1) (suc n) (agreeing a b n) n (λ e. omega arith) (λ e. omega arith) ∙ p ∙ sym (and-true (same_signs (take n a) (take n b)))
    by false p m = ne_eqb (agreeing a b n + 0) (suc n) (λ e. absurd (omega arith)) ∙ sym (and-false (same_signs (take n a) (take n b)))

-- bytes that are the same agree with as many; a changed one with one more or less
agreeing_same : (a b c : List ℕ) (n : ℕ) → ((i : ℕ) → i < n → get_or b i 0 ≡ get_or c i 0) → agreeing a b n ≡ agreeing a c n
unfolding agreeing
agreeing_same a b c zero h = refl
agreeing_same a b c (suc n) h = rw (agreeing_same a b c n (λ i l. h i (omega arith)), h n (omega arith))

agreeing_changed : (a b : List ℕ) (n x s : ℕ) → x < n → x < length b
    → agreeing a (set b x s) n + bool_byte (eqb (get_or a x 0) (get_or b x 0)) ≡ agreeing a b n + bool_byte (eqb (get_or a x 0) s)
unfolding agreeing
agreeing_changed a b zero x s h l = absurd (omega arith)
agreeing_changed a b (suc n) x s h l =
    elim (ℕ_discrete x n) [
      | yes e ↦
          rw (← e, agreeing_same a (set b x s) b x (λ i m. get_or-set_other b x i s 0 (λ q. absurd (omega arith))), get_or-set_same b x s 0 l) (omega arith)
      | no d ↦ rw (get_or-set_other b x n s 0 (λ e. d (sym e))) (omega (arith, agreeing_changed a b n x s (omega arith) l))
    ]

-- a memory of n names beside the front of an array: the same, also where one name has another set
module _ (a rho : List ℕ) (n : ℕ) (sized : length a ≡ n) (long : n ≤ length rho) where
  same_counted : (b : List ℕ) → length b ≡ n → eqb (agreeing a b n) n ≡ same_signs a b
  same_counted b e = all_agree a b n (omega arith) (omega arith) ∙ cc (take_all n a (omega arith), take_all n b (omega arith))

  front : (i : ℕ) → i < n → get_or (take n rho) i 0 ≡ get_or rho i 0
  front i h = get_or-take n rho i 0 h

  front_sized : (x s : ℕ) → length (set (take n rho) x s) ≡ n
  front_sized x s = length-set (take n rho) x s ∙ length-take-le n rho long

  pub same_past : (x s : ℕ) → n ≤ x → eqb (agreeing a rho n) n ≡ same_signs a (set (take n rho) x s)
  same_past x s h =
      ap (λ (m : ℕ). eqb m n) (agreeing_same a rho (set (take n rho) x s) n (λ i l. sym (get_or-set_other (take n rho) x i s 0 (λ e. absurd (omega arith)) ∙ front i l)))
      ∙ same_counted (set (take n rho) x s) (front_sized x s)

  module _ (x s : ℕ) (h : x < n) where
    abbrev changed : List ℕ
    changed = set (take n rho) x s

    counted : agreeing a changed n + bool_byte (eqb (get_or a x 0) (get_or rho x 0)) ≡ agreeing a rho n + bool_byte (eqb (get_or a x 0) s)
    counted =
        ap (λ (b : ℕ). agreeing a changed n + bool_byte (eqb (get_or a x 0) b)) (sym (front x h))
        ∙ agreeing_changed a (take n rho) n x s h (omega (arith, length-take-le n rho long))
        ∙ ap (λ (m : ℕ). m + bool_byte (eqb (get_or a x 0) s)) (agreeing_same a (take n rho) rho n (λ i l. front i l))

    differs : (get_or a x 0 ≡ s → ⊥) → same_signs a changed ≡ false
    differs d = by (same_signs a changed) refl
      where
        by : (b : Bool) → same_signs a changed ≡ b → b ≡ false
        by true p =
            absurd (d (ap (λ (l : List ℕ). get_or l x 0) (signs_same a changed (subst T (sym p) tt)) ∙ get_or-set_same (take n rho) x s 0 (omega (arith, length-take-le n rho long))))
        by false p = refl

    pub same_changed : (eqb (get_or a x 0) s && eqb (agreeing a rho n) (n - bool_byte (not (eqb (get_or rho x 0) s)))) ≡ same_signs a changed
    same_changed =
        elim (ℕ_discrete (get_or a x 0) s) [
          | yes e ↦
              elim (ℕ_discrete (get_or rho x 0) s) [
                | yes q ↦
                    let same : agreeing a changed n + 1 ≡ agreeing a rho n + 1 = sym (rw (eq-eqb (get_or a x 0) (get_or rho x 0) (e ∙ sym q))) ∙ counted ∙ rw (eq-eqb (get_or a x 0) s e) in
                    rw (eq-eqb (get_or a x 0) s e, eq-eqb (get_or rho x 0) s q)
                    (eqb_alike (agreeing a rho n) (n - 0) (agreeing a changed n) n (λ i. omega (arith, same)) (λ i. omega (arith, same)) ∙ same_counted changed (front_sized x s))
                | no d ↦
                    let more : agreeing a changed n + 0 ≡ agreeing a rho n + 1 = sym (rw (ne_eqb (get_or a x 0) (get_or rho x 0) (λ i. d (sym i ∙ e)))) ∙ counted ∙ rw (eq-eqb (get_or a x 0) s e) in
                    rw (eq-eqb (get_or a x 0) s e, ne_eqb (get_or rho x 0) s d)
                    (eqb_alike (agreeing a rho n) (n - 1) (agreeing a changed n) n (λ i. omega (arith, more)) (λ i. omega (arith, more)) ∙ same_counted changed (front_sized x s))
              ]
          | no d ↦ rw (ne_eqb (get_or a x 0) s d) (sym (differs d))
        ]
