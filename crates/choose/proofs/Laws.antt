-- The laws of counting and choosing: a count is at most its bound and rises with it; choosing undoes
-- counting; tests that agree below the bound count and choose alike; a bound that is a sum splits.
use Rattle.std.proofs.Common.{◌≡◌, ℕ, zero, suc, ◌+◌, ◌<◌, ◌≤◌, Bool, true, false, cond, ◌&&◌, eqb, Some, None, Option, sym, refl, ap, ◌∙◌, subst, inl, inr, add-zero, add-suc, add-one, arith}
use Rattle.std.proofs.lemmas.Bool.{cases_Bool, cases_lt, cases_eq, eq-eqb, eqb-true, ne_eqb, cond-true, cond-false, and_parts, and_from, and_left, and_right}
use Rattle.choose.specs.Choice.{count, chosen, Chosen, Undoes, First}

-- one more number: it passes, or it does not
pub count_pass : (p : ℕ → Bool) (n : ℕ) → p n ≡ true → count p (suc n) ≡ suc (count p n)
count_pass p n e = cond-true (p n) _ _ e

pub count_fail : (p : ℕ → Bool) (n : ℕ) → p n ≡ false → count p (suc n) ≡ count p n
count_fail p n e = cond-false (p n) _ _ e

-- the same at n + 1, as a loop has it
pub count_more : (p : ℕ → Bool) (n : ℕ) → p n ≡ true → count p (n + 1) ≡ count p n + 1
count_more p n e = rw add-one (omega (arith, count_pass p n e))

pub count_no_more : (p : ℕ → Bool) (n : ℕ) → p n ≡ false → count p (n + 1) ≡ count p n
count_no_more p n e = rw add-one (count_fail p n e)

pub count_at_most : (p : ℕ → Bool) (n : ℕ) → count p n ≤ n
count_at_most p zero = omega arith
count_at_most p (suc n) =
    let ih = count_at_most p n in
    elim (cases_Bool (p n)) [ inl e ↦ omega (arith, count_pass p n e) | inr e ↦ omega (arith, count_fail p n e) ]

-- one more number raises a count by at most one
pub count_step : (p : ℕ → Bool) (n : ℕ) → (count p n ≤ count p (suc n)) × (count p (suc n) ≤ suc (count p n))
count_step p n =
    elim (cases_Bool (p n)) [ inl e ↦ omega (arith, count_pass p n e) | inr e ↦ omega (arith, count_fail p n e) ]

pub count_rises : (p : ℕ → Bool) (m n : ℕ) → count p m ≤ count p (m + n)
count_rises p m zero = rw add-zero (omega arith)
count_rises p m (suc n) = rw add-suc (omega (arith, count_rises p m n, count_step p (m + n)))

-- what passes counts above it
pub count_above : (p : ℕ → Bool) (i n : ℕ) → i < n → p i ≡ true → count p i < count p n
count_above p i zero l e = omega arith
count_above p i (suc n) l e =
    elim (cases_eq i n) [
      | inl same ↦ rw (← same) (omega (arith, count_pass p i e))
      | inr other ↦ omega (arith, count_above p i n (omega arith) e, (count_step p n).0)
    ]

-- the last number is chosen, or the choice is made below it
pub chosen_last : (p : ℕ → Bool) (n k : ℕ) → (p n && eqb (count p n) k) ≡ true → chosen p (suc n) k ≡ Some n
chosen_last p n k e = cond-true (p n && eqb (count p n) k) _ _ e

pub chosen_below : (p : ℕ → Bool) (n k : ℕ) → (p n && eqb (count p n) k) ≡ false → chosen p (suc n) k ≡ chosen p n k
chosen_below p n k e = cond-false (p n && eqb (count p n) k) _ _ e

-- what is chosen passes after exactly k others
pub chosen_passes : (p : ℕ → Bool) (n k i : ℕ) → chosen p n k ≡ Some i → Chosen p n k i
chosen_passes p zero k i e = let z : ◌≡◌ {A = ℕ} 0 1 = cc in absurd (omega arith)
chosen_passes p (suc n) k i e =
    elim (cases_Bool (p n && eqb (count p n) k)) [
      | inl last ↦
          let parts = and_parts (p n) (eqb (count p n) k) last in
          let here = chosen_last p n k last in
          let same : n ≡ i = cc in
          subst (λ j. Chosen p (suc n) k j) same (record { below = omega arith; passes = parts.0; after = eqb-true (count p n) k parts.1 })
      | inr other ↦
          let c = chosen_passes p n k i (sym (chosen_below p n k other) ∙ e) in
          record { below = omega (arith, c.below); passes = c.passes; after = c.after }
    ]

-- and what passes after exactly k others is chosen
pub chosen_at : (p : ℕ → Bool) (n k i : ℕ) → Chosen p n k i → chosen p n k ≡ Some i
chosen_at p zero k i c = absurd (omega arith)
chosen_at p (suc n) k i c =
    elim (cases_eq i n) [
      | inl same ↦
          let last : (p n && eqb (count p n) k) ≡ true = subst (λ j. (p j && eqb (count p j) k) ≡ true) same (and_from (p i) (eqb (count p i) k) c.passes (eq-eqb (count p i) k c.after)) in
          chosen_last p n k last ∙ ap Some (sym same)
      | inr other ↦
          let more = count_above p i n (omega arith) c.passes in
          let fails : eqb (count p n) k ≡ false = ne_eqb (count p n) k (λ e. omega arith) in
          chosen_below p n k (and_right (p n) (eqb (count p n) k) fails) ∙ chosen_at p n k i (record { below = omega arith; passes = c.passes; after = c.after })
    ]

-- none is chosen exactly where no more than k pass
pub chosen_none : (p : ℕ → Bool) (n k : ℕ) → count p n ≤ k → chosen p n k ≡ None
chosen_none p zero k l = refl
chosen_none p (suc n) k l =
    let step = count_step p n in
    let fails : (p n && eqb (count p n) k) ≡ false =
    elim (cases_Bool (p n)) [
      | inl e ↦ and_right (p n) (eqb (count p n) k) (ne_eqb (count p n) k (λ same. omega (arith, count_pass p n e)))
      | inr e ↦ and_left (p n) (eqb (count p n) k) e
    ] in
    chosen_below p n k fails ∙ chosen_none p n k (omega arith)

-- where more than k pass, one is chosen
pub chosen_some : (p : ℕ → Bool) (n k : ℕ) → k < count p n → (i : ℕ) × (chosen p n k ≡ Some i)
chosen_some p zero k l = absurd (omega arith)
chosen_some p (suc n) k l =
    elim (cases_lt k (count p n)) [
      | inl less ↦
          let below = chosen_some p n k less in
          let fails : eqb (count p n) k ≡ false = ne_eqb (count p n) k (λ e. omega arith) in
          (below.0, chosen_below p n k (and_right (p n) (eqb (count p n) k) fails) ∙ below.1)
      | inr least ↦
          elim (cases_Bool (p n)) [
            | inl e ↦ (n, chosen_last p n k (and_from (p n) (eqb (count p n) k) e (eq-eqb (count p n) k (omega (arith, count_pass p n e)))))
            | inr e ↦ absurd (omega (arith, count_fail p n e))
          ]
    ]

pub chosen_few : (p : ℕ → Bool) (n k : ℕ) → chosen p n k ≡ None → count p n ≤ k
chosen_few p n k e =
    elim (cases_lt k (count p n)) [
      | inl less ↦
          let some = chosen_some p n k less in
          let z : ◌≡◌ {A = ℕ} 0 1 = cc some.1 in
          absurd (omega arith)
      | inr least ↦ least
    ]

pub chosen_undoes : (p : ℕ → Bool) (n k : ℕ) → Undoes p n k (chosen p n k)
chosen_undoes p n k = record {
  picks = λ i. chosen_at p n k i;
  picked = λ i. chosen_passes p n k i;
  few = chosen_few p n k;
  none = chosen_none p n k;
}

-- where none passes, none is counted, and the other way round
pub count_none : (p : ℕ → Bool) (n : ℕ) → ((i : ℕ) → i < n → p i ≡ false) → count p n ≡ 0
count_none p zero f = refl
count_none p (suc n) f = count_fail p n (f n (omega arith)) ∙ count_none p n (λ i l. f i (omega arith))

pub none_counted : (p : ℕ → Bool) (n : ℕ) → count p n ≡ 0 → (i : ℕ) → i < n → p i ≡ false
none_counted p n e i l =
    elim (cases_Bool (p i)) [ inl t ↦ absurd (omega (arith, count_above p i n l t)) | inr f ↦ f ]

-- the first that is chosen is the least
pub chosen_first : (p : ℕ → Bool) (n : ℕ) → First p n (chosen p n 0)
chosen_first p n = go (chosen p n 0) refl
  where
    go : (r : Option ℕ) → chosen p n 0 ≡ r → First p n r
    go None e = λ j l. none_counted p n (let few = chosen_few p n 0 e in omega arith) j l
    go (Some i) e =
        let c = chosen_passes p n 0 i e in
        record { below = c.below; passes = c.passes; none_before = none_counted p i c.after }

-- tests that agree below the bound count and choose alike
pub count_same : (p q : ℕ → Bool) (n : ℕ) → ((i : ℕ) → i < n → p i ≡ q i) → count p n ≡ count q n
count_same p q zero f = refl
count_same p q (suc n) f =
    let ih = count_same p q n (λ i l. f i (omega arith)) in
    let here = f n (omega arith) in
    ap (λ b. cond b (suc (count p n)) (count p n)) here ∙ ap (λ c. cond (q n) (suc c) c) ih

pub chosen_same : (p q : ℕ → Bool) (n k : ℕ) → ((i : ℕ) → i < n → p i ≡ q i) → chosen p n k ≡ chosen q n k
chosen_same p q zero k f = refl
chosen_same p q (suc n) k f =
    let below : (i : ℕ) → i < n → p i ≡ q i = λ i l. f i (omega arith) in
    let ih = chosen_same p q n k below in
    let counts = count_same p q n below in
    let here = f n (omega arith) in
    ap (λ b. cond (b && eqb (count p n) k) (Some n) (chosen p n k)) here
    ∙ ap (λ c. cond (q n && eqb c k) (Some n) (chosen p n k)) counts
    ∙ ap (λ r. cond (q n && eqb (count q n) k) (Some n) r) ih

-- a bound that is a sum: those below the first part, then those from there on
pub count_sum : (p : ℕ → Bool) (m n : ℕ) → count p (m + n) ≡ count p m + count (λ i. p (m + i)) n
count_sum p m zero = rw (add-zero, add-zero)
count_sum p m (suc n) =
    rw add-suc
    (elim (cases_Bool (p (m + n))) [
      | inl e ↦ omega (arith, count_pass p (m + n) e, count_pass (λ i. p (m + i)) n e, count_sum p m n)
      | inr e ↦ omega (arith, count_fail p (m + n) e, count_fail (λ i. p (m + i)) n e, count_sum p m n)
    ])

-- a choice that is counted on from a number
abbrev pub from_on : ℕ → Option ℕ → Option ℕ
from_on m None = None
from_on m (Some i) = Some (m + i)

-- a choice past those that pass below m is made from there on
pub chosen_sum : (p : ℕ → Bool) (m n k : ℕ) → chosen p (m + n) (count p m + k) ≡ from_on m (chosen (λ i. p (m + i)) n k)
chosen_sum p m n k = go (chosen (λ i. p (m + i)) n k) refl
  where
    go : (r : Option ℕ) → chosen (λ i. p (m + i)) n k ≡ r → chosen p (m + n) (count p m + k) ≡ from_on m r
    go None e = chosen_none p (m + n) (count p m + k) (omega (arith, count_sum p m n, chosen_few (λ i. p (m + i)) n k e))
    go (Some i) e =
        let c = chosen_passes (λ j. p (m + j)) n k i e in
        chosen_at p (m + n) (count p m + k) (m + i) (record {
          below = omega (arith, c.below);
          passes = c.passes;
          after = omega (arith, count_sum p m i, c.after);
        })

-- a choice among those below m does not look further
pub chosen_front : (p : ℕ → Bool) (m n k : ℕ) → k < count p m → chosen p (m + n) k ≡ chosen p m k
chosen_front p m n k l =
    let some = chosen_some p m k l in
    let c = chosen_passes p m k some.0 some.1 in
    chosen_at p (m + n) k some.0 (record { below = omega (arith, c.below); passes = c.passes; after = c.after }) ∙ sym some.1

-- the same of an answer that is known to be the choice
pub undoes_chosen : (p : ℕ → Bool) (n k : ℕ) (r : Option ℕ) → r ≡ chosen p n k → Undoes p n k r
undoes_chosen p n k r e = subst (Undoes p n k) (sym e) (chosen_undoes p n k)

pub first_chosen : (p : ℕ → Bool) (n : ℕ) (r : Option ℕ) → r ≡ chosen p n 0 → First p n r
first_chosen p n r e = subst (First p n) (sym e) (chosen_first p n)
