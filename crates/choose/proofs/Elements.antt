-- Counting and choosing the elements of a list that pass a test, where the list is made of others.
use Rattle.std.proofs.Common.{◌≡◌, ℕ, ◌+◌, ◌<◌, ◌≤◌, Bool, true, false, List, [], ◌∷◌, ◌++◌, length, get_or, Some, None, Option, sym, refl, ap, ◌∙◌, inl, inr, arith, length-append}
use Rattle.std.proofs.lemmas.List.{get_or_append_left, get_or-append-add}
use Rattle.std.proofs.lemmas.Bool.{cases_lt}
use Rattle.choose.specs.Choice.{count, chosen}
use Rattle.choose.proofs.Laws.{count_sum, count_same, count_none, count_pass, chosen_sum, chosen_same, chosen_front, chosen_none, chosen_at, from_on}

-- whether element i passes, how many do, and which does after k others
abbrev pub test_at : {A : Type 0} → (A → Bool) → A → List A → ℕ → Bool
test_at q d xs i = q (get_or xs i d)

abbrev pub counted : {A : Type 0} → (A → Bool) → A → List A → ℕ
counted q d xs = count (test_at q d xs) (length xs)

abbrev pub picked : {A : Type 0} → (A → Bool) → A → List A → ℕ → Option ℕ
picked q d xs k = chosen (test_at q d xs) (length xs) k

module _ {A : Type 0} (q : A → Bool) (d : A) where
  -- a test of two lists in a row is that of the first, and then that of the second
  test_first : (xs ys : List A) (i : ℕ) → i < length xs → test_at q d (xs ++ ys) i ≡ test_at q d xs i
  test_first xs ys i l = ap q (get_or_append_left xs ys d i l)

  test_second : (xs ys : List A) (i : ℕ) → test_at q d (xs ++ ys) (length xs + i) ≡ test_at q d ys i
  test_second xs ys i = ap q (get_or-append-add xs ys i d)

  count_first : (xs ys : List A) → count (test_at q d (xs ++ ys)) (length xs) ≡ counted q d xs
  count_first xs ys = count_same (test_at q d (xs ++ ys)) (test_at q d xs) (length xs) (test_first xs ys)

  pub counted_append : (xs ys : List A) → counted q d (xs ++ ys) ≡ counted q d xs + counted q d ys
  counted_append xs ys =
      let p = test_at q d (xs ++ ys) in
      ap (count p) (length-append xs ys)
      ∙ count_sum p (length xs) (length ys)
      ∙ ap (λ n. n + count (λ i. p (length xs + i)) (length ys)) (count_first xs ys)
      ∙ ap (λ n. counted q d xs + n) (count_same (λ i. p (length xs + i)) (test_at q d ys) (length ys) (λ i l. test_second xs ys i))

  pub picked_front : (xs ys : List A) (k : ℕ) → k < counted q d xs → picked q d (xs ++ ys) k ≡ picked q d xs k
  picked_front xs ys k l =
      let p = test_at q d (xs ++ ys) in
      ap (λ n. chosen p n k) (length-append xs ys)
      ∙ chosen_front p (length xs) (length ys) k (omega (arith, count_first xs ys))
      ∙ chosen_same p (test_at q d xs) (length xs) k (test_first xs ys)

  pub picked_back : (xs ys : List A) (k : ℕ) → picked q d (xs ++ ys) (counted q d xs + k) ≡ from_on (length xs) (picked q d ys k)
  picked_back xs ys k =
      let p = test_at q d (xs ++ ys) in
      ap (λ n. chosen p n (counted q d xs + k)) (length-append xs ys)
      ∙ ap (λ n. chosen p (length xs + length ys) (n + k)) (sym (count_first xs ys))
      ∙ chosen_sum p (length xs) (length ys) k
      ∙ ap (from_on (length xs)) (chosen_same (λ i. p (length xs + i)) (test_at q d ys) (length ys) k (λ i l. test_second xs ys i))

  pub counted_none : (xs : List A) → ((i : ℕ) → i < length xs → q (get_or xs i d) ≡ false) → counted q d xs ≡ 0
  counted_none xs f = count_none (test_at q d xs) (length xs) f

  pub picked_none : (xs : List A) (k : ℕ) → counted q d xs ≤ k → picked q d xs k ≡ None
  picked_none xs k l = chosen_none (test_at q d xs) (length xs) k l

  -- where none of a second list passes, it may be left out
  picked_first : (xs ys : List A) (k : ℕ) → counted q d ys ≡ 0 → picked q d (xs ++ ys) k ≡ picked q d xs k
  picked_first xs ys k none =
      elim (cases_lt k (counted q d xs)) [
        | inl less ↦ picked_front xs ys k less
        | inr few ↦ picked_none (xs ++ ys) k (omega (arith, counted_append xs ys)) ∙ sym (picked_none xs k few)
      ]

  -- a part of a list, where none before and behind it passes
  pub counted_part : (before part behind : List A) → counted q d before ≡ 0 → counted q d behind ≡ 0 → counted q d (before ++ (part ++ behind)) ≡ counted q d part
  counted_part before part behind e f = omega (arith, counted_append before (part ++ behind), counted_append part behind)

  pub picked_part : (before part behind : List A) (k : ℕ) → counted q d before ≡ 0 → counted q d behind ≡ 0 → picked q d (before ++ (part ++ behind)) k ≡ from_on (length before) (picked q d part k)
  picked_part before part behind k e f =
      let all = before ++ (part ++ behind) in
      let same : counted q d before + k ≡ k = omega arith in
      ap (picked q d all) (sym same) ∙ picked_back before (part ++ behind) k ∙ ap (from_on (length before)) (picked_first part behind k f)

  -- a list of which the first element alone passes
  pub counted_one : (x : A) (xs : List A) → q x ≡ true → ((i : ℕ) → i < length xs → q (get_or xs i d) ≡ false) → counted q d (x ∷ xs) ≡ 1
  counted_one x xs e f = omega (arith, counted_append (x ∷ []) xs, count_pass (test_at q d (x ∷ [])) 0 e, counted_none xs f)

  pub picked_one : (x : A) (xs : List A) → q x ≡ true → picked q d (x ∷ xs) 0 ≡ Some 0
  picked_one x xs e = chosen_at (test_at q d (x ∷ xs)) (length (x ∷ xs)) 0 0 (record { below = omega arith; passes = e; after = refl })
