-- The rows of one state: they are found where the halving says, and of the whole table only they count.
use Rattle.std.proofs.Common.{◌≡◌, ℕ, ◌+◌, ◌-◌, ◌<◌, ◌≤◌, ◌&&◌, ltb, leb, List, [], ◌++◌, length, get_or, take, drop, Option, sym, refl, ap, ◌∙◌, inl, inr, append-nil, arith, length-append, length-drop, length-take}
use Rattle.std.proofs.lemmas.List.{get_or-take, get_or-drop, take-append-drop, drop-drop}
use Rattle.std.proofs.lemmas.Bool.{cases_lt, and_from, and_parts, eq-eqb, lt-ltb, ltb-false, leb-true, leb-false, le-leb, and_cases}
use Rattle.std.proofs.Math.Bool.{and-true}
use Rattle.choose.specs.Choice.{count, chosen, Rising, Split}
use Rattle.choose.proofs.Laws.{from_on, count_same, chosen_same}
use Rattle.table.specs.declared.row.Row.{Row}
use Rattle.table.specs.Parts.{from_reached, begins_in, Sorted, Splits, Part}
use Rattle.table.specs.Views.{no_row, begins, step_row, degree_of}
use Rattle.choose.proofs.Elements.{test_at, counted, counted_part, picked_part}
use Rattle.table.proofs.StepRows.{begins_of, none_begun}

-- in sorted rows, those that leave a state not below `from` are the last ones
pub reached_rising : (rows : List Row) (from : ℕ) → Sorted rows → Rising (from_reached rows from) (length rows)
reached_rising rows from sorted i j l m pass =
    let parts = and_parts (ltb i (length rows)) (leb from (get_or rows i no_row).from) pass in
    let reached = leb-true from (get_or rows i no_row).from parts.1 in
    and_from (ltb j (length rows)) (leb from (get_or rows j no_row).from) (lt-ltb j (length rows) m) (le-leb from (get_or rows j no_row).from (omega (arith, sorted i j l m)))

pub split_splits : (rows : List Row) (from n : ℕ) → Split (from_reached rows from) (length rows) n → Splits rows from n
split_splits rows from n split = record {
  within = split.within;
  below = λ i l.
      elim (and_cases (ltb i (length rows)) (leb from (get_or rows i no_row).from) (split.fails i l)) [
        | inl past ↦ absurd (omega (arith, ltb-false i (length rows) past, split.within))
        | inr fails ↦ leb-false from (get_or rows i no_row).from fails
      ];
  reached = λ i l m. leb-true from (get_or rows i no_row).from (and_parts (ltb i (length rows)) (leb from (get_or rows i no_row).from) (split.passes i l m)).1;
}

-- the rows between two places
between_whole : (rows : List Row) (m n : ℕ) → m ≤ n → rows ≡ take m rows ++ (take (n - m) (drop m rows) ++ drop n rows)
between_whole rows m n l =
    let same : m + (n - m) ≡ n = omega arith in
    sym (take-append-drop m rows)
    ∙ ap (λ rest. take m rows ++ rest) (sym (take-append-drop (n - m) (drop m rows)) ∙ ap (λ rest. take (n - m) (drop m rows) ++ rest) (drop-drop (n - m) m rows ∙ ap (λ k. drop k rows) same))

pub splits_order : (rows : List Row) (s m n : ℕ) → Splits rows s m → Splits rows (s + 1) n → m ≤ n
splits_order rows s m n low high =
    elim (cases_lt n m) [
      | inl less ↦ absurd (omega (arith, low.below n less, high.reached n (omega arith) (omega (arith, low.within))))
      | inr fine ↦ fine
    ]

pub part_between : (rows : List Row) (s m n : ℕ) → Splits rows s m → Splits rows (s + 1) n → Part rows s m (take (n - m) (drop m rows))
part_between rows s m n low high =
    let order = splits_order rows s m n low high in
    record {
      front = take m rows;
      behind = drop n rows;
      whole = between_whole rows m n order;
      in_front = omega (arith, length-take m rows, low.within);
      all_here = λ i l.
          let long : i < length (drop m rows) = omega (arith, length-take (n - m) (drop m rows)) in
          let less : i < n - m = omega (arith, length-take (n - m) (drop m rows)) in
          let row : get_or (take (n - m) (drop m rows)) i no_row ≡ get_or rows (m + i) no_row = get_or-take (n - m) (drop m rows) i no_row less ∙ get_or-drop m rows i no_row in
          omega (arith, ap (λ (row : Row). row.from) row, low.reached (m + i) (omega arith) (omega (arith, length-drop m rows)), high.below (m + i) (omega arith));
      none_in_front = λ i l.
          let less : i < m = omega (arith, length-take m rows) in
          omega (arith, ap (λ (row : Row). row.from) (get_or-take m rows i no_row less), low.below i less);
      none_behind = λ i l.
          omega (arith, ap (λ (row : Row). row.from) (get_or-drop n rows i no_row), high.reached (n + i) (omega arith) (omega (arith, length-drop n rows)));
    }

-- no rows, where all rows leave smaller states
pub part_none : (rows : List Row) (s : ℕ) → ((i : ℕ) → i < length rows → (get_or rows i no_row).from < s) → Part rows s (length rows) []
part_none rows s below = record {
  front = rows;
  behind = [];
  whole = sym (append-nil rows);
  in_front = refl;
  all_here = λ i l. absurd (omega arith);
  none_in_front = below;
  none_behind = λ i l. absurd (omega arith);
}

-- of the whole table, only the rows of the state s begin steps of it
module _ (rows : List Row) (s before : ℕ) (part : List Row) (here : Part rows s before part) where
  none_in_front : counted (begins_of s) no_row here.front ≡ 0
  none_in_front = none_begun s here.front (λ i l e. omega (arith, here.none_in_front i l))

  none_behind : counted (begins_of s) no_row here.behind ≡ 0
  none_behind = none_begun s here.behind (λ i l e. omega (arith, here.none_behind i l))

  tests_agree : (i : ℕ) → i < length part → begins_in part i ≡ begins_of s (get_or part i no_row)
  tests_agree i l =
      let row = get_or part i no_row in
      ap (λ b. b && begins row) (lt-ltb i (length part) l) ∙ sym (and-true (begins row)) ∙ ap (λ b. begins row && b) (sym (eq-eqb row.from s (here.all_here i l)))

  pub part_degree : count (begins_in part) (length part) ≡ degree_of rows s
  part_degree =
      count_same (begins_in part) (test_at (begins_of s) no_row part) (length part) tests_agree
      ∙ sym (counted_part (begins_of s) no_row here.front part here.behind none_in_front none_behind)
      ∙ ap (λ r. degree_of r s) (sym here.whole)

  part_row : (k : ℕ) → step_row rows s k ≡ from_on before (chosen (begins_in part) (length part) k)
  part_row k =
      ap (λ r. step_row r s k) here.whole
      ∙ picked_part (begins_of s) no_row here.front part here.behind k none_in_front none_behind
      ∙ ap (λ o. from_on (length here.front) o) (sym (chosen_same (begins_in part) (test_at (begins_of s) no_row part) (length part) k tests_agree))
      ∙ ap (λ n. from_on n (chosen (begins_in part) (length part) k)) here.in_front

  pub part_chosen : (k : ℕ) (r : Option ℕ) → r ≡ chosen (begins_in part) (length part) k → from_on before r ≡ step_row rows s k
  part_chosen k r e = ap (from_on before) e ∙ sym (part_row k)

  pub part_within : before + length part ≤ length rows
  part_within = omega (arith, ap length here.whole, length-append here.front (part ++ here.behind), length-append part here.behind, here.in_front)
