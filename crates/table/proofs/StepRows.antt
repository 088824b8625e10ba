-- The rows of one step: what each of them tells, and which of them begins a step.
use Rattle.std.proofs.Common.{◌≡◌, ℕ, zero, suc, ◌+◌, ◌<◌, ◌≤◌, Bool, true, false, ◌&&◌, eqb, List, [], ◌∷◌, length, get_or, Some, sym, refl, ap, ◌∙◌, add-zero, arith}
use Rattle.std.proofs.lemmas.Bool.{and_from, and_left, and_right, eq-eqb, ne_eqb}
use Rattle.source.specs.Labels.{is_receive, value_count}
use Rattle.source.specs.declared.label.Label.{Label}
use Rattle.source.specs.declared.label.Label.TheVariants.{Silent, Send, Receive}
use Rattle.table.specs.declared.row.Row.{Row}
use Rattle.table.specs.Steps.{row_of, rows_from}
use Rattle.table.specs.Views.{no_row, begins, label_of}
use Rattle.choose.proofs.Elements.{counted, picked, counted_none, counted_one, picked_one}

-- whether a row begins a step of the state s
abbrev pub begins_of : ℕ → Row → Bool
begins_of s row = begins row && eqb row.from s

-- a row of a step tells what it was made from
pub row_from : (f : ℕ) (l : Label) (v to : ℕ) → (row_of f l v to).from ≡ f
row_from f Silent v to = refl
row_from f (Send c x) v to = refl
row_from f (Receive c) v to = refl

pub row_to : (f : ℕ) (l : Label) (v to : ℕ) → (row_of f l v to).to ≡ to
row_to f Silent v to = refl
row_to f (Send c x) v to = refl
row_to f (Receive c) v to = refl

pub row_label : (f : ℕ) (l : Label) (v to : ℕ) → label_of (row_of f l v to) ≡ l
row_label f Silent v to = refl
row_label f (Send c x) v to = refl
row_label f (Receive c) v to = refl

pub row_receive : (f : ℕ) (l : Label) (v to : ℕ) → eqb (row_of f l v to).kind 2 ≡ is_receive l
row_receive f Silent v to = refl
row_receive f (Send c x) v to = refl
row_receive f (Receive c) v to = refl

-- the first row of a step begins it, and no later row of a receive does
pub row_begins : (f : ℕ) (l : Label) (to : ℕ) → begins (row_of f l 0 to) ≡ true
row_begins f Silent to = refl
row_begins f (Send c x) to = refl
row_begins f (Receive c) to = refl

pub row_later : (f c v to : ℕ) → begins (row_of f (Receive c) (suc v) to) ≡ false
row_later f c v to = ne_eqb (suc v) 0 (λ e. omega arith)

-- the rows of a step, one for each landing
pub rows_length : (f : ℕ) (l : Label) (v : ℕ) (tos : List ℕ) → length (rows_from f l v tos) ≡ length tos
rows_length f l v [] = refl
rows_length f l v (to ∷ tos) = ap suc (rows_length f l (suc v) tos)

pub rows_at : (f : ℕ) (l : Label) (v : ℕ) (tos : List ℕ) (j : ℕ) → j < length tos → get_or (rows_from f l v tos) j no_row ≡ row_of f l (v + j) (get_or tos j 0)
rows_at f l v [] j less = absurd (omega arith)
rows_at f l v (to ∷ tos) zero less = rw add-zero
rows_at f l v (to ∷ tos) (suc j) less =
    let same : suc v + j ≡ v + suc j = omega arith in
    rows_at f l (suc v) tos j (omega arith) ∙ ap (λ n. row_of f l n (get_or tos j 0)) same

-- each of them leaves the state of the step
pub rows_leave : (f : ℕ) (l : Label) (v : ℕ) (tos : List ℕ) (j : ℕ) → j < length (rows_from f l v tos) → (get_or (rows_from f l v tos) j no_row).from ≡ f
rows_leave f l v tos j less =
    ap (λ (row : Row). row.from) (rows_at f l v tos j (omega (arith, rows_length f l v tos))) ∙ row_from f l (v + j) (get_or tos j 0)

-- a step has a value, and of its rows only the first begins a step
pub value_some : (range : ℕ) (l : Label) → 1 ≤ range → 1 ≤ value_count range l
value_some range Silent some = omega arith
value_some range (Send c x) some = omega arith
value_some range (Receive c) some = some

later_rows : (range f : ℕ) (l : Label) (tos : List ℕ) → suc (length tos) ≡ value_count range l → (s j : ℕ) → j < length (rows_from f l 1 tos) → begins_of s (get_or (rows_from f l 1 tos) j no_row) ≡ false
later_rows range f Silent tos long s j less = absurd (omega (arith, rows_length f Silent 1 tos))
later_rows range f (Send c x) tos long s j less = absurd (omega (arith, rows_length f (Send c x) 1 tos))
later_rows range f (Receive c) tos long s j less =
    let here = rows_at f (Receive c) 1 tos j (omega (arith, rows_length f (Receive c) 1 tos)) in
    let row = get_or (rows_from f (Receive c) 1 tos) j no_row in
    let same : 1 + j ≡ suc j = omega arith in
    let off : begins row ≡ false = ap begins here ∙ ap (λ n. begins (row_of f (Receive c) n (get_or tos j 0))) same ∙ row_later f c j (get_or tos j 0) in
    and_left (begins row) (eqb row.from s) off

first_row : (f : ℕ) (l : Label) (to : ℕ) → begins_of f (row_of f l 0 to) ≡ true
first_row f l to = and_from (begins (row_of f l 0 to)) (eqb (row_of f l 0 to).from f) (row_begins f l to) (eq-eqb (row_of f l 0 to).from f (row_from f l 0 to))

pub step_counted : (range f : ℕ) (l : Label) (tos : List ℕ) → 1 ≤ range → length tos ≡ value_count range l → counted (begins_of f) no_row (rows_from f l 0 tos) ≡ 1
step_counted range f l [] some long = absurd (omega (arith, value_some range l some))
step_counted range f l (to ∷ tos) some long = counted_one (begins_of f) no_row (row_of f l 0 to) (rows_from f l 1 tos) (first_row f l to) (later_rows range f l tos long f)

pub step_picked : (range f : ℕ) (l : Label) (tos : List ℕ) → 1 ≤ range → length tos ≡ value_count range l → picked (begins_of f) no_row (rows_from f l 0 tos) 0 ≡ Some 0
step_picked range f l [] some long = absurd (omega (arith, value_some range l some))
step_picked range f l (to ∷ tos) some long = picked_one (begins_of f) no_row (row_of f l 0 to) (rows_from f l 1 tos) (first_row f l to)

-- rows that leave other states begin no step of this one; so it is with the rows of a step of another state
pub none_begun : (s : ℕ) (rows : List Row) → ((i : ℕ) → i < length rows → (get_or rows i no_row).from ≡ s → ⊥) → counted (begins_of s) no_row rows ≡ 0
none_begun s rows other =
    counted_none (begins_of s) no_row rows (λ i less.
    let row = get_or rows i no_row in
    and_right (begins row) (eqb row.from s) (ne_eqb row.from s (other i less)))

pub step_elsewhere : (s f : ℕ) (l : Label) (tos : List ℕ) → (f ≡ s → ⊥) → counted (begins_of s) no_row (rows_from f l 0 tos) ≡ 0
step_elsewhere s f l tos other = none_begun s (rows_from f l 0 tos) (λ i less e. other (sym (rows_leave f l 0 tos i less) ∙ e))
