-- The reading row by row, and what its answer says of the rows.
use Rattle.std.proofs.Common.{◌≡◌, ℕ, suc, ◌+◌, ◌⊎◌, List, [], ◌∷◌, ◌++◌, length, Some, None, Ok, Err, Option, Result, sym, refl, ap, ◌∙◌, subst, inl, inr, add-zero, arith}
use Rattle.std.proofs.lemmas.Option.{none-some}
use Rattle.table.specs.declared.fault.Fault.{Fault}
use Rattle.table.specs.declared.fault.Fault.TheVariants.{Head as BadHead, Row as BadRow}
use Rattle.table.specs.declared.reading.Reading.{Reading}
use Rattle.table.specs.declared.reading.Receiving.{Receiving}
use Rattle.table.specs.declared.row.Head.{Head}
use Rattle.table.specs.declared.row.Row.{Row}
use Rattle.table.specs.Reads.{unread, follow, answer_at, read_on, read_table}
use Rattle.table.proofs.Standing.{run, run_some}

-- one row of a reading
pub read_on_some : (h : Head) (r after : Reading) (n : ℕ) (row : Row) (rows : List Row) → follow h r row ≡ Some after → read_on h r n (row ∷ rows) ≡ read_on h after (suc n) rows
read_on_some h r after n row rows e = ap (λ (o : Option Reading). elim o as (λ _. Result ℕ Fault) [ None ↦ Err (BadRow (suc n)) | Some a ↦ read_on h a (suc n) rows ]) e

pub read_on_none : (h : Head) (r : Reading) (n : ℕ) (row : Row) (rows : List Row) → follow h r row ≡ None → read_on h r n (row ∷ rows) ≡ Err (BadRow (suc n))
read_on_none h r n row rows e = ap (λ (o : Option Reading). elim o as (λ _. Result ℕ Fault) [ None ↦ Err (BadRow (suc n)) | Some a ↦ read_on h a (suc n) rows ]) e

-- a row that can't follow those before it
pub record Stops (h : Head) (r : Reading) (n : ℕ) (rows : List Row) (m : ℕ) : Type 0 where
  pub front : List Row
  pub row : Row
  pub rest : List Row
  pub after : Reading
  pub parts : rows ≡ front ++ row ∷ rest
  pub reads : run h r front ≡ Some after
  pub stuck : follow h after row ≡ None
  pub told : m ≡ suc (n + length front)

-- all rows are read, and a receive is cut short
pub record Ends (h : Head) (r : Reading) (n : ℕ) (rows : List Row) (m : ℕ) : Type 0 where
  pub after : Reading
  pub reads : run h r rows ≡ Some after
  pub within : after.receive ≡ None → ⊥
  pub told : m ≡ n + length rows

-- What an answer says of the reading: all rows were read, and no receive is cut short; or one can't follow
-- those before it; or all were read and a receive is cut short.
abbrev pub Says : Head → Reading → ℕ → List Row → Result ℕ Fault → Type 0
Says h r n rows (Ok w) = (after : Reading) × (run h r rows ≡ Some after) × (after.receive ≡ None) × (w ≡ after.widest)
Says h r n rows (Err BadHead) = ⊥
Says h r n rows (Err (BadRow m)) = Stops h r n rows m ⊎ Ends h r n rows m

-- the answer after a row that can follow is the answer from there on
says_more : (h : Head) (r next : Reading) (n : ℕ) (row : Row) (rows : List Row) (answer : Result ℕ Fault) → follow h r row ≡ Some next → Says h next (suc n) rows answer → Says h r n (row ∷ rows) answer
says_more h r next n row rows (Ok w) e s = (s.0, run_some h r next row rows e ∙ s.1, s.2, s.3)
says_more h r next n row rows (Err BadHead) e s = s
says_more h r next n row rows (Err (BadRow m)) e (inl s) =
    inl (record {
      front = row ∷ s.front;
      row = s.row;
      rest = s.rest;
      after = s.after;
      parts = ap (λ l. row ∷ l) s.parts;
      reads = run_some h r next row s.front e ∙ s.reads;
      stuck = s.stuck;
      told = omega (arith, s.told);
    })
says_more h r next n row rows (Err (BadRow m)) e (inr s) =
    inr (record { after = s.after; reads = run_some h r next row rows e ∙ s.reads; within = s.within; told = omega (arith, s.told) })

pub says : (h : Head) (rows : List Row) (r : Reading) (n : ℕ) → Says h r n rows (read_on h r n rows)
says h [] r n = go r.receive refl
  where
    go : (o : Option Receiving) → r.receive ≡ o → Says h r n [] (answer_at r.widest n r.receive)
    go None e = subst (λ a. Says h r n [] a) (sym (ap (answer_at r.widest n) e)) (r, refl, e, refl)
    go (Some receive) e =
        subst (λ a. Says h r n [] a) (sym (ap (answer_at r.widest n) e)) (inr (record { after = r; reads = refl; within = λ none. none-some receive (sym none ∙ e); told = sym (add-zero n) }))
says h (row ∷ rows) r n = go (follow h r row) refl (λ next. says h rows next (suc n))
  where
    go : (o : Option Reading) → follow h r row ≡ o → ((next : Reading) → Says h next (suc n) rows (read_on h next (suc n) rows)) → Says h r n (row ∷ rows) (read_on h r n (row ∷ rows))
    go None e ih =
        subst (λ a. Says h r n (row ∷ rows) a) (sym (read_on_none h r n row rows e)) (inl (record { front = []; row = row; rest = rows; after = r; parts = refl; reads = refl; stuck = e; told = ap suc (sym (add-zero n)) }))
    go (Some next) e ih =
        subst (λ a. Says h r n (row ∷ rows) a) (sym (read_on_some h r next n row rows e)) (says_more h r next n row rows (read_on h next (suc n) rows) e (ih next))

pub says_table : (h : Head) (rows : List Row) → Says h unread 0 rows (read_table h rows)
says_table h rows = says h rows unread 0
