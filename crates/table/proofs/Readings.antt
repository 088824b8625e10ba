-- What the reading of a table shows: it is accepted exactly where its rows spell steps that fit.
use Rattle.std.proofs.Common.{◌≡◌, ℕ, true, false, ltb, leb, List, [], ◌∷◌, ◌++◌, length, is_ok, Some, None, Ok, Err, Result, sym, refl, ap, ◌∙◌, subst, inl, inr, arith}
use mathlib.Core.Bool.{Bool-set}
use mathlib.Core.Logic.{∥∥₁_elim}
use Rattle.std.proofs.lemmas.Bool.{ltb-true, leb-true, lt-ltb, le-leb, and_parts, and_from, both_ways}
use Rattle.std.proofs.lemmas.Option.{none-some, same_Some}
use Rattle.table.specs.declared.fault.Fault.{Fault}
use Rattle.table.specs.declared.fault.Fault.TheVariants.{Head as BadHead, Row as BadRow}
use Rattle.table.specs.declared.reading.Reading.{Reading}
use Rattle.table.specs.declared.row.Head.{Head}
use Rattle.table.specs.declared.row.Row.{Row}
use Rattle.table.specs.Reads.{unread, head_fits, follow, read_table}
use Rattle.table.specs.Steps.{Step, HeadFits, Spells, WellFormed, steps_at}
use Rattle.table.specs.Views.{largest}
use Rattle.table.proofs.Largest.{largest_is}
use Rattle.table.proofs.Standing.{run, run_none, run_append, closed_none, closed_fit}
use Rattle.table.proofs.ReadOn.{Says, says_table}
use Rattle.table.proofs.Complete.{run_spelt}
use Rattle.table.proofs.Sound.{Stands, stands_run}
use Rattle.table.proofs.Sound.Stands.{whole, cut}

-- the test of the head tells whether it fits
pub head_from_test : (h : Head) → head_fits h ≡ true → HeadFits h
head_from_test h e =
    let p1 = and_parts (leb 1 h.states) _ e in
    let p2 = and_parts (leb h.states 65536) _ p1.1 in
    let p3 = and_parts (leb 1 h.range) _ p2.1 in
    let p4 = and_parts (leb h.range 32) (ltb h.root h.states) p3.1 in
    record {
      some_state = leb-true 1 h.states p1.0;
      few_states = leb-true h.states 65536 p2.0;
      some_value = leb-true 1 h.range p3.0;
      few_values = leb-true h.range 32 p4.0;
      root_inside = ltb-true h.root h.states p4.1;
    }

pub test_from_head : (h : Head) → HeadFits h → head_fits h ≡ true
test_from_head h f =
    and_from _ _ (le-leb 1 h.states f.some_state)
    (and_from _ _ (le-leb h.states 65536 f.few_states)
    (and_from _ _ (le-leb 1 h.range f.some_value)
    (and_from _ _ (le-leb h.range 32 f.few_values) (lt-ltb h.root h.states f.root_inside))))

-- rows that can be read stand to their reading
pub stands : (h : Head) (rows : List Row) (after : Reading) → HeadFits h → run h unread rows ≡ Some after → Stands h rows after
stands h rows after f e = stands_run h f.some_value rows [] unread after (whole [] refl (closed_none h)) e

-- a table that is read to the end spells steps, and the width is the most that leave one state
pub read_width : (h : Head) (rows : List Row) (w : ℕ) → HeadFits h → read_table h rows ≡ Ok w → (steps : List Step) × Spells h rows steps × (w ≡ largest (λ s. length (steps_at s steps)) h.states)
read_width h rows w f e =
    let s : Says h unread 0 rows (Ok w) = subst (λ a. Says h unread 0 rows a) e (says_table h rows) in
    found s.0 s.2 s.3 (stands h rows s.0 f s.1)
  where
    found : (after : Reading) → after.receive ≡ None → w ≡ after.widest → Stands h rows after → (steps : List Step) × Spells h rows steps × (w ≡ largest (λ s. length (steps_at s steps)) h.states)
    found after none width (whole done spelt c) = (done, record { head_fits = f; steps_fit = closed_fit h done after c; spelt = spelt }, width ∙ largest_is (λ s. length (steps_at s done)) h.states after.widest c.above c.met)
    found after none width (cut done before from channel tos p less is) = absurd (none-some _ (sym none ∙ ap (λ x. x.receive) is))

-- a row that can't follow those before it can't stand there in a well-formed table
pub stuck_refused : (h : Head) (front : List Row) (row : Row) (rest : List Row) (after : Reading) → run h unread front ≡ Some after → follow h after row ≡ None → WellFormed h (front ++ row ∷ rest) → ⊥
stuck_refused h front row rest after reads stuck t =
    let stops = run_append h front (row ∷ rest) unread after reads ∙ run_none h after row rest stuck in
    let ends = (run_spelt h (front ++ row ∷ rest) t.0 t.1).1 in
    let z : ◌≡◌ {A = ℕ} 0 1 = cc in
    omega arith

-- nor can a receive be cut short at its end
pub cut_refused : (h : Head) (rows : List Row) (after : Reading) → run h unread rows ≡ Some after → (after.receive ≡ None → ⊥) → WellFormed h rows → ⊥
cut_refused h rows after reads within t =
    let ends = run_spelt h rows t.0 t.1 in
    let same : after ≡ ends.0 = same_Some after ends.0 (sym reads ∙ ends.1) in
    within (ap (λ x. x.receive) same ∙ ends.2.still)

-- so a table that is refused is not well-formed
pub read_refused : (h : Head) (rows : List Row) (f : Fault) → read_table h rows ≡ Err f → WellFormed h rows → ⊥
read_refused h rows f e t = go f (subst (λ a. Says h unread 0 rows a) e (says_table h rows))
  where
    go : (fault : Fault) → Says h unread 0 rows (Err fault) → ⊥
    go BadHead s = s
    go (BadRow m) (inl s) = stuck_refused h s.front s.row s.rest s.after s.reads s.stuck (subst (λ l. WellFormed h l) s.parts t)
    go (BadRow m) (inr s) = cut_refused h rows s.after s.reads s.within t

-- a table that is known to be well-formed is read again to find its steps
pub well_formed_again : (h : Head) (rows : List Row) → ∥ WellFormed h rows ∥₁ → WellFormed h rows
well_formed_again h rows known =
    let fits : head_fits h ≡ true = ∥∥₁_elim known (Bool-set (head_fits h) true) (λ t. test_from_head h t.1.head_fits) in
    let reads : is_ok (read_table h rows) ≡ true = ∥∥₁_elim known (Bool-set (is_ok (read_table h rows)) true) (λ t. accepts (read_table h rows) refl t) in
    again (read_table h rows) refl reads (head_from_test h fits)
  where
    accepts : (answer : Result ℕ Fault) → read_table h rows ≡ answer → WellFormed h rows → is_ok answer ≡ true
    accepts (Ok w) e t = refl
    accepts (Err f) e t = absurd (read_refused h rows f e t)

    again : (answer : Result ℕ Fault) → read_table h rows ≡ answer → is_ok answer ≡ true → HeadFits h → WellFormed h rows
    again (Ok w) e ok f = let found = read_width h rows w f e in (found.0, found.1)
    again (Err g) e ok f = absurd (both_ways false refl ok)
