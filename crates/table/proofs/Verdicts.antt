-- What the check answers is so, and nothing else is.
use Rattle.std.proofs.Common.{◌≡◌, ℕ, zero, suc, ◌<◌, ◌≤◌, List, [], ◌∷◌, ◌++◌, length, take, drop, Ok, Err, Result, sym, refl, ap, ◌∙◌, subst, inl, inr, append_assoc, arith, length-append}
use Rattle.std.proofs.lemmas.List.{append-nil, take-append-drop, take-take, take_at}
use Rattle.std.proofs.lemmas.Bool.{cases_order}
use Rattle.std.proofs.lemmas.Option.{same_Some}
use Rattle.table.specs.declared.fault.Fault.{Fault}
use Rattle.table.specs.declared.fault.Fault.TheVariants.{Head as BadHead, Row as BadRow}
use Rattle.table.specs.declared.row.Head.{Head}
use Rattle.table.specs.declared.row.Row.{Row}
use Rattle.table.specs.Reads.{unread, read_table}
use Rattle.table.specs.Steps.{HeadFits, WellFormed, Mendable, RowFault, Checked}
use Rattle.table.proofs.Sound.{stands_mendable}
use Rattle.table.proofs.ReadOn.{Says, Stops, Ends, says_table}
use Rattle.table.proofs.Readings.{stands, read_width, stuck_refused, cut_refused}

-- a well-formed table can be continued, by nothing; and a front of what can be continued can be too
pub mendable_whole : (h : Head) (rows : List Row) → WellFormed h rows → Mendable h rows
mendable_whole h rows t = ([], subst (λ l. WellFormed h l) (sym (append-nil rows)) t)

pub mendable_front : (h : Head) (xs ys : List Row) → Mendable h (xs ++ ys) → Mendable h xs
mendable_front h xs ys m = (ys ++ m.0, subst (λ l. WellFormed h l) (append_assoc xs ys m.0) m.1)

pub mendable_take : (h : Head) (rows : List Row) (i : ℕ) → Mendable h rows → Mendable h (take i rows)
mendable_take h rows i m = mendable_front h (take i rows) (drop i rows) (subst (λ l. Mendable h l) (sym (take-append-drop i rows)) m)

pub mendable_less : (h : Head) (rows : List Row) (i j : ℕ) → i ≤ j → Mendable h (take j rows) → Mendable h (take i rows)
mendable_less h rows i j l m = subst (λ l. Mendable h l) (take-take i j rows l) (mendable_take h (take j rows) i m)

-- a row that can't follow those before it is at fault
fault_stops : (h : Head) (rows : List Row) (m : ℕ) → HeadFits h → Stops h unread 0 rows m → RowFault h rows m
fault_stops h rows m f s =
    let front = s.front in
    let i = length front in
    let one = s.row ∷ [] in
    let before : take i rows ≡ front = ap (take i) s.parts ∙ take_at front (s.row ∷ s.rest) i refl in
    let longer : length (front ++ one) ≡ suc i = omega (arith, length-append front one) in
    let with_it : take (suc i) rows ≡ front ++ one = ap (take (suc i)) (s.parts ∙ sym (append_assoc front one s.rest)) ∙ take_at (front ++ one) s.rest (suc i) longer in
    let fault : RowFault h rows (suc i) = (
      omega (arith, ap length s.parts, length-append front (s.row ∷ s.rest)),
      subst (λ l. Mendable h l) (sym before) (stands_mendable h front s.after f (stands h front s.after f s.reads)),
      inl (λ mend. let more = subst (λ l. Mendable h l) with_it mend in stuck_refused h front s.row more.0 s.after s.reads s.stuck (subst (λ l. WellFormed h l) (append_assoc front one more.0) more.1)),
    ) in
    let number : m ≡ suc i = omega (arith, s.told) in
    subst (λ n. RowFault h rows n) (sym number) fault

-- and so is the last one within a receive
fault_ends : (h : Head) (rows : List Row) (m : ℕ) → HeadFits h → Ends h unread 0 rows m → RowFault h rows m
fault_ends h [] m f s = absurd (s.within (sym (ap (λ x. x.receive) (same_Some unread s.after s.reads))))
fault_ends h (row ∷ rest) m f s =
    let rows = row ∷ rest in
    let i = length rest in
    let mend : Mendable h rows = stands_mendable h rows s.after f (stands h rows s.after f s.reads) in
    let fault : RowFault h rows (suc i) = (omega arith, mendable_take h rows i mend, inr (refl, mend, cut_refused h rows s.after s.reads s.within)) in
    let number : m ≡ suc i = omega (arith, s.told) in
    subst (λ n. RowFault h rows n) (sym number) fault

pub checked_ok : (h : Head) (rows : List Row) (w : ℕ) → HeadFits h → read_table h rows ≡ Ok w → Checked h rows (Ok tt)
checked_ok h rows w f e = let found = read_width h rows w f e in (found.0, found.1)

pub checked_err : (h : Head) (rows : List Row) (fault : Fault) → HeadFits h → read_table h rows ≡ Err fault → Checked h rows (Err fault)
checked_err h rows fault f e = go fault (subst (λ a. Says h unread 0 rows a) e (says_table h rows))
  where
    go : (x : Fault) → Says h unread 0 rows (Err x) → Checked h rows (Err x)
    go BadHead s = absurd s
    go (BadRow m) (inl s) = (f, fault_stops h rows m f s)
    go (BadRow m) (inr s) = (f, fault_ends h rows m f s)

-- a well-formed table has no row at fault
fault_refused : (h : Head) (rows : List Row) (m : ℕ) → WellFormed h rows → RowFault h rows m → ⊥
fault_refused h rows zero t r = r
fault_refused h rows (suc i) t r =
    elim r.2 [ inl stuck ↦ stuck (mendable_take h rows (suc i) (mendable_whole h rows t)) | inr last ↦ last.2 t ]

-- no row is at fault behind one that is
fault_first : (h : Head) (rows : List Row) (m n : ℕ) → RowFault h rows m → RowFault h rows n → m < n → ⊥
fault_first h rows zero n r s l = r
fault_first h rows (suc i) zero r s l = s
fault_first h rows (suc i) (suc j) r s l =
    elim r.2 [
      | inl stuck ↦ stuck (mendable_less h rows (suc i) j (omega arith) s.1)
      | inr last ↦ omega (arith, last.0, s.0)
    ]

-- two answers that are both so are one
pub checked_same : (h : Head) (rows : List Row) (a b : Result (Unit {0}) Fault) → Checked h rows a → Checked h rows b → a ≡ b
checked_same h rows (Ok u) (Ok v) p q = refl
checked_same h rows (Ok u) (Err BadHead) p q = absurd (q p.1.head_fits)
checked_same h rows (Ok u) (Err (BadRow n)) p q = absurd (fault_refused h rows n p q.1)
checked_same h rows (Err BadHead) (Ok v) p q = absurd (p q.1.head_fits)
checked_same h rows (Err BadHead) (Err BadHead) p q = refl
checked_same h rows (Err BadHead) (Err (BadRow n)) p q = absurd (p q.0)
checked_same h rows (Err (BadRow m)) (Ok v) p q = absurd (fault_refused h rows m q p.1)
checked_same h rows (Err (BadRow m)) (Err BadHead) p q = absurd (q p.0)
checked_same h rows (Err (BadRow m)) (Err (BadRow n)) p q =
    elim (cases_order m n) [
      | inl same ↦ ap (λ x. Err (BadRow x)) same
      | inr (inl less) ↦ absurd (fault_first h rows m n p.1 q.1 less)
      | inr (inr more) ↦ absurd (fault_first h rows n m q.1 p.1 more)
    ]
