-- The rows of steps that fit are read to the end.
use Rattle.std.proofs.Common.{◌≡◌, ℕ, suc, ◌+◌, ◌<◌, ◌≤◌, true, cond, ◌&&◌, eqb, ltb, leb, List, [], ◌∷◌, ◌++◌, length, Some, None, sym, refl, ap, ◌∙◌, subst, append_assoc, arith}
use Rattle.std.proofs.lemmas.List.{append-nil}
use Rattle.std.proofs.lemmas.Bool.{eq-eqb, lt-ltb, le-ltb, le-leb, and_from, cond-true, cond-false}
use Rattle.source.specs.Labels.{Fits, value_count}
use Rattle.source.specs.declared.label.Label.{Label}
use Rattle.source.specs.declared.label.Label.TheVariants.{Silent, Send, Receive}
use Rattle.table.specs.declared.reading.Reading.{Reading}
use Rattle.table.specs.declared.row.Head.{Head}
use Rattle.table.specs.declared.row.Row.{Row}
use Rattle.table.specs.Reads.{unread, may_begin, begun, receive_after, follow_in, follow}
use Rattle.table.specs.Steps.{Step, Each, StepFits, StepsFit, Spells, row_of, rows_from, spelling}
use Rattle.table.proofs.Lists.{each_back}
use Rattle.table.proofs.Spelling.{steps_at_here, steps_at_append, in_order_before}
use Rattle.table.proofs.Standing.{run, run_some, so_far, opened, going_on, up_to, Closed, closed_none, so_far_is, closed_push}

-- a row that begins a step follows where none is being read
pub follow_begin : (h : Head) (r : Reading) (row : Row) → r.receive ≡ None → row.from < h.states → row.to < h.states → r.from ≤ row.from → so_far r row.from < 64 → may_begin h row ≡ true → follow h r row ≡ Some (opened r row.from (cond (eqb row.kind 2) (receive_after h row.channel 0) None))
follow_begin h r row none from to later room may =
    let states : (ltb row.from h.states && ltb row.to h.states) ≡ true = and_from _ _ (lt-ltb row.from h.states from) (lt-ltb row.to h.states to) in
    let may_follow : (leb r.from row.from && (ltb (begun r row) 64 && may_begin h row)) ≡ true =
    and_from _ _ (le-leb r.from row.from later) (and_from _ _ (lt-ltb (begun r row) 64 room) may) in
    cond-true _ _ None states ∙ ap (follow_in h r row) none ∙ cond-true _ _ None may_follow

-- the next row of a receive follows
pub follow_receive : (h : Head) (r : Reading) (from channel v to : ℕ) → from < h.states → to < h.states → follow h (opened r from (going_on channel v)) (row_of from (Receive channel) v to) ≡ Some (opened r from (up_to h channel (suc v)))
follow_receive h r from channel v to from_inside to_inside =
    let states : (ltb from h.states && ltb to h.states) ≡ true = and_from _ _ (lt-ltb from h.states from_inside) (lt-ltb to h.states to_inside) in
    let same : (eqb from from && (true && (eqb channel channel && eqb v v))) ≡ true =
    and_from _ _ (eq-eqb from from refl) (and_from _ _ (eq-eqb channel channel refl) (eq-eqb v v refl)) in
    cond-true _ _ None states ∙ cond-true _ _ None same

-- so the further rows of a receive are read up to the last value
pub run_landings : (h : Head) (r : Reading) (from channel : ℕ) → from < h.states → (tos : List ℕ) (v : ℕ) → v + length tos ≡ h.range → Each (λ to. to < h.states) tos → (rest : List Row) → run h (opened r from (up_to h channel v)) (rows_from from (Receive channel) v tos ++ rest) ≡ run h (opened r from None) rest
run_landings h r from channel inside [] v all each rest =
    ap (λ n. run h (opened r from n) rest) (cond-false (ltb v h.range) (going_on channel v) None (le-ltb v h.range (omega arith)))
run_landings h r from channel inside (to ∷ tos) v all each rest =
    ap (λ n. run h (opened r from n) (row_of from (Receive channel) v to ∷ (rows_from from (Receive channel) (suc v) tos ++ rest))) (cond-true (ltb v h.range) (going_on channel v) None (lt-ltb v h.range (omega arith)))
    ∙ run_some h (opened r from (going_on channel v)) (opened r from (up_to h channel (suc v))) (row_of from (Receive channel) v to) (rows_from from (Receive channel) (suc v) tos ++ rest) (follow_receive h r from channel v to inside each.0)
    ∙ run_landings h r from channel inside tos (suc v) (omega arith) each.1 rest

-- and the rows of a step that fits
pub run_rows : (h : Head) (r : Reading) (from : ℕ) (label : Label) (tos : List ℕ) → 0 < h.range → r.receive ≡ None → from < h.states → Fits h.range label → length tos ≡ value_count h.range label → Each (λ to. to < h.states) tos → r.from ≤ from → so_far r from < 64 → (rest : List Row) → run h r (rows_from from label 0 tos ++ rest) ≡ run h (opened r from None) rest
run_rows h r from Silent [] some none inside fits all each later room rest = absurd (omega arith)
run_rows h r from Silent (to ∷ []) some none inside fits all each later room rest =
    run_some h r (opened r from None) (row_of from Silent 0 to) rest (follow_begin h r (row_of from Silent 0 to) none inside each.0 later room refl)
run_rows h r from Silent (to ∷ (other ∷ tos)) some none inside fits all each later room rest = absurd (omega arith)
run_rows h r from (Send c x) [] some none inside fits all each later room rest = absurd (omega arith)
run_rows h r from (Send c x) (to ∷ []) some none inside fits all each later room rest =
    run_some h r (opened r from None) (row_of from (Send c x) 0 to) rest (follow_begin h r (row_of from (Send c x) 0 to) none inside each.0 later room (and_from _ _ (lt-ltb c 64 fits.0) (lt-ltb x h.range fits.1)))
run_rows h r from (Send c x) (to ∷ (other ∷ tos)) some none inside fits all each later room rest = absurd (omega arith)
run_rows h r from (Receive c) [] some none inside fits all each later room rest = absurd (omega arith)
run_rows h r from (Receive c) (to ∷ tos) some none inside fits all each later room rest =
    run_some h r (opened r from (up_to h c 1)) (row_of from (Receive c) 0 to) (rows_from from (Receive c) 1 tos ++ rest) (follow_begin h r (row_of from (Receive c) 0 to) none inside each.0 later room (and_from _ _ (lt-ltb c 64 fits) refl))
    ∙ run_landings h r from c inside tos 1 (omega arith) each.1 rest

-- and those of one step after another
pub run_steps : (h : Head) → 0 < h.range → (rest done : List Step) (r : Reading) → Closed h done r → StepsFit h (done ++ rest) → (after : Reading) × (run h r (spelling rest) ≡ Some after) × Closed h (done ++ rest) after
run_steps h some [] done r c fit = (r, refl, subst (λ l. Closed h l r) (sym (append-nil done)) c)
run_steps h some (step ∷ rest) done r c fit =
    let from = step.from in
    let later : r.from ≤ from = c.least from (in_order_before done step rest fit.in_order) in
    let fits : StepFits h step = (each_back (StepFits h) done (step ∷ rest) fit.each_fits).0 in
    let room : so_far r from < 64 = omega (arith, so_far_is h done r from c later, fit.few from, steps_at_append from done (step ∷ rest), steps_at_here from step rest refl) in
    let next = opened r from None in
    let whole : (done ++ step ∷ []) ++ rest ≡ done ++ step ∷ rest = append_assoc done (step ∷ []) rest in
    let more = run_steps h some rest (done ++ step ∷ []) next (closed_push h done r step c fits later room) (subst (λ l. StepsFit h l) (sym whole) fit) in (
      more.0,
      run_rows h r from step.label step.landings some c.still fits.from_inside fits.label_fits fits.landing_each fits.landings_inside later room (spelling rest) ∙ more.1,
      subst (λ l. Closed h l more.0) whole more.2,
    )

-- a well-formed table is read to the end, with no receive cut short
pub run_spelt : (h : Head) (rows : List Row) (steps : List Step) → Spells h rows steps → (after : Reading) × (run h unread rows ≡ Some after) × Closed h steps after
run_spelt h rows steps s =
    let whole = run_steps h s.head_fits.some_value steps [] unread (closed_none h) s.steps_fit in
    (whole.0, ap (λ l. run h unread l) s.spelt ∙ whole.1, whole.2)
