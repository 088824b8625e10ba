-- Rows that were read are the rows of whole steps that fit, and perhaps of a receive that is cut short.
use Rattle.std.proofs.Common.{◌≡◌, ℕ, suc, ◌-◌, ◌<◌, ◌≤◌, Bool, true, false, cond, ◌&&◌, eqb, ltb, leb, List, [], ◌∷◌, ◌++◌, length, replicate, Some, None, Option, sym, refl, ap, ◌∙◌, subst, inl, inr, append_assoc, zero-add, arith, length-append}
use lib.ListN.{length-replicate}
use Rattle.std.proofs.lemmas.List.{append-nil}
use Rattle.std.proofs.lemmas.Bool.{cases_lt, cases_Bool, eqb-true, ltb-true, leb-true, lt-ltb, le-ltb, eq-eqb, ne_eqb, and_parts, cond-true, cond-false}
use Rattle.source.specs.declared.label.Label.{Label}
use Rattle.source.specs.declared.label.Label.TheVariants.{Silent, Send, Receive}
use Rattle.std.proofs.lemmas.Option.{same_Some}
use Rattle.table.specs.declared.reading.Reading.{Reading}
use Rattle.table.specs.declared.reading.Receiving.{Receiving as Begun}
use Rattle.table.specs.declared.row.Head.{Head}
use Rattle.table.specs.declared.row.Row.{Row}
use Rattle.table.specs.Reads.{may_begin, begun, receive_after, continue_receive, follow_in, follow}
use Rattle.table.specs.Steps.{Step, Each, HeadFits, StepFits, Mendable, row_of, rows_from, spelling}
use Rattle.table.proofs.Lists.{each_append, each_replicate}
use Rattle.table.proofs.Spelling.{spelling_push, rows_from_append}
use Rattle.table.proofs.Standing.{run, run_some, run_none, so_far, opened, going_on, up_to, Closed, closed_fit, closed_push}

-- some of a receive's rows after the rows of whole steps
pub record Receiving (h : Head) (rows : List Row) (done : List Step) (before : Reading) (from channel : ℕ) (tos : List ℕ) : Type 0 where
  pub was : Closed h done before
  pub from_inside : from < h.states
  pub later : before.from ≤ from
  pub room : so_far before from < 64
  pub channel_inside : channel < 64
  pub landings_inside : Each (λ to. to < h.states) tos
  pub some : 0 < length tos
  pub spelt : rows ≡ spelling done ++ rows_from from (Receive channel) 0 tos

-- what a reading says of the rows that were read
pub data Stands (h : Head) (rows : List Row) (r : Reading) : Type 0 where
  whole : (done : List Step) → rows ≡ spelling done → Closed h done r → Stands h rows r
  cut : (done : List Step) (before : Reading) (from channel : ℕ) (tos : List ℕ) → Receiving h rows done before from channel tos → length tos < h.range → r ≡ opened before from (going_on channel (length tos)) → Stands h rows r

-- a receive as a step
abbrev pub receive_step : ℕ → ℕ → List ℕ → Step
receive_step from channel tos = record { from = from; label = Receive channel; landings = tos }

-- further rows of the receive
pub receiving_more : (h : Head) (rows : List Row) (done : List Step) (before : Reading) (from channel : ℕ) (tos more : List ℕ) → Receiving h rows done before from channel tos → Each (λ to. to < h.states) more → Receiving h (rows ++ rows_from from (Receive channel) (length tos) more) done before from channel (tos ++ more)
receiving_more h rows done before from channel tos more p each = record {
  was = p.was;
  from_inside = p.from_inside;
  later = p.later;
  room = p.room;
  channel_inside = p.channel_inside;
  landings_inside = each_append (λ to. to < h.states) tos more p.landings_inside each;
  some = omega (arith, p.some, length-append tos more);
  spelt =
      ap (λ l. l ++ rows_from from (Receive channel) (length tos) more) p.spelt
      ∙ append_assoc (spelling done) (rows_from from (Receive channel) 0 tos) (rows_from from (Receive channel) (length tos) more)
      ∙ ap (λ n. spelling done ++ (rows_from from (Receive channel) 0 tos ++ rows_from from (Receive channel) n more)) (sym (zero-add (length tos)))
      ∙ ap (λ l. spelling done ++ l) (sym (rows_from_append from (Receive channel) 0 tos more));
}

-- with a row for each value it is one more whole step
pub received : (h : Head) (rows : List Row) (done : List Step) (before : Reading) (from channel : ℕ) (tos : List ℕ) → Receiving h rows done before from channel tos → length tos ≡ h.range → (rows ≡ spelling (done ++ receive_step from channel tos ∷ [])) × Closed h (done ++ receive_step from channel tos ∷ []) (opened before from None)
received h rows done before from channel tos p all =
    let step = receive_step from channel tos in
    let fits : StepFits h step = record { from_inside = p.from_inside; label_fits = p.channel_inside; landing_each = all; landings_inside = p.landings_inside } in
    (p.spelt ∙ sym (spelling_push done step), closed_push h done before step p.was fits p.later p.room)

-- so after a row of a receive the reading stands to the rows
pub stands_receive : (h : Head) (rows : List Row) (done : List Step) (before : Reading) (from channel : ℕ) (tos : List ℕ) → Receiving h rows done before from channel tos → length tos ≤ h.range → Stands h rows (opened before from (up_to h channel (length tos)))
stands_receive h rows done before from channel tos p few =
    elim (cases_lt (length tos) h.range) [
      | inl less ↦ cut done before from channel tos p less (ap (opened before from) (cond-true (ltb (length tos) h.range) (going_on channel (length tos)) None (lt-ltb (length tos) h.range less)))
      | inr least ↦
          let full = received h rows done before from channel tos p (omega arith) in
          let e : up_to h channel (length tos) ≡ None = cond-false (ltb (length tos) h.range) (going_on channel (length tos)) None (le-ltb (length tos) h.range least) in
          whole (done ++ receive_step from channel tos ∷ []) full.0 (subst (λ n. Closed h (done ++ receive_step from channel tos ∷ []) (opened before from n)) (sym e) full.1)
    ]

-- what a test guards
cond_some : {A : Type 0} (b : Bool) (o : Option A) (x : A) → cond b o None ≡ Some x → (b ≡ true) × (o ≡ Some x)
cond_some true o x e = (refl, e)
cond_some false o x e = let z : ◌≡◌ {A = ℕ} 0 1 = cc in absurd (omega arith)

row_is : (row : Row) (from kind channel value to : ℕ) → row.from ≡ from → row.kind ≡ kind → row.channel ≡ channel → row.value ≡ value → row.to ≡ to → row ≡ record { from = from; kind = kind; channel = channel; value = value; to = to }
row_is row from kind channel value to f k c v t = λ i. record { from = f i; kind = k i; channel = c i; value = v i; to = t i }

-- what a row that may follow a whole step has been tested for
record Begins (h : Head) (r : Reading) (row : Row) (after : Reading) : Type 0 where
  from_inside : row.from < h.states
  to_inside : row.to < h.states
  later : r.from ≤ row.from
  room : so_far r row.from < 64
  may : may_begin h row ≡ true
  is : opened r row.from (cond (eqb row.kind 2) (receive_after h row.channel 0) None) ≡ after

begins_from : (h : Head) (r : Reading) (row : Row) (after : Reading) → r.receive ≡ None → follow h r row ≡ Some after → Begins h r row after
begins_from h r row after none e =
    let outer = cond_some (ltb row.from h.states && ltb row.to h.states) (follow_in h r row r.receive) after e in
    let states = and_parts _ _ outer.0 in
    let inner = sym (ap (follow_in h r row) none) ∙ outer.1 in
    let own = cond_some (leb r.from row.from && (ltb (begun r row) 64 && may_begin h row)) _ after inner in
    let tests = and_parts _ _ own.0 in
    let rest = and_parts _ _ tests.1 in
    record {
      from_inside = ltb-true row.from h.states states.0;
      to_inside = ltb-true row.to h.states states.1;
      later = leb-true r.from row.from tests.0;
      room = ltb-true (begun r row) 64 rest.0;
      may = rest.1;
      is = same_Some _ after own.1;
    }

-- the three kinds of rows that may begin a step
data Kind (h : Head) (row : Row) : Type 0 where
  silent : row.kind ≡ 0 → row.channel ≡ 0 → row.value ≡ 0 → Kind h row
  send : row.kind ≡ 1 → row.channel < 64 → row.value < h.range → Kind h row
  receive : row.kind ≡ 2 → row.channel < 64 → row.value ≡ 0 → Kind h row

kind_from : (h : Head) (row : Row) → may_begin h row ≡ true → Kind h row
kind_from h row e =
    elim (cases_Bool (eqb row.kind 0)) [
      | inl zeroth ↦
          let p = and_parts _ _ (sym (cond-true (eqb row.kind 0) (eqb row.channel 0 && eqb row.value 0) _ zeroth) ∙ e) in
          silent (eqb-true row.kind 0 zeroth) (eqb-true row.channel 0 p.0) (eqb-true row.value 0 p.1)
      | inr not_zeroth ↦
          let e1 = sym (cond-false (eqb row.kind 0) (eqb row.channel 0 && eqb row.value 0) _ not_zeroth) ∙ e in
          elim (cases_Bool (eqb row.kind 1)) [
            | inl first ↦
                let p = and_parts _ _ (sym (cond-true (eqb row.kind 1) (ltb row.channel 64 && ltb row.value h.range) _ first) ∙ e1) in
                send (eqb-true row.kind 1 first) (ltb-true row.channel 64 p.0) (ltb-true row.value h.range p.1)
            | inr not_first ↦
                let p = and_parts _ _ (sym (cond-false (eqb row.kind 1) (ltb row.channel 64 && ltb row.value h.range) _ not_first) ∙ e1) in
                let q = and_parts _ _ p.1 in
                receive (eqb-true row.kind 2 p.0) (ltb-true row.channel 64 q.0) (eqb-true row.value 0 q.1)
          ]
    ]

-- a row that is a whole step
stands_single : (h : Head) (rows : List Row) (done : List Step) (r after : Reading) (row : Row) (label : Label) → rows ≡ spelling done → Closed h done r → Begins h r row after → (row.kind ≡ 2 → ⊥) → row ≡ row_of row.from label 0 row.to → StepFits h (record { from = row.from; label = label; landings = row.to ∷ [] }) → Stands h (rows ++ row ∷ []) after
stands_single h rows done r after row label spelt c b other is fits =
    let step : Step = record { from = row.from; label = label; landings = row.to ∷ [] } in
    let now : opened r row.from None ≡ after = ap (opened r row.from) (sym (cond-false (eqb row.kind 2) (receive_after h row.channel 0) None (ne_eqb row.kind 2 other))) ∙ b.is in
    let joined : rows ++ row ∷ [] ≡ spelling (done ++ step ∷ []) = ap (λ l. l ++ row ∷ []) spelt ∙ ap (λ x. spelling done ++ x ∷ []) is ∙ sym (spelling_push done step) in
    whole (done ++ step ∷ []) joined (subst (λ x. Closed h (done ++ step ∷ []) x) now (closed_push h done r step c fits b.later b.room))

-- a row that follows a whole step
stands_begin : (h : Head) → 0 < h.range → (rows : List Row) (done : List Step) (r after : Reading) (row : Row) → rows ≡ spelling done → Closed h done r → Begins h r row after → Kind h row → Stands h (rows ++ row ∷ []) after
stands_begin h some rows done r after row spelt c b (silent kind channel value) =
    stands_single h rows done r after row Silent spelt c b (λ e. omega arith) (row_is row row.from 0 0 0 row.to refl kind channel value refl) (record { from_inside = b.from_inside; label_fits = tt; landing_each = refl; landings_inside = (b.to_inside, tt) })
stands_begin h some rows done r after row spelt c b (send kind channel value) =
    stands_single h rows done r after row (Send row.channel row.value) spelt c b (λ e. omega arith) (row_is row row.from 1 row.channel row.value row.to refl kind refl refl refl) (record { from_inside = b.from_inside; label_fits = (channel, value); landing_each = refl; landings_inside = (b.to_inside, tt) })
stands_begin h some rows done r after row spelt c b (receive kind channel value) =
    let is : row ≡ row_of row.from (Receive row.channel) 0 row.to = row_is row row.from 2 row.channel 0 row.to refl kind refl value refl in
    let now : opened r row.from (up_to h row.channel 1) ≡ after = ap (opened r row.from) (sym (cond-true (eqb row.kind 2) (receive_after h row.channel 0) None (eq-eqb row.kind 2 kind))) ∙ b.is in
    let p : Receiving h (rows ++ row ∷ []) done r row.from row.channel (row.to ∷ []) = record {
      was = c;
      from_inside = b.from_inside;
      later = b.later;
      room = b.room;
      channel_inside = channel;
      landings_inside = (b.to_inside, tt);
      some = omega arith;
      spelt = ap (λ l. l ++ row ∷ []) spelt ∙ ap (λ x. spelling done ++ x ∷ []) is;
    } in
    subst (λ x. Stands h (rows ++ row ∷ []) x) now (stands_receive h (rows ++ row ∷ []) done r row.from row.channel (row.to ∷ []) p some)

-- a row within a receive
stands_continue : (h : Head) (rows : List Row) (done : List Step) (before after : Reading) (from channel : ℕ) (tos : List ℕ) (row : Row) → Receiving h rows done before from channel tos → length tos < h.range → follow h (opened before from (going_on channel (length tos))) row ≡ Some after → Stands h (rows ++ row ∷ []) after
stands_continue h rows done before after from channel tos row p less e =
    let receive : Begun = record { channel = channel; next = length tos } in
    let r : Reading = opened before from (Some receive) in
    let outer = cond_some (ltb row.from h.states && ltb row.to h.states) (continue_receive h r receive row) after e in
    let states = and_parts (ltb row.from h.states) (ltb row.to h.states) outer.0 in
    let to_inside : row.to < h.states = ltb-true row.to h.states states.1 in
    let own = cond_some (eqb row.from from && (eqb row.kind 2 && (eqb row.channel channel && eqb row.value (length tos)))) (Some (opened before from (up_to h channel (suc (length tos))))) after outer.1 in
    let t1 = and_parts _ _ own.0 in
    let t2 = and_parts _ _ t1.1 in
    let t3 = and_parts _ _ t2.1 in
    let is : row ≡ row_of from (Receive channel) (length tos) row.to = row_is row from 2 channel (length tos) row.to (eqb-true row.from from t1.0) (eqb-true row.kind 2 t2.0) (eqb-true row.channel channel t3.0) (eqb-true row.value (length tos) t3.1) refl in
    let longer : length (tos ++ row.to ∷ []) ≡ suc (length tos) = omega (arith, length-append tos (row.to ∷ [])) in
    let now : opened before from (up_to h channel (length (tos ++ row.to ∷ []))) ≡ after = ap (λ n. opened before from (up_to h channel n)) longer ∙ same_Some _ after own.1 in
    let q = receiving_more h rows done before from channel tos (row.to ∷ []) p (to_inside, tt) in
    let here = stands_receive h (rows ++ row_of from (Receive channel) (length tos) row.to ∷ []) done before from channel (tos ++ row.to ∷ []) q (omega arith) in
    subst (λ x. Stands h (rows ++ x ∷ []) after) (sym is) (subst (λ x. Stands h (rows ++ row_of from (Receive channel) (length tos) row.to ∷ []) x) now here)

-- a row that can follow
pub stands_follow : (h : Head) → 0 < h.range → (rows : List Row) (r after : Reading) (row : Row) → Stands h rows r → follow h r row ≡ Some after → Stands h (rows ++ row ∷ []) after
stands_follow h some rows r after row (whole done spelt c) e =
    let b = begins_from h r row after c.still e in
    stands_begin h some rows done r after row spelt c b (kind_from h row b.may)
stands_follow h some rows r after row (cut done before from channel tos p less is) e =
    stands_continue h rows done before after from channel tos row p less (subst (λ x. follow h x row ≡ Some after) is e)

-- and rows that can
pub stands_run : (h : Head) → 0 < h.range → (more rows : List Row) (r after : Reading) → Stands h rows r → run h r more ≡ Some after → Stands h (rows ++ more) after
stands_run h some [] rows r after s e = subst (λ l. Stands h l after) (sym (append-nil rows)) (subst (λ x. Stands h rows x) (same_Some r after e) s)
stands_run h some (row ∷ more) rows r after s e = go (follow h r row) refl (λ next. stands_run h some more (rows ++ row ∷ []) next after)
  where
    go : (o : Option Reading) → follow h r row ≡ o → ((next : Reading) → Stands h (rows ++ row ∷ []) next → run h next more ≡ Some after → Stands h ((rows ++ row ∷ []) ++ more) after) → Stands h (rows ++ row ∷ more) after
    go None f ih = let e0 = run_none h r row more f in let z : ◌≡◌ {A = ℕ} 0 1 = cc in absurd (omega arith)
    go (Some next) f ih =
        subst (λ l. Stands h l after) (append_assoc rows (row ∷ []) more) (ih next (stands_follow h some rows r next row s f) (sym (run_some h r next row more f) ∙ e))

-- such rows can be continued: a receive that is cut short may lead to state 0 at its other values
pub stands_mendable : (h : Head) (rows : List Row) (r : Reading) → HeadFits h → Stands h rows r → Mendable h rows
stands_mendable h rows r head (whole done spelt c) = ([], (done, record { head_fits = head; steps_fit = closed_fit h done r c; spelt = append-nil rows ∙ spelt }))
stands_mendable h rows r head (cut done before from channel tos p less is) =
    let zeros : List ℕ = replicate (h.range - length tos) 0 in
    let more = rows_from from (Receive channel) (length tos) zeros in
    let q = receiving_more h rows done before from channel tos zeros p (each_replicate (λ to. to < h.states) 0 head.some_state (h.range - length tos)) in
    let full = received h (rows ++ more) done before from channel (tos ++ zeros) q (omega (arith, length-append tos zeros, length-replicate {A = ℕ} (h.range - length tos) 0)) in
    (more, (done ++ receive_step from channel (tos ++ zeros) ∷ [], record { head_fits = head; steps_fit = closed_fit h _ _ full.1; spelt = full.0 }))
