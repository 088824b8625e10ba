-- Reading a table row by row: what the check does. That it answers as it should is what the check's
-- contract says, by `Checked`, which knows nothing of this reading.
use Rattle.std.specs.Prelude.{ℕ, suc, max, Bool, cond, ◌&&◌, List, [], ◌∷◌, Some, None, Ok, Err, Option, Result, ◌==◌, nat_le, nat_lt}
use Rattle.table.specs.declared.fault.Fault.{Fault}
use Rattle.table.specs.declared.fault.Fault.TheVariants.{Row as BadRow}
use Rattle.table.specs.declared.reading.Reading.{Reading}
use Rattle.table.specs.declared.reading.Receiving.{Receiving}
use Rattle.table.specs.declared.row.Head.{Head}
use Rattle.table.specs.declared.row.Row.{Row}

-- before the first row
abbrev pub unread : Reading
unread = record { from = 0; steps = 0; receive = None; widest = 0 }

-- whether the number of states, the range and the root are within their bounds
abbrev pub head_fits : Head → Bool
head_fits h = nat_le 1 h.states && (nat_le h.states 65536 && (nat_le 1 h.range && (nat_le h.range 32 && nat_lt h.root h.states)))

-- whether a row may begin a step: silent with channel and value 0, a send, or a receive at value 0
abbrev pub may_begin : Head → Row → Bool
may_begin h row =
    cond (row.kind == 0) (row.channel == 0 && row.value == 0)
    (cond (row.kind == 1) (nat_lt row.channel 64 && nat_lt row.value h.range)
    (row.kind == 2 && (nat_lt row.channel 64 && row.value == 0)))

-- how many steps of the row's state have begun before it
abbrev pub begun : Reading → Row → ℕ
begun r row = cond (row.from == r.from) r.steps 0

-- what is left of a receive on a channel after its row for a value: nothing where that was the last
abbrev pub receive_after : Head → ℕ → ℕ → Option Receiving
receive_after h channel v = cond (nat_lt (suc v) h.range) (Some (record { channel = channel; next = suc v })) None

-- a row that begins a step
abbrev pub begin_step : Head → Reading → Row → Option Reading
begin_step h r row =
    cond (nat_le r.from row.from && (nat_lt (begun r row) 64 && may_begin h row))
    (Some (record {
      from = row.from;
      steps = suc (begun r row);
      receive = cond (row.kind == 2) (receive_after h row.channel 0) None;
      widest = max r.widest (suc (begun r row));
    }))
    None

-- a row within a receive
abbrev pub continue_receive : Head → Reading → Receiving → Row → Option Reading
continue_receive h r receive row =
    cond (row.from == r.from && (row.kind == 2 && (row.channel == receive.channel && row.value == receive.next)))
    (Some (record {
      from = r.from;
      steps = r.steps;
      receive = receive_after h receive.channel receive.next;
      widest = r.widest;
    }))
    None

-- a row after a reading, by the receive that is being read
abbrev pub follow_in : Head → Reading → Row → Option Receiving → Option Reading
follow_in h r row None = begin_step h r row
follow_in h r row (Some receive) = continue_receive h r receive row

-- the next row, if it can follow
abbrev pub follow : Head → Reading → Row → Option Reading
follow h r row =
    cond (nat_lt row.from h.states && nat_lt row.to h.states)
    (follow_in h r row r.receive)
    None

-- the answer at the end: the width, or the last row where a receive is cut short
abbrev pub answer_at : ℕ → ℕ → Option Receiving → Result ℕ Fault
answer_at widest n None = Ok widest
answer_at widest n (Some receive) = Err (BadRow n)

-- the rows from row n on: the width, or the first row that can't follow, or the last within a receive
abbrev pub read_on : Head → Reading → ℕ → List Row → Result ℕ Fault
read_on h r n [] = answer_at r.widest n r.receive
read_on h r n (row ∷ rows) = elim (follow h r row) [ None ↦ Err (BadRow (suc n)) | Some after ↦ read_on h after (suc n) rows ]

-- a whole table under a head that fits
abbrev pub read_table : Head → List Row → Result ℕ Fault
read_table h rows = read_on h unread 0 rows
