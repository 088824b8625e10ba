-- Labels: when two are equal, how many values one has, and which ones a source may show.
use Rattle.std.specs.Prelude.{ℕ, ◌<◌, Bool, true, false, ◌&&◌, List, ◌++◌, codes, decimal, ◌==◌}
use Rattle.source.specs.declared.label.Label.{Label}
use Rattle.source.specs.declared.label.Label.TheVariants.{Silent, Send, Receive}

-- whether two labels are equal; that this is equality of the terms is what `same_label` ensures
abbrev pub same_label : Label → Label → Bool
same_label Silent Silent = true
same_label Silent (Send c v) = false
same_label Silent (Receive c) = false
same_label (Send c v) Silent = false
same_label (Send c v) (Send d w) = c == d && v == w
same_label (Send c v) (Receive d) = false
same_label (Receive c) Silent = false
same_label (Receive c) (Send d w) = false
same_label (Receive c) (Receive d) = c == d

-- how many values a step with this label has at a range: a receive takes any value of the range, any other step has the one value 0
abbrev pub value_count : ℕ → Label → ℕ
value_count range Silent = 1
value_count range (Send c v) = 1
value_count range (Receive c) = range

-- what a label owes at a range: channels are 0 to 63, and a sent value is a value of the range
abbrev pub Fits : ℕ → Label → Type 0
Fits range Silent = Unit {0}
Fits range (Send c v) = (c < 64) × (v < range)
Fits range (Receive c) = c < 64

-- whether a label is a receive
abbrev pub is_receive : Label → Bool
is_receive Silent = false
is_receive (Send c v) = false
is_receive (Receive c) = true

-- what is printed of a label
abbrev pub label_text : Label → List ℕ
label_text Silent = codes "silent"
label_text (Send c v) = codes "send " ++ (decimal v ++ (codes " on channel " ++ decimal c))
label_text (Receive c) = codes "receive on channel " ++ decimal c
