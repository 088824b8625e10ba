-- A text is gone through line by line: each line comes with how many have come before it.
use Rattle.std.proofs.Common.{◌≡◌, ℕ, ◌+◌, ◌<◌, List, length, Some, refl, ap, ◌∙◌, arith, Bor}
use Rattle.std.proofs.lemmas.Iterator.{YieldsList}
use Rattle.std.proofs.lemmas.Iterator.Consumers.{YieldsList-from_enumerate, YieldsList-turn}
use Rattle.std.proofs.lemmas.Iterator.Splits.{YieldsList-from_lines}
use Rattle.std.proofs.lemmas.List.FromFn.{length-enumerate_from, get_or-enumerate_from}
use Rattle.std.specs.Iterator.{Yields}
use Rattle.std.specs.Iterator.Adapters.{enumerate_source, enumerate_count, enumerate_steps}
use Rattle.std.specs.List.{enumerate_from}
use Rattle.std.specs.Str.Iter.{lines_steps, lines_rest}
use Rattle.std.specs.Str.Lines.{lines}
use Rattle.std.specs.declared.iter.Enumerate.{Enumerate}
use Rattle.std.specs.declared.str.Lines.{Lines}

module _ (text : List ℕ) (s : Enumerate Lines) (rest : lines_rest (enumerate_source s) ≡ text) (none : enumerate_count s ≡ 0) (come : List (ℕ × Bor (List ℕ))) (t : Enumerate Lines) (yields : Yields (enumerate_steps lines_steps) s come t) (u : Enumerate Lines) where
  numbered : YieldsList (enumerate_steps lines_steps) (λ p. (p.0, p.1.now)) s (enumerate_from 0 (lines text))
  numbered = YieldsList-from_enumerate (YieldsList-from_lines text rest) none

  pub line_comes : (x : ℕ × Bor (List ℕ)) → enumerate_steps lines_steps t (Some x) u → (x.0 ≡ length come) × (length come < length (lines text))
  line_comes x step =
      let turn = YieldsList-turn numbered come t yields (Some x) u x refl step in
      let within : length come < length (lines text) = omega (arith, turn.0, length-enumerate_from 0 (lines text)) in
      let same : x.0 ≡ 0 + length come = ap (λ p. p.0) (turn.1 ∙ get_or-enumerate_from 0 (lines text) (length come) (x.0, x.1.now) within) in
      (omega (arith, same), within)
