-- What a filtered range and a fold over a range give: how many numbers pass, and which one after others.
use Rattle.std.proofs.Common.{◌≡◌, ◌↔◌, ℕ, ◌+◌, ◌-◌, ◌<◌, ◌≤◌, Bool, true, false, MatchBool, List, [], ◌∷◌, length, Some, None, Option, Bor, refl, sym, ap, ◌∙◌, subst, arith}
use Rattle.std.proofs.iter.Yields.{nat_range_steps}
use Rattle.std.proofs.lemmas.Iterator.{first_from_Range, serves_from_Range}
use Rattle.std.specs.Fn.{Called, CalledAt, TakesAt}
use Rattle.std.specs.Iterator.{Yields, YieldsThen, Drains, FindsItem, CallableAtEachTurn}
use Rattle.std.specs.Iterator.Adapters.{filter_steps, filter_source, filter_callee}
use Rattle.std.specs.List.{FoldsTo}
use Rattle.std.specs.Option.{MatchOption}
use Rattle.std.specs.declared.iter.Filter.{Filter}
use Rattle.std.specs.declared.ops.Range.{Range}
use denote.Param.Members.{Mut, Shared}
use Rattle.choose.specs.Choice.{count, chosen}
use Rattle.choose.specs.Tests.{Callable, Decides}
use Rattle.choose.proofs.Laws.{count_sum, count_none, count_more, count_no_more, chosen_at, chosen_none}

-- a count stays where no number passes
pub count_stays : (p : ℕ → Bool) (m n : ℕ) → m ≤ n → ((j : ℕ) → m ≤ j → j < n → p j ≡ false) → count p n ≡ count p m
count_stays p m n l f =
    let whole : m + (n - m) ≡ n = omega arith in
    omega (arith, ap (count p) whole, count_sum p m (n - m), count_none (λ i. p (m + i)) (n - m) (λ j k. f (m + j) (omega arith) (omega arith)))

-- a test's calls: as the bound `Fn` has them in `test`, and as an iterator makes them in `g`
module _ {F : Type 0} (test : Shared F (Bor ℕ × Unit {0}) Bool) (g : Mut F (Bor ℕ × Unit {0}) Bool)
    (stays : (f : F) (a : Bor ℕ × Unit {0}) (r : Bool) (q : F) → Called g f a r q → q ≡ f) where
  -- an iterator over a range may make them
  pub callable_filter : (f : F) (bound : ℕ) (s : Range ℕ) (callee : F) → ((f : F) (a : Bor ℕ × Unit {0}) → test.pre f a → g.pre f a) → callee ≡ f → s ≡ record { start = 0; end = bound } → Callable test f bound
      → CallableAtEachTurn nat_range_steps (λ p x q. (r : Bool) × CalledAt g p x r q) (λ p x. TakesAt g p x) s callee
  callable_filter f bound s callee asks same range may =
      let end = ap (λ r. r.end) range in
      serves_from_Range (λ x q k. stays callee (k.1.shown, tt) k.0 q k.1.called) (λ x a b y e. asks callee (y, tt) (subst (λ f. test.pre f (y, tt)) (sym same) (may y (omega (arith, e, end)))))

  module _ (told : (f : F) (a : Bor ℕ × Unit {0}) (r : Bool) → test.post f a r ↔ ((q : F) × Called g f a r q))
      (f : F) (holds : ℕ → Bool) (bound : ℕ) (decides : Decides test f bound holds) where
    same_at : (x : ℕ) (r : Bool) (q : F) → CalledAt g f x r q → q ≡ f
    same_at x r q k = stays f (k.shown, tt) r q k.called

    decides_at : (x : ℕ) (r : Bool) (q : F) → CalledAt g f x r q → x < bound → holds x ≡ r
    decides_at x r q k l = ap holds (sym k.shows) ∙ sym (decides k.shown r (omega (arith, k.shows)) ((told f (k.shown, tt) r).1 (q, k.called)))

    -- what is found in a range is the first number there that passes
    first_found : (s u : Range ℕ) (r : Option ℕ) → FindsItem nat_range_steps g s f r u
        → MatchOption r ((k : ℕ) → s.start ≤ k → k < s.end → k < bound → holds k ≡ false) (λ i. (s.start ≤ i) × (i < s.end) × (i < bound → holds i ≡ true) × ((k : ℕ) → s.start ≤ k → k < i → k < bound → holds k ≡ false))
    first_found s u r d = first_from_Range s u f r (λ x. x < bound → holds x ≡ true) (λ x. x < bound → holds x ≡ false) d (λ x q k. decides_at x true q k) (λ x q k. (same_at x false q k, decides_at x false q k))

    -- where a filter stands: so many numbers have passed below its start
    record At (s : Filter (Range ℕ) F) (passed : ℕ) : Type 0 where
      callee : filter_callee s ≡ f
      end : (filter_source s).end ≡ bound
      within : (filter_source s).start ≤ bound
      counted : count holds (filter_source s).start ≡ passed

    same_end : (xs : List ℕ) (s t : Range ℕ) → Yields nat_range_steps s xs t → t.end ≡ s.end
    same_end [] s t y = ap (λ r. r.end) (sym y)
    same_end (x ∷ xs) s t (j, e, y) = same_end xs j t y ∙ e.0

    same_callee : (xs : List ℕ) (p q : F) → p ≡ f → FoldsTo (λ p x q. CalledAt g p x false q) p xs q → q ≡ f
    same_callee [] p q same c = sym c ∙ same
    same_callee (x ∷ xs) p q same (j, e, c) = same_callee xs j q (same_at x false j (subst (λ k. CalledAt g k x false j) same e)) c

    -- the next number that comes is the next that passes, so one more has passed
    passes : (s t : Filter (Range ℕ) F) (n x : ℕ) → At s n → filter_steps nat_range_steps g s (Some x) t → At t (n + 1)
    passes s t n x at (xs, j, y, c, called) =
        let is = same_callee xs (filter_callee s) j at.callee c in
        let found = first_found (filter_source s) (filter_source t) (Some x) (xs, j, y, subst (λ k. FoldsTo (λ p x q. CalledAt g p x false q) k xs j) at.callee c, (filter_callee t, called)) in
        let below : x < bound = omega (arith, found.1, at.end) in
        let after : count holds x ≡ n = count_stays holds (filter_source s).start x found.0 (λ k a b. found.3 k a b (omega (arith, below))) ∙ at.counted in
        let next : (filter_source t).start ≡ x + 1 = omega (arith, y.2.1.1, y.2.1.2) in
        record {
          callee = same_at x true (filter_callee t) (subst (λ k. CalledAt g k x true (filter_callee t)) is called);
          end = y.2.0 ∙ same_end xs (filter_source s) y.0 y.1 ∙ at.end;
          within = omega (arith, next, below);
          counted = ap (count holds) next ∙ count_more holds x (found.2 below) ∙ ap (λ k. k + 1) after;
        }

    -- where none comes any more, none passes
    ends : (s t : Filter (Range ℕ) F) (n : ℕ) → At s n → filter_steps nat_range_steps g s None t → count holds bound ≡ n
    ends s t n at (xs, j, y, c, called) =
        let found = first_found (filter_source s) (filter_source t) None (xs, j, y, subst (λ k. FoldsTo (λ p x q. CalledAt g p x false q) k xs j) at.callee c, tt) in
        count_stays holds (filter_source s).start bound at.within (λ k a b. found k a (omega (arith, at.end)) b) ∙ at.counted

    more : (xs : List ℕ) (s t : Filter (Range ℕ) F) (n : ℕ) → At s n → Yields (filter_steps nat_range_steps g) s xs t → At t (n + length xs)
    more [] s t n at y = subst (λ k. At k (n + 0)) y (subst (At s) (omega arith) at)
    more (x ∷ xs) s t n at (j, e, y) =
        subst (At t) (omega arith) (more xs j t (n + 1) (passes s j n x at e) y)

    module _ (s : Filter (Range ℕ) F) (callee : filter_callee s ≡ f) (source : filter_source s ≡ record { start = 0; end = bound }) where
      stood : (xs : List ℕ) (t : Filter (Range ℕ) F) → Yields (filter_steps nat_range_steps g) s xs t → At t (length xs)
      stood xs t y =
          let begins : At s 0 = record { callee = callee; end = ap (λ r. r.end) source; within = omega (arith, ap (λ r. r.start) source); counted = ap (λ r. count holds r.start) source } in
          subst (At t) (omega arith) (more xs s t 0 begins y)

      -- so many come as pass
      pub counted_filter : (xs : List ℕ) → Drains (filter_steps nat_range_steps g) s xs → length xs ≡ count holds bound
      counted_filter xs d = sym (ends d.1.0 d.0 (length xs) (stood xs d.1.0 d.1.1) d.1.2)

    -- the first that is found is the one that is chosen after none
    pub chosen_find : (s u : Range ℕ) (r : Option ℕ) → s.start ≡ 0 → s.end ≡ bound → FindsItem nat_range_steps g s f r u → r ≡ chosen holds bound 0
    chosen_find s u None start end d =
        let found = first_found s u None d in
        sym (chosen_none holds bound 0 (omega (arith, count_none holds bound (λ j l. found j (omega arith) (omega arith) l))))
    chosen_find s u (Some x) start end d =
        let found = first_found s u (Some x) d in
        let below : x < bound = omega (arith, found.1) in
        sym (chosen_at holds bound 0 x (record { below = below; passes = found.2 below; after = count_none holds x (λ j l. found.3 j (omega arith) l (omega arith)) }))

-- A fold over the numbers that takes one from what is left at each that passes, until one passes
-- and nothing is left. Of its turns only this much is known.
module _ {F : Type 0} (f : F) (holds : ℕ → Bool) (bound k : ℕ) (turn : F × ℕ → ℕ → F × ℕ → Type 0)
    (tells : (left x : ℕ) (q : F × ℕ) → turn (f, left) x q → (q.0 ≡ f) × MatchBool (holds x) (left ≡ q.1 + 1) (q.1 ≡ left)) where
  -- where it stands: what has passed and what is left are k together
  record Left (s : Range ℕ) (left : ℕ) : Type 0 where
    end : s.end ≡ bound
    within : s.start ≤ bound
    counted : count holds s.start + left ≡ k

  counted_next : (x left next : ℕ) → count holds x + left ≡ k → MatchBool (holds x) (left ≡ next + 1) (next ≡ left) → count holds (x + 1) + next ≡ k
  counted_next x left next e m = go (holds x) refl m where
    go : (b : Bool) → holds x ≡ b → MatchBool b (left ≡ next + 1) (next ≡ left) → count holds (x + 1) + next ≡ k
    go true p m = omega (arith, count_more holds x p, e, m)
    go false p m = omega (arith, count_no_more holds x p, e, m)

  left_next : (s t : Range ℕ) (x left next : ℕ) → Left s left → nat_range_steps s (Some x) t → MatchBool (holds x) (left ≡ next + 1) (next ≡ left) → Left t next
  left_next s t x left next at y m =
      let start : t.start ≡ x + 1 = omega (arith, y.1.1, y.1.2) in
      record {
        end = y.0 ∙ at.end;
        within = omega (arith, start, y.1.0, y.1.1, at.end);
        counted = ap (λ n. count holds n + next) start ∙ counted_next x left next (ap (λ n. count holds n + left) y.1.1 ∙ at.counted) m;
      }

  left_after : (xs : List ℕ) (s t : Range ℕ) (left : ℕ) (q : F × ℕ) → Left s left → Yields nat_range_steps s xs t → FoldsTo turn (f, left) xs q → (q.0 ≡ f) × Left t q.1
  left_after [] s t left q at y turns =
      (ap (λ p. p.0) (sym turns), subst (λ s. Left s q.1) y (subst (λ p. Left s p.1) turns at))
  left_after (x ∷ xs) s t left q at (j, e, y) (p, called, turns) =
      let told = tells left x p called in
      left_after xs j t p.1 q (left_next s j x left p.1 at e told.1) y (subst (λ h. FoldsTo turn (h, p.1) xs q) told.0 turns)

  -- the number at which the fold breaks off is the one that is chosen; where it never does, none is
  pub chosen_fold : (xs : List ℕ) (o : Option ℕ) (q : F × ℕ) (u : Range ℕ) (r : Option ℕ) → YieldsThen nat_range_steps (record { start = 0; end = bound }) xs o u → FoldsTo turn (f, k) xs q
      → MatchOption o (r ≡ None) (λ x. q.0 ≡ f → (holds x ≡ true) × (q.1 ≡ 0) × (r ≡ Some x)) → r ≡ chosen holds bound k
  chosen_fold xs o q u r (t, y, step) turns ends =
      let after = left_after xs (record { start = 0; end = bound }) t k q (record { end = refl; within = omega arith; counted = omega arith }) y turns in
      go o step ends after.0 after.1 where
        go : (o : Option ℕ) → nat_range_steps t o u → MatchOption o (r ≡ None) (λ x. q.0 ≡ f → (holds x ≡ true) × (q.1 ≡ 0) × (r ≡ Some x)) → q.0 ≡ f → Left t q.1 → r ≡ chosen holds bound k
        go None step none same at =
            let end : t.start ≡ bound = omega (arith, step.1.0, at.end, at.within) in
            none ∙ sym (chosen_none holds bound k (omega (arith, ap (count holds) end, at.counted)))
        go (Some x) step found same at =
            let told = found same in
            let below : x < bound = omega (arith, step.1.0, step.1.1, at.end) in
            told.2 ∙ sym (chosen_at holds bound k x (record { below = below; passes = told.0; after = omega (arith, ap (count holds) step.1.1, at.counted, told.1) }))

-- what follows in each case, follows of the match
pub matches_so : {A : Type 0} {N M : Type 0} {S T : A → Type 0} (o : Option A) → (N → M) → ((x : A) → S x → T x) → MatchOption o N S → MatchOption o M T
matches_so None none some m = none m
matches_so (Some x) none some m = some x m
