-- Each number has a mark exactly where steps name it, once.
use Rattle.std.proofs.Common.{◌≡◌, ℕ, zero, suc, ◌+◌, ◌<◌, ◌≤◌, Bool, true, false, cond, eqb, List, [], ◌∷◌, length, get_or, take, drop, replicate, Option}
use Rattle.std.proofs.Common.{Some, refl, sym, ap, ◌∙◌, arith}
use Rattle.std.specs.Prelude.{◌==◌, count_by}
use Rattle.std.specs.List.{list_all, range_with_len}
use Rattle.std.proofs.lemmas.Bool.{eq-eqb, ne_eqb}
use Rattle.std.proofs.lemmas.List.{get_or-replicate, take-append-drop}
use Rattle.std.proofs.lemmas.List.Folds.{list_all_at}
use Rattle.std.proofs.lemmas.List.FromFn.{get_or-range_with_len, length-range_with_len}
use Rattle.std.proofs.lemmas.List.Sums.{count_by_more_yes, sum_by-append}
use Rattle.rim_launch.specs.declared.step.Step.{Step}
use Rattle.rim_launch.specs.declared.conditions.StepTarget.{StepTarget}
use Rattle.rim_launch.specs.Steps.{number_of, is_number, names, times, each_once}
use Rattle.rim_launch.specs.inside.StepViews.{AreMarks}

count_in : {X : Type 0} (t : X → Bool) (n : ℕ) (xs : List X) → count_by t (take n xs) ≤ count_by t xs
count_in t n xs = omega (arith, ap (count_by t) (sym (take-append-drop n xs)), sum_by-append (λ x. cond (t x) 1 0) (take n xs) (drop n xs))

module _ (target : StepTarget) (count : ℕ) (steps : List Step) (named : List Bool) (i : ℕ) (step : Step)
    (inside : i < length steps) (is : step ≡ get_or steps i step) (marks : AreMarks target count (take i steps) named) where
  here : (k : ℕ) (o : Option ℕ) → number_of target step ≡ o → names target k (get_or steps i step) ≡ is_number k o
  here k o e = ap (λ (s : Step). names target k s) (sym is) ∙ ap (is_number k) e

  -- a number that had one
  pub named_twice : (n : ℕ) → number_of target step ≡ Some n → n < count → get_or named n false ≡ true → each_once target steps count ≡ false
  unfolding each_once
  named_twice n e low mark =
      let before : times target n (take i steps) ≡ 1 = marks n low ∙ ap (λ (b : Bool). cond b 1 0) mark in
      let yes : names target n (get_or steps i step) ≡ true = here n (Some n) e ∙ eq-eqb n n refl in
      let more : times target n (take (i + 1) steps) ≡ times target n (take i steps) + 1 =
      count_by_more_yes (names target n) steps i step inside yes in
      let whole : times target n (take (i + 1) steps) ≤ times target n steps = count_in (names target n) (i + 1) steps in
      let other : (times target n steps == 1) ≡ false = ne_eqb _ _ (λ one. omega (arith, before, more, whole, one)) in
      let at : get_or (range_with_len 0 count) n 0 ≡ n = get_or-range_with_len 0 count n 0 low ∙ omega arith in
      let within : n < length (range_with_len 0 count) = omega (arith, length-range_with_len 0 count) in
      list_all_at (λ k. times target k steps == 1) (range_with_len 0 count) n 0 within (ap (λ (m : ℕ). times target m steps == 1) at ∙ other)

-- marks that say what a test says of the numbers from one on
pointwise : (test : ℕ → Bool) (marks : List Bool) (from count : ℕ) → count ≤ length marks
    → ((k : ℕ) → k < count → get_or marks k false ≡ test (from + k)) → list_all (λ b. b) (take count marks) ≡ list_all test (range_with_len from count)
pointwise test marks from zero room same = refl
pointwise test [] from (suc count) room same = absurd (omega arith)
pointwise test (mark ∷ marks) from (suc count) room same =
    let first : mark ≡ test from = same 0 (omega arith) ∙ ap test (omega arith) in
    let rest = pointwise test marks (from + 1) count (omega arith) (λ k low. same (suc k) (omega arith) ∙ ap test (omega arith)) in
    rw (first, rest) refl

-- at the end each number has a mark where each was named once
pub all_marked : (target : StepTarget) (count : ℕ) (steps : List Step) (named : List Bool) → count ≤ length named
    → AreMarks target count steps named → list_all (λ b. b) (take count named) ≡ each_once target steps count
unfolding each_once
all_marked target count steps named room marks = pointwise (λ k. times target k steps == 1) named 0 count room (λ k low.
    one (get_or named k false) ∙ ap (λ (m : ℕ). m == 1) (sym (marks k low)) ∙ ap (λ (m : ℕ). times target m steps == 1) (from_zero k))
  where
    from_zero : (k : ℕ) → k ≡ 0 + k
    from_zero k = omega arith

    one : (b : Bool) → b ≡ (cond b 1 0 == 1)
    one true = refl
    one false = refl

-- before the first step
pub no_marks : (target : StepTarget) (count : ℕ) → count ≤ 1024 → AreMarks target count [] (replicate 1024 false)
no_marks target count le k low = ap (λ (b : Bool). cond b 1 0) (sym (get_or-replicate 1024 k false false (omega arith)))
