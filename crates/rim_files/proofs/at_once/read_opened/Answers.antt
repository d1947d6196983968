use Rattle.std.proofs.Common.{rules, ◌≡◌, ℕ, Vec, Global, length, map, vec_len, ◌<◌, [], ◌∷◌, ◌++◌, ap, ◌∙◌, sym, subst, arith}
use Rattle.std.proofs.lemmas.List.{map-append}
use Rattle.std.specs.Vec.Iter.{into_iter_items}
use Rattle.rim_files.specs.AtOnce.{AreFollowedBy, IsUnknown}
use Rattle.rim_files.proofs.AtOnce.{IsAnswer, all_answered, fails_unknown, first_fails, no_items, no_memory, none_follows, read_first, read_unknown}
use Rattle.rim_files.proofs.at_once.read_opened.Goals as goal

pub returns-then-is_empty-clause-read : goal.returns-then-is_empty-clause-read
returns-then-is_empty-clause-read g c =
    let none : length c.args.opened.items ≡ 0 = search rules in
    λ held paths before. none_follows IsUnknown held paths _ _ (no_items c.args.opened.items none) before

pub returns-in_default-clause-fault : goal.returns-in_default-clause-fault
returns-in_default-clause-fault g c =
    let some : 0 < length c.args.opened.items = search rules in
    λ held paths before. no_memory IsUnknown held paths _ c.args.opened.items some before

pub loop-outcome-init : goal.loop-outcome-init
loop-outcome-init g c =
    let gives = c.into_iter-outcome-iterator.ensures.into_iter_gives in
    let outcomes : length c.in-Ok.outcomes.items ≡ vec_len c.in-Ok.outcomes = search rules in
    let opened : length c.args.opened.items ≡ vec_len c.args.opened = search rules in
    record {
      long = gives.1 ∙ sym outcomes ∙ ap length (sym gives.0);
      read = λ held paths before. subst (AreFollowedBy (IsAnswer (λ file. file.items)) held paths _) (sym gives.0)
          (all_answered (λ file. file.items) held paths _ c.args.opened.items c.in-Ok.outcomes.items before (outcomes ∙ c.in-Ok.ensures.count ∙ sym opened)
          c.in-Ok.ensures.each);
    }

pub returns-then-is_err-clause-fault : goal.returns-then-is_err-clause-fault
returns-then-is_err-clause-fault g c =
    let steps : into_iter_items c.loop-outcome.outcome-iterator ≡ c.in-Some.outcome ∷ into_iter_items c.next.new.self = c.in-Some.ensures.steps.0 in
    λ held paths before.
    let now = c.loop-outcome.invariant.read held paths before in
    let some : 0 < length (into_iter_items c.loop-outcome.outcome-iterator) = omega (arith, ap length steps) in
    no_memory (IsAnswer (λ file. file.items)) held paths _ _ some now

pub loop-outcome-preserved : goal.loop-outcome-preserved
loop-outcome-preserved g c =
    let steps : into_iter_items c.loop-outcome.outcome-iterator ≡ c.in-Some.outcome ∷ into_iter_items c.next.new.self = c.in-Some.ensures.steps.0 in
    let pushed : c.push.new.self.items ≡ c.loop-outcome.files.items ++ c.in-Ok-outcome.bytes ∷ [] = search rules in
    record {
      long =
          let was = c.loop-outcome.invariant.long in
          let gone = c.in-Some.ensures.steps.1 in
          let short = ap length steps in
          omega arith;
      read = λ held paths before.
          let now = subst (AreFollowedBy (IsAnswer (λ file. file.items)) held paths _) steps (c.loop-outcome.invariant.read held paths before) in
          let read = read_first (IsAnswer (λ file. file.items)) held paths _ c.in-Some.outcome _ c.in-Ok-outcome.bytes.items
          (λ known is. read_unknown (λ file. file.items) known c.in-Ok-outcome.bytes (subst (IsAnswer (λ file. file.items) known) c.in-Ok-outcome.is is)) now in
          subst (λ files. AreFollowedBy (IsAnswer (λ file. file.items)) held paths files (into_iter_items c.next.new.self))
          (sym (ap (map (λ file. file.items)) pushed ∙ map-append (λ file. file.items) c.loop-outcome.files.items (c.in-Ok-outcome.bytes ∷ []))) read;
    }

pub returns-in-Err-clause-fault : goal.returns-in-Err-clause-fault
returns-in-Err-clause-fault g c =
    let steps : into_iter_items c.loop-outcome.outcome-iterator ≡ c.in-Some.outcome ∷ into_iter_items c.next.new.self = c.in-Some.ensures.steps.0 in
    λ held paths before.
    let now = subst (AreFollowedBy (IsAnswer (λ file. file.items)) held paths _) steps (c.loop-outcome.invariant.read held paths before) in
    first_fails (IsAnswer (λ file. file.items)) held paths _ c.in-Some.outcome _ c.in-Err.fault
    (λ known is. fails_unknown (λ (file : Vec ℕ Global). file.items) known c.in-Err.fault (subst (IsAnswer (λ file. file.items) known) c.in-Err.is is)) now

pub returns-clause-read : goal.returns-clause-read
returns-clause-read g c =
    let none = c.in-None.ensures.steps in
    let empty : into_iter_items c.loop-outcome.outcome-iterator ≡ [] = no_items _ (sym c.loop-outcome.invariant.long ∙ none.0) in
    λ held paths before. none_follows (IsAnswer (λ file. file.items)) held paths _ _ empty (c.loop-outcome.invariant.read held paths before)
