use Rattle.std.proofs.Common.{◌≡◌, ◌∙◌, inl, inr, false, true, List, Some, ap, arith, map, set, subst, sym}
use Rattle.std.specs.Option.{option_map}
use Rattle.std.specs.Vec.{with_items}
use Rattle.std.specs.List.{slice_get}
use Rattle.std.proofs.Math.Seq.{map-set_same}
use Rattle.std.proofs.lemmas.Bool.{cases_Bool}
use Rattle.std.proofs.lemmas.List.{map-set, with_items_is}
use Rattle.std.proofs.lemmas.Option.{slice_get-get_or, slice_get-map}
use Rattle.rim_chain.specs.SharedPrefixes.{AreShared, IsKept, IsPutAmong}
use Rattle.launch_plan.specs.declared.prefix.Checkpoint.{Checkpoint}
use Rattle.rim_chain.proofs.KnownPrefixes.{shared-kept}
use Rattle.rim_chain.proofs.shared_prefixes.SharedPrefixes.keep.Goals as goal

pub returns : goal.returns
returns c =
    let old = c.self.inside.checkpoints.items in
    let n = c.args.number in
    let own = c.index_mut.result.now in
    let kept : List Checkpoint = c.put_value.new.checkpoints in
    let lists : List (List Checkpoint) = map (λ v. v.items) old in
    let new : List (List Checkpoint) = map (λ v. v.items) (set old n (with_items own kept)) in
    let written : (with_items own kept).items ≡ kept = with_items_is own kept (c.put_value.auto.checkpoints ∙ c.as_mut_slice.ensures.len) in
    let there : slice_get lists n ≡ Some own.items =
    slice_get-map (λ v. v.items) old n ∙ (ap (option_map (λ v. v.items)) (slice_get-get_or old n own (omega (arith, c.if-number-len.false, c.len.ensures))) ∙ ap (λ v. Some v.items) (sym c.index_mut.ensures.value)) in
    let put : c.put_value.result ≡ true → IsKept lists n c.args.prefix new = λ yes. record {
      own = own.items;
      kept = kept;
      before = there;
      put = subst (λ (m : List Checkpoint). IsPutAmong m c.args.prefix kept) c.as_mut_slice.ensures.value (c.put_value.ensures.put yes);
      after = map-set (λ v. v.items) old n (with_items own kept) ∙ ap (set lists n) written;
    } in
    let same : c.put_value.result ≡ false → new ≡ lists = λ no.
    map-set_same (λ v. v.items) old n (with_items own kept) own (written ∙ (c.put_value.ensures.same no ∙ (c.as_mut_slice.ensures.value ∙ ap (λ v. v.items) c.index_mut.ensures.value))) in
    record {
      kept = λ yes. subst (λ (m : List (List Checkpoint)). IsKept m n c.args.prefix new) c.self.view_is (put yes);
      same = λ no. same no ∙ c.self.view_is;
      shared = λ t ps prefix shared.
          let first : AreShared t ps lists = subst (AreShared t ps) (sym c.self.view_is) shared in
          elim (cases_Bool c.put_value.result) [
            | inl is ↦ shared-kept t ps lists new n c.args.prefix (put is) prefix first
            | inr not ↦ subst (AreShared t ps) (sym (same not)) first
          ];
    }
