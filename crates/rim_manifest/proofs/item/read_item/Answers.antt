use Rattle.std.proofs.Common.{◌<◌, ◌^◌, ◌∙◌, codes, ap, subst, sym}
use Rattle.std.specs.Prelude.{unwrap_or}
use Rattle.toml.specs.Data.{get}
use Rattle.toml.specs.View.{view}
use Rattle.rim_launch.specs.Whole.{is_whole}
use Rattle.rim_rules.specs.Items.{is_whole_for, item_of, kind_of, measured_for, size_for, size_within}
use Rattle.rim_rules.specs.Names.{role_at}
use Rattle.rim_rules.specs.inside.NumberRanges.{number_low}
use Rattle.rim_manifest.proofs.SameItem.{same_item}
use Rattle.rim_manifest.proofs.item.read_item.Goals as goal

pub invariant_of-result : goal.invariant_of-result
invariant_of-result c =
    let d = view c.args.table.now in
    let size = c.size_for.ensures ∙ ap (λ r. size_for r (get (codes "size") d)) c.role-purpose.ensures in
    let measured = c.measured_for.ensures ∙ ap (λ r. measured_for r (get (codes "measured") d)) c.role-purpose.ensures in
    record {
      low = subst (λ n. n < 2 ^ 63) (sym c.number.ensures) (number_low (get (codes "at") d));
      size_low = subst (λ s. unwrap_or s 0 < 2 ^ 63) (sym size) (size_within (role_at d) (get (codes "size") d));
      whole =
          (λ i. is_whole (c.in_ok-kind.ensures i) (size i) (measured i))
          ∙ is_whole_for (role_at d) c.file_number.result d (get (codes "size") d) (get (codes "measured") d);
    }

pub returns : goal.returns
unfolding item_of
returns c =
    let d = view c.args.table.now in
    same_item _ _ (c.in_ok-kind.ensures ∙ ap (λ file. kind_of (role_at d) file d) c.file_number.ensures) c.number.ensures
    (c.size_for.ensures ∙ ap (λ r. size_for r (get (codes "size") d)) c.role-purpose.ensures)
    (c.measured_for.ensures ∙ ap (λ r. measured_for r (get (codes "measured") d)) c.role-purpose.ensures)
