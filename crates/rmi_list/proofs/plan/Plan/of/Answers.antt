use Rattle.std.proofs.Common.{◌∙◌, List, ap, arith, sym}
use Rattle.ipa_layout.specs.declared.rec.PlacedRec.{PlacedRec}
use Rattle.rim_desc.specs.declared.realm.RealmParams.{RealmParams}
use Rattle.rim_launch.specs.Realm.{realm_params}
use Rattle.rmi_list.proofs.CommandsOfSpans.{few-of}
use Rattle.rmi_list.specs.inside.Spans.{entries_of}
use Rattle.rmi_list.proofs.plan.Plan.of.Goals as goal

pub number-requires : goal.number-requires
number-requires c =
    let d = c.args.draft in
    rw c.deref.ensures.value (omega (arith, d.spans.ok, d.spans.small, c.requires.few, few-of (realm_params d.config) d.config.num_aux d.placed.now.recs d.spans.items))

pub invariant_of-result : goal.invariant_of-result
invariant_of-result c =
    record {
      pool = rw c.realm_params.ensures c.args.draft.launch.now.config.pool_low;
      aux = c.args.draft.config.aux;
      few = rw (c.in_ok-from_slice.ensures.items, c.recs.ensures) c.requires.recs;
      starts = rw c.deref.ensures.value at c.in_ok-starts.ensures;
      spans = c.requires.spans;
    }

pub returns : goal.returns
returns c =
    let d = c.args.draft in
    ap (λ (p : RealmParams). entries_of p d.config.num_aux c.in_ok-from_slice.field-0.items d.spans.items)
    (c.realm_params.ensures ∙ ap realm_params (sym c.requires.config))
    ∙ ap (λ (recs : List PlacedRec). entries_of (realm_params d.config) d.config.num_aux recs d.spans.items)
    (c.in_ok-from_slice.ensures.items ∙ c.recs.ensures)
