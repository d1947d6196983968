use Rattle.std.proofs.Common.{arith, length, ◌≡◌, [], ℕ, ◌+◌, ◌<◌, List, get_or, drop, map, ap, ap₂, sym, ◌∙◌}
use Rattle.std.proofs.lemmas.List.{at_drop_more, get_or-map}
use Rattle.serde_json.specs.Data.{put}
use Rattle.serde_json.specs.View.{members_view}
use Rattle.rim_desc.specs.Numbers.{Number, in_order, rmm_1_0}
use Rattle.rim_desc.specs.declared.numbers.NumberRow.{NumberRow}
use Rattle.rim_desc.specs.declared.numbers.RealmNumbers.{RealmNumbers}
use Rattle.launch_json.specs.Items.{count}
use Rattle.rim_json.specs.ReportJson.{number_counts, with_counts}
use Rattle.rim_json.proofs.parameters.put_numbers.Goals as goal

no_row : Number
no_row = record { name = []; offset = 0; most = 0; value = λ n. 0 }

name_at : ℕ → List ℕ
name_at i = get_or (map (λ r. r.name) rmm_1_0) i []

-- the number of a row, by the name and the value at its place
field_of : (n : RealmNumbers) (i : ℕ) → i < length rmm_1_0 → get_or (number_counts n) i ([], 0) ≡ (name_at i, get_or (in_order n) i 0)
unfolding name_at
field_of n i below =
    get_or-map (λ r. (r.name, r.value n)) rmm_1_0 i no_row ([], 0) below
    ∙ ap (λ name. (name, (get_or rmm_1_0 i no_row).value n)) (sym (get_or-map (λ r. r.name) rmm_1_0 i no_row [] below))
    ∙ ap (λ x. (name_at i, x)) (sym (get_or-map (λ r. r.value n) rmm_1_0 i no_row 0 below))

pub loop-at-preserved : goal.loop-at-preserved
unfolding name_at
loop-at-preserved c =
    let i = c.loop-at.at in
    let fields = number_counts c.args.numbers.now in
    let few : i < length c.rows-rows.result = omega (arith, c.loop-at-test.true) in
    let name = sym (ap (λ ns. get_or ns i []) c.rows-rows.ensures.names) ∙ get_or-map (λ (r : NumberRow). r.name.now) c.rows-rows.result i _ [] few in
    let before = members_view c.loop-at.members.entries in
    let value : c.from.result ≡ get_or (in_order c.args.numbers.now) i 0 = c.from.ensures ∙ ap (λ ns. get_or ns i 0) c.in_order-values.ensures in
    let added = c.in_ok-put_count.ensures ∙ ap₂ (λ (n : List ℕ) (v : ℕ). put n (count v) before) (sym name) value in
    ap (λ ms. with_counts ms (drop (i + 1) fields)) added
    ∙ ap (λ (f : List ℕ × ℕ). with_counts (put f.0 (count f.1) before) (drop (i + 1) fields)) (sym (field_of c.args.numbers.now i c.loop-at-test.true))
    ∙ sym (at_drop_more (with_counts before) fields i ([], 0) c.loop-at-test.true) ∙ c.loop-at.invariant
