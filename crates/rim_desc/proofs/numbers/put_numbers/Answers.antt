use Rattle.std.proofs.Common.{arith, length, ◌≡◌, [], ◌∷◌, ℕ, ◌+◌, ◌<◌, get_or, drop, map, ap, sym, ◌∙◌}
use Rattle.std.proofs.lemmas.List.{at_drop_more, get_or-map}
use Rattle.rim_desc.specs.Page.{Field, byte, with_fields, with_part}
use Rattle.rim_desc.specs.Numbers.{Number, in_order, number_fields, rmm_1_0}
use Rattle.rim_desc.specs.declared.numbers.NumberRow.{NumberRow}
use Rattle.rim_desc.specs.declared.numbers.RealmNumbers.{RealmNumbers}
use Rattle.rim_desc.proofs.numbers.put_numbers.Goals as goal

no_row : Number
no_row = record { name = []; offset = 0; most = 0; value = λ n. 0 }

offset_at : ℕ → ℕ
offset_at i = get_or (map (λ r. r.offset) rmm_1_0) i 0

-- the field of a row, by the offset and the number at its place
field_of : (n : RealmNumbers) (i : ℕ) → i < length rmm_1_0 → get_or (number_fields n) i (byte 0 0) ≡ byte (offset_at i) (get_or (in_order n) i 0)
unfolding offset_at
field_of n i below =
    get_or-map (λ r. byte r.offset (r.value n)) rmm_1_0 i no_row (byte 0 0) below
    ∙ ap (λ at. byte at ((get_or rmm_1_0 i no_row).value n)) (sym (get_or-map (λ r. r.offset) rmm_1_0 i no_row 0 below))
    ∙ ap (λ x. byte (offset_at i) x) (sym (get_or-map (λ r. r.value n) rmm_1_0 i no_row 0 below))

pub loop-at-preserved : goal.loop-at-preserved
unfolding offset_at
loop-at-preserved c =
    let i = c.loop-at.at in
    let fields = number_fields c.args.numbers.now in
    let few : i < length c.rows-rows.result = omega (arith, c.loop-at-test.true) in
    let offset = sym (ap (λ ns. get_or ns i 0) c.rows-rows.ensures.offsets) ∙ get_or-map (λ (r : NumberRow). r.offset) c.rows-rows.result i _ 0 few in
    let put : c.put.new.page ≡ with_part c.loop-at.page (offset_at i) (get_or (in_order c.args.numbers.now) i 0 ∷ []) =
    c.put.ensures ∙ ap (λ at. with_part c.loop-at.page at (get_or c.in_order-values.result i 0 ∷ [])) (sym offset)
    ∙ ap (λ ns. with_part c.loop-at.page (offset_at i) (get_or ns i 0 ∷ [])) c.in_order-values.ensures in
    ap (λ page. with_fields page (drop (i + 1) fields)) put
    ∙ ap (λ (f : Field). with_fields (with_part c.loop-at.page f.at f.part) (drop (i + 1) fields)) (sym (field_of c.args.numbers.now i c.loop-at-test.true))
    ∙ sym (at_drop_more (with_fields c.loop-at.page) fields i (byte 0 0) c.loop-at-test.true) ∙ c.loop-at.invariant
