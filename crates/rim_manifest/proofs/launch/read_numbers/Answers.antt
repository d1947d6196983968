use Rattle.std.proofs.Common.{◌≡◌, ◌<◌, ◌++◌, ℕ, List, [], ◌∷◌, get_or, length, map, take, ap, sym, ◌∙◌, arith}
use Rattle.std.proofs.lemmas.List.{get_or-map, length-set, take_more, take_more_set}
use Rattle.toml.specs.Data.{Data, get}
use Rattle.toml.specs.View.{view}
use Rattle.rim_desc.specs.Numbers.{Number, rmm_1_0}
use Rattle.rim_desc.specs.declared.numbers.NumberRow.{NumberRow}
use Rattle.rim_rules.specs.Values.{number_in}
use Rattle.rim_manifest.specs.Launches.{number_of}
use Rattle.rim_manifest.proofs.launch.read_numbers.Goals as goal

no_row : Number
no_row = record { name = []; offset = 0; most = 0; value = λ n. 0 }

-- what is read of a row, by the name and the highest value at its place
number_at : (d : Data) (i : ℕ) → i < length rmm_1_0
    → get_or (map (number_of d) rmm_1_0) i 0 ≡ number_in 0 (get_or (map (λ r. r.most) rmm_1_0) i 0) 0 (get (get_or (map (λ r. r.name) rmm_1_0) i []) d)
number_at d i below =
    get_or-map (number_of d) rmm_1_0 i no_row 0 below
    ∙ ap (λ most. number_in 0 most 0 (get (get_or rmm_1_0 i no_row).name d)) (sym (get_or-map (λ r. r.most) rmm_1_0 i no_row 0 below))
    ∙ ap (λ name. number_in 0 (get_or (map (λ r. r.most) rmm_1_0) i 0) 0 (get name d)) (sym (get_or-map (λ r. r.name) rmm_1_0 i no_row [] below))

read_of : (d : Data) (row : NumberRow) (name : List ℕ) (most : ℕ) → row.name.now ≡ name → row.most ≡ most
    → (n : ℕ) → n ≡ number_in 0 row.most 0 (get row.name.now d) → n ≡ number_in 0 most 0 (get name d)
read_of d row name most named highest n read =
    read ∙ ap (λ m. number_in 0 m 0 (get row.name.now d)) highest ∙ ap (λ k. number_in 0 most 0 (get k d)) named

pub loop-at-preserved : goal.loop-at-preserved
loop-at-preserved c =
    let i = c.loop-at.at in
    let d = view c.args.table.now in
    let rows = c.rows-rows.result in
    let few : i < length rows = omega (arith, c.loop-at-test.true) in
    let inside : i < length c.loop-at.numbers = omega (arith, c.loop-at-test.true, c.loop-at.invariant.size) in
    let name = sym (get_or-map (λ (r : NumberRow). r.name.now) rows i _ [] few) ∙ ap (λ names. get_or names i []) c.rows-rows.ensures.names in
    let most = sym (get_or-map (λ (r : NumberRow). r.most) rows i _ 0 few) ∙ ap (λ ns. get_or ns i 0) c.rows-rows.ensures.most in
    let read : c.byte.result ≡ get_or (map (number_of d) rmm_1_0) i 0 =
    read_of d (get_or rows i _) _ _ name most c.byte.result c.byte.ensures ∙ sym (number_at d i c.loop-at-test.true) in
    record {
      size = length-set {A = ℕ} c.loop-at.numbers i c.byte.result ∙ c.loop-at.invariant.size;
      read = take_more_set c.loop-at.numbers i c.byte.result inside
          ∙ ap (λ xs. xs ++ c.byte.result ∷ []) c.loop-at.invariant.read
          ∙ ap (λ x. take i (map (number_of d) rmm_1_0) ++ x ∷ []) read
          ∙ sym (take_more (map (number_of d) rmm_1_0) i 0 c.loop-at-test.true);
    }
