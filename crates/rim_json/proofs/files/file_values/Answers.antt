use Rattle.std.proofs.Common.{◌≤◌, ◌<◌, ◌∙◌, ◌++◌, [], ◌∷◌, ℕ, List, ap, ap₂, arith, get_or, length, map, sym}
use Rattle.std.proofs.lemmas.List.{get_or-map, length-map, map-append}
use Rattle.serde_json.specs.Data.{Data}
use Rattle.serde_json.specs.View.{view}
use Rattle.sha2.specs.Sha256.{sha256}
use Rattle.ipa_layout.specs.Files.{bytes_of_files}
use Rattle.rim_json.specs.ReportJson.{file_json}
use Rattle.rim_json.proofs.ReportAsJson.{all-files, one-file-more}
use Rattle.rim_json.proofs.files.file_values.Goals as goal

pub file_value-requires : goal.file_value-requires
file_value-requires c =
    let items = c.args.loaded.files.now in
    let few : c.loop-i.i < length (bytes_of_files items) = omega (arith, c.loop-i-test.true, length-map items (λ f. f.items)) in
    let bytes = c.as_slice.ensures.value ∙ ap (λ file. file.items) c.index-files-i.is in
    ap (λ (ds : List (List ℕ)). get_or ds c.loop-i.i []) c.requires
    ∙ get_or-map sha256 (bytes_of_files items) c.loop-i.i [] [] few
    ∙ ap sha256 (get_or-map (λ f. f.items) items c.loop-i.i c.index-files-i.result [] c.loop-i-test.true ∙ sym bytes)

pub loop-i-preserved : goal.loop-i-preserved
loop-i-preserved c =
    let items = c.args.loaded.files.now in
    let added = ap (map view) c.in_ok-push.ensures.items ∙ map-append view c.loop-i.values.items (c.in_ok-file_value.field-0 ∷ []) in
    let bytes = c.as_slice.ensures.value ∙ ap (λ file. file.items) c.index-files-i.is in
    let made = c.in_ok-file_value.ensures ∙ ap (file_json c.path.result.now) bytes in
    added ∙ ap₂ (λ (xs : List Data) (x : Data). xs ++ x ∷ []) c.loop-i.invariant made
    ∙ sym (one-file-more c.args.loaded.release.now.paths items c.loop-i.i c.path.result.now c.index-files-i.result c.path.ensures c.loop-i-test.true)

pub returns : goal.returns
returns c =
    let over : length c.args.loaded.files.now ≤ c.loop-i.i = omega (arith, c.loop-i-test.false) in
    c.loop-i.invariant ∙ all-files c.args.loaded.release.now.paths c.args.loaded.files.now c.loop-i.i over c.args.loaded.each
