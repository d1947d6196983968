-- A launch's plan, with the digests of the launch's own pages, chains to what a monitor holds.
use Rattle.std.proofs.Common.{◌≡◌, ℕ, ◌∙◌, sym, refl, ap, List, [], ◌∷◌, map}
use Rattle.std.specs.Prelude.{Some, Ok}
use Rattle.std.specs.List.{All, slice_get}
use Rattle.std.proofs.lemmas.List.Elements.{All-head, All-tail}
use Rattle.std.proofs.lemmas.Option.{option_and_then_some, same_Some}
use Rattle.rim_desc.specs.Measurement.{measurement_of}
use Rattle.rim_desc.specs.Part.{rim_of}
use Rattle.rim_desc.specs.declared.measurement.Measurement.{Measurement}
use Rattle.rim_desc.specs.declared.realm.RealmParams.{RealmParams}
use Rattle.rmm_model.specs.Run.{run}
use Rattle.rmm_model.specs.State.{empty_state}
use Rattle.list_model.specs.Entries.{Entry, commands_of}
use Rattle.rim_launch.specs.LaunchData.{LaunchData}
use Rattle.ipa_layout.specs.Layout.{IsPlaced, PlacedData, bytes_of_source}
use Rattle.ipa_layout.proofs.PlacedLaunchLaws.{lead-low}
use Rattle.page_jobs.specs.Page.{page_named}
use Rattle.page_jobs.specs.Table.{IsTable, TableView, digest_at, digest_in, slot_of}
use Rattle.page_jobs.specs.declared.page.PageKey.{PageKey}
use Rattle.page_jobs.proofs.BytesOfPages.{contents-page_bytes}
use Rattle.rmi_list.specs.Listed.{listed}
use Rattle.rmi_list.specs.Measured.{page_contents, measured}
use Rattle.rmi_list.proofs.NoBytePastDigest.{contents-are-good}
use Rattle.rmi_list.proofs.ListIsFollowed.{list-is-followed}
use Rattle.launch_plan.specs.Links.{PlanView, chain_of, keys_of, parts_of}
use Rattle.rim_chain.specs.OwnDigests.{HasOwnPage, own_digest}
use Rattle.launch_plan.specs.Reading.{GoByKeys, IsReadOf}
use Rattle.launch_plan.specs.Rows.{IsRowOf}

-- ---- the contents of a placed launch go by their keys

by-keys : (l : LaunchData) (files : List (List ℕ)) (p : PlacedData) → IsPlaced l files p → GoByKeys l p (own_digest files p) (page_contents l files p)
by-keys l files p is_placed number page item source at from =
    rw (at, from) (ap (λ (bytes : List ℕ). let m : Measurement = record { bytes = measurement_of l.config.algo bytes } in m)
    (sym (contents-page_bytes item.lead page (bytes_of_source files p source) (lead-low l files p number item is_placed at))))

pub chain-held : (l : LaunchData) (files : List (List ℕ)) (p : PlacedData) (entries : List Entry) (v : PlanView)
    → IsPlaced l files p → listed l p ≡ Ok entries → IsReadOf l p v
    → (run (empty_state l.config.num_aux l.config.rec_rule) (commands_of (page_contents l files p) entries)).rim ≡ Some (chain_of v (map (own_digest files p) (keys_of v.links)))
unfolding chain_of
chain-held l files p entries v is_placed at read =
    let own : PageKey → Measurement = own_digest files p in
    let parts : parts_of v (map own (keys_of v.links)) ≡ measured l p (page_contents l files p) = read.parts own (page_contents l files p) (by-keys l files p is_placed) in
    (list-is-followed l p (page_contents l files p) entries (contents-are-good l files p) at).rim
    ∙ ap Some (ap (rim_of l.config.algo) (sym parts) ∙ ap (λ a. rim_of a (parts_of v (map own (keys_of v.links)))) (sym (ap (λ (q : RealmParams). q.algo) read.params)))

-- ---- rows of a table that has the launch's pages

own-at : (t : TableView) (files : List (List ℕ)) (p : PlacedData) (key : PageKey) (d : Measurement) → IsTable t → HasOwnPage t files p key
    → digest_at t key ≡ Some d → d ≡ own_digest files p key
own-at t files p key d is_table page at =
    option_and_then_some (slice_get t.pages) (slot_of t.pages key) (page_named (bytes_of_source files p) key) page (λ j found here.
    option_and_then_some (digest_in t) (slot_of t.pages key) d at (λ i found_too slot. same j i found here found_too slot))
  where
    same : (j i : ℕ) → slot_of t.pages key ≡ Some j → slice_get t.pages j ≡ Some (page_named (bytes_of_source files p) key) → slot_of t.pages key ≡ Some i
        → digest_in t i ≡ Some d → d ≡ own_digest files p key
    same j i found here found_too slot =
        (let one : i ≡ j = same_Some i j (sym found_too ∙ found) in
        let filled : slice_get t.digests j ≡ Some (Some d) = option_and_then_some (λ s. s) (slice_get t.digests j) d (ap (digest_in t) (sym one) ∙ slot)
        (λ x got is_d. got ∙ ap Some is_d) in
        ap (λ (bytes : List ℕ). let m : Measurement = record { bytes = bytes } in m) (is_table.own j _ d here filled))

pub row-own : (t : TableView) (files : List (List ℕ)) (p : PlacedData) (keys : List PageKey) (digests : List Measurement)
    → IsTable t → All (HasOwnPage t files p) keys → IsRowOf t keys digests → digests ≡ map (own_digest files p) keys
row-own t files p [] [] is_table pages row = refl
row-own t files p [] (d ∷ digests) is_table pages row = absurd (cc)
row-own t files p (key ∷ keys) [] is_table pages row = absurd (cc)
row-own t files p (key ∷ keys) (d ∷ digests) is_table pages row =
    let first : digest_at t key ≡ Some d = cc in
    let others : IsRowOf t keys digests = cc in
    let here : d ≡ own_digest files p key = own-at t files p key d is_table (All-head (HasOwnPage t files p) key keys pages) first in
    let rest : digests ≡ map (own_digest files p) keys = row-own t files p keys digests is_table (All-tail (HasOwnPage t files p) key keys pages) others in
    rw (here, rest) refl
