-- The extensions of a launch are those of the links that its plan has.
use Rattle.std.proofs.Common.{◌≡◌, ◌∙◌, ℕ, zero, suc, ◌+◌, ◌*◌, List, [], ◌∷◌, length, map, take, drop, refl, ap, ap₂, sym, arith}
use Rattle.std.specs.Prelude.{Some, None, sum_by}
use Rattle.std.specs.List.{AllByRecursion}
use Rattle.std.proofs.lemmas.List.{length-append, length-drop, length-map, length-take-le}
use Rattle.std.proofs.Math.Nat.{suc-mul}
use Rattle.std.proofs.lemmas.List.Sums.{sum_by-append, sum_by-cons}
use Rattle.rim_desc.specs.Measurement.{measurement_of}
use Rattle.rim_desc.specs.Part.{Part, Realm, Ripas, Data, Rec}
use Rattle.rim_desc.specs.declared.measurement.Measurement.{Measurement}
use Rattle.rim_desc.specs.Realm.{realm_page_of}
use Rattle.rmm_model.specs.Blocks.{granules, stretches}
use Rattle.rmm_model.specs.Effects.{ripas_parts}
use Rattle.list_model.proofs.GranulesDelegated.{length-granules}
use Rattle.rim_launch.specs.LaunchData.{LaunchData}
use Rattle.ipa_layout.specs.Layout.{IsPlaced, PlacedData, bytes_of_source}
use Rattle.rmi_list.specs.Measured.{measured, page_contents}
use Rattle.launch_plan.specs.Links.{PlanView, keys_in, keys_of, link_parts, page_count, pages_with, parts_with}
use Rattle.rim_chain.specs.OwnDigests.{own_digest}
use Rattle.launch_plan.specs.Reading.{GoByKeys, IsReadOf}
use Rattle.launch_plan.specs.declared.link.Link.{Link}
use Rattle.launch_plan.specs.declared.link.Link.TheVariants as link
use Rattle.ipa_layout.proofs.PlacedLaunchLaws.{lead-low}
use Rattle.page_jobs.proofs.BytesOfPages.{contents-page_bytes}
use Rattle.launch_plan.proofs.KeysByPlace.{length-keys_in}
use Rattle.map_rows.specs.Extensions.{extension, extensions_of, no_extensions}
use Rattle.map_rows.specs.inside.Links.{link_extensions, links_extensions}
use Rattle.map_rows.specs.declared.extensions.Extensions.{Extensions}

-- ---- parts that are all alike

-- the extensions of this many parts, where each part has these
abbrev times : ℕ → Extensions → Extensions
times n e = record {
  pages = n * e.pages;
  realms = n * e.realms;
  recs = n * e.recs;
  ripas = n * e.ripas;
  total = n * e.total;
  unmeasured = n * e.unmeasured;
}

abbrev Alike : Extensions → List Part → Type 0
Alike e parts = AllByRecursion (λ p. extension p ≡ e) parts

alike-sum : (f : Extensions → ℕ) (e : Extensions) (parts : List Part) → Alike e parts → sum_by (λ p. f (extension p)) parts ≡ length parts * f e
alike-sum f e [] alike = let none : 0 ≡ 0 * f e = omega arith in none
alike-sum f e (p ∷ parts) alike =
    let here : f (extension p) ≡ f e = ap f alike.0 in
    let others : sum_by (λ q. f (extension q)) parts ≡ length parts * f e = alike-sum f e parts alike.1 in
    sum_by-cons (λ q. f (extension q)) p parts ∙ ap₂ (λ (a b : ℕ). a + b) here others ∙ more (length parts) (f e)
  where
    more : (n m : ℕ) → m + n * m ≡ suc n * m
    more n m = let e : suc n * m ≡ n * m + m = suc-mul n m in omega (arith, e)

-- ---- the parts of a link

-- what one part of a link is, and how many it has
abbrev kind : Link → Extensions
kind (link.Blocks base size count) = record no_extensions { ripas = 1; total = 1 }
kind (link.Pages ipa key count) = record no_extensions { pages = 1; total = 1 }
kind (link.Unmeasured ipa count) = record no_extensions { total = 1; unmeasured = 1 }
kind (link.Rec content) = record no_extensions { recs = 1; total = 1 }

abbrev part_count : Link → ℕ
part_count (link.Blocks base size count) = count
part_count (link.Pages ipa key count) = count
part_count (link.Unmeasured ipa count) = count
part_count (link.Rec content) = 1

link-times : (l : Link) → times (part_count l) (kind l) ≡ link_extensions l
link-times (link.Blocks base size count) =
    let none : count * 0 ≡ 0 = omega arith in
    let each : count * 1 ≡ count = omega arith in
    rw (none, each) refl
link-times (link.Pages ipa key count) =
    let none : count * 0 ≡ 0 = omega arith in
    let each : count * 1 ≡ count = omega arith in
    rw (none, each) refl
link-times (link.Unmeasured ipa count) =
    let none : count * 0 ≡ 0 = omega arith in
    let each : count * 1 ≡ count = omega arith in
    rw (none, each) refl
link-times (link.Rec content) = refl

ripas-alike : (n s x : ℕ) → Alike (kind (link.Blocks x s n)) (ripas_parts (stretches n s x)) × (length (ripas_parts (stretches n s x)) ≡ n)
unfolding stretches
ripas-alike zero s x = (tt, refl)
ripas-alike (suc n) s x = let rest = ripas-alike n s (x + s) in ((refl, rest.0), ap suc rest.1)

pages-alike : (ipa : ℕ) (ds : List Measurement) → Alike (record no_extensions { pages = 1; total = 1 }) (pages_with ipa ds) × (length (pages_with ipa ds) ≡
    length ds)
unfolding pages_with
pages-alike ipa [] = (tt, refl)
pages-alike ipa (d ∷ ds) = let rest = pages-alike (ipa + 4096) ds in ((refl, rest.0), ap suc rest.1)

without-alike : (xs : List ℕ) → Alike (record no_extensions { total = 1; unmeasured = 1 }) (map (λ x. Data x None) xs)
without-alike [] = tt
without-alike (x ∷ xs) = (refl, without-alike xs)

link-alike : (l : Link) (ds : List Measurement) → length ds ≡ page_count l → Alike (kind l) (link_parts l ds) × (length (link_parts l ds) ≡ part_count l)
link-alike (link.Blocks base size count) ds all = ripas-alike count size base
link-alike (link.Pages ipa key count) ds all = let both = pages-alike ipa ds in (both.0, both.1 ∙ all)
link-alike (link.Unmeasured ipa count) ds all =
    (without-alike (granules count ipa), length-map (granules count ipa) (λ x. Data x None) ∙ length-granules count ipa)
link-alike (link.Rec content) ds all = ((refl, tt), refl)

-- ---- the parts of links

links-sum : (f : Extensions → ℕ) → ((l : Link) → part_count l * f (kind l) ≡ f (link_extensions l)) → (links : List Link) (ds : List Measurement)
    → length ds ≡ length (keys_of links) → sum_by (λ p. f (extension p)) (parts_with links ds) ≡ sum_by (λ l. f (link_extensions l)) links
unfolding parts_with
links-sum f each [] ds all = refl
links-sum f each (l ∷ links) ds all =
    sum_by-append (λ p. f (extension p)) (link_parts l (take (page_count l) ds)) (parts_with links (drop (page_count l) ds))
    ∙ ap₂ (λ (a b : ℕ). a + b) first (links-sum f each links (drop (page_count l) ds) later)
    ∙ sym (sum_by-cons (λ x. f (link_extensions x)) l links)
  where
    both : length ds ≡ page_count l + length (keys_of links)
    both = all ∙ length-append (keys_in l) (keys_of links) ∙ ap (λ (n : ℕ). n + length (keys_of links)) (length-keys_in l)

    own : length (take (page_count l) ds) ≡ page_count l
    own = length-take-le (page_count l) ds (omega (arith, both))

    later : length (drop (page_count l) ds) ≡ length (keys_of links)
    later = length-drop (page_count l) ds ∙ omega (arith, both)

    first : sum_by (λ p. f (extension p)) (link_parts l (take (page_count l) ds)) ≡ f (link_extensions l)
    first =
        let alike = link-alike l (take (page_count l) ds) own in
        alike-sum f (kind l) (link_parts l (take (page_count l) ds)) alike.0 ∙ ap (λ (n : ℕ). n * f (kind l)) alike.1 ∙ each l

total-one : (p : Part) → (extension p).total ≡ 1
total-one (Realm page) = refl
total-one (Ripas base top) = refl
total-one (Data ipa (Some digest)) = refl
total-one (Data ipa None) = refl
total-one (Rec content) = refl

total-all : (parts : List Part) → sum_by (λ p. (extension p).total) parts ≡ length parts
total-all [] = refl
total-all (p ∷ parts) = sum_by-cons (λ q. (extension q).total) p parts ∙ ap₂ (λ (a b : ℕ). a + b) (total-one p) (total-all parts) ∙ omega arith

of-links : (page : List ℕ) (links : List Link) (ds : List Measurement) → length ds ≡ length (keys_of links)
    → extensions_of (Realm page ∷ parts_with links ds) ≡ links_extensions links
of-links page links ds all =
    rw (
      sum_by-cons (λ p. (extension p).pages) (Realm page) rest,
      sum_by-cons (λ p. (extension p).realms) (Realm page) rest,
      sum_by-cons (λ p. (extension p).recs) (Realm page) rest,
      sum_by-cons (λ p. (extension p).ripas) (Realm page) rest,
      sum_by-cons (λ p. (extension p).unmeasured) (Realm page) rest,
      links-sum (λ e. e.pages) (λ l. ap (λ (e : Extensions). e.pages) (link-times l)) links ds all,
      none,
      links-sum (λ e. e.recs) (λ l. ap (λ (e : Extensions). e.recs) (link-times l)) links ds all,
      links-sum (λ e. e.ripas) (λ l. ap (λ (e : Extensions). e.ripas) (link-times l)) links ds all,
      links-sum (λ e. e.unmeasured) (λ l. ap (λ (e : Extensions). e.unmeasured) (link-times l)) links ds all,
      whole,
    ) refl
  where
    rest : List Part
    rest = parts_with links ds

    whole : length (Realm page ∷ rest) ≡ 1 + sum_by (λ l. (link_extensions l).total) links
    whole =
        let one : length (Realm page ∷ rest) ≡ 1 + length rest = omega arith in
        one ∙ ap (λ (n : ℕ). 1 + n) (sym (total-all rest) ∙ links-sum (λ e. e.total) (λ l. ap (λ (e : Extensions). e.total) (link-times l)) links ds all)

    zeros : (ls : List Link) → sum_by (λ l. (link_extensions l).realms) ls ≡ 0
    zeros [] = refl
    zeros (l ∷ ls) = sum_by-cons (λ x. (link_extensions x).realms) l ls ∙ ap₂ (λ (a b : ℕ). a + b) (no-realm l) (zeros ls)
      where
        no-realm : (x : Link) → (link_extensions x).realms ≡ 0
        no-realm (link.Blocks base size count) = refl
        no-realm (link.Pages ipa key count) = refl
        no-realm (link.Unmeasured ipa count) = refl
        no-realm (link.Rec content) = refl

    none : sum_by (λ p. (extension p).realms) rest ≡ 0
    none = links-sum (λ e. e.realms) (λ l. ap (λ (e : Extensions). e.realms) (link-times l)) links ds all ∙ zeros links

-- ---- the parts of a launch

-- the contents of a placed launch go by their keys
by-keys : (l : LaunchData) (files : List (List ℕ)) (p : PlacedData) → IsPlaced l files p → GoByKeys l p (own_digest files p) (page_contents l files p)
by-keys l files p is_placed number page item source at from =
    rw (at, from) (ap (λ (bytes : List ℕ). let m : Measurement = record { bytes = measurement_of l.config.algo bytes } in m)
    (sym (contents-page_bytes item.lead page (bytes_of_source files p source) (lead-low l files p number item is_placed at))))

-- the links of the plan that a launch is read as have the launch's extensions
pub own-extensions : (l : LaunchData) (files : List (List ℕ)) (p : PlacedData) (v : PlanView) → IsPlaced l files p → IsReadOf l p v
    → links_extensions v.links ≡ extensions_of (measured l p (page_contents l files p))
own-extensions l files p v is_placed read =
    let digests : List Measurement = map (own_digest files p) (keys_of v.links) in
    sym (of-links (realm_page_of v.params) v.links digests (length-map (keys_of v.links) (own_digest files p)))
    ∙ ap extensions_of (read.parts (own_digest files p) (page_contents l files p) (by-keys l files p is_placed))
