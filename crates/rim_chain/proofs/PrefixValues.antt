-- What the prefixes of a plan chain to, one link after another.
use Rattle.std.proofs.Common.{◌≡◌, ℕ, ◌+◌, ◌<◌, ◌≤◌, ◌∙◌, refl, ap, arith, List, [], ◌∷◌, length, take, drop, get_or}
use Rattle.std.proofs.lemmas.List.{append-nil, drop-take, take-take, take_more}
use Rattle.rim_desc.specs.Measurement.{measurement_of}
use Rattle.rim_desc.specs.Part.{extended_by}
use Rattle.rim_desc.specs.Realm.{realm_page_of}
use Rattle.rim_desc.specs.declared.measurement.Measurement.{Measurement}
use Rattle.launch_plan.specs.Prefixes.{prefix_value}
use Rattle.launch_plan.specs.Links.{PlanView, chain_of, keys_of, link_parts, page_count, parts_with}
use Rattle.launch_plan.specs.declared.link.Link.{Link}
use Rattle.launch_plan.proofs.LinkByLink.{chain-cut, keys-on, keys-so-far, links-on}

pub prefix-first : (p : PlanView) (digests : List Measurement) → prefix_value 0 p digests ≡ measurement_of p.params.algo (realm_page_of p.params)
unfolding chain_of parts_with
prefix-first p digests = refl

-- the parts of one link are its own
one-link : (l : Link) (digests : List Measurement) → parts_with (l ∷ []) (take (page_count l) digests) ≡ link_parts l (take (page_count l) digests)
unfolding parts_with
one-link l digests =
    append-nil (link_parts l (take (page_count l) (take (page_count l) digests)))
    ∙ ap (link_parts l) (take-take (page_count l) (page_count l) digests (omega arith))

-- a prefix goes on from a shorter one
pub prefix-on : (p : PlanView) (digests : List Measurement) (a b : ℕ) → a ≤ b
    → prefix_value b p digests
    ≡ extended_by p.params.algo (prefix_value a p digests)
    (parts_with (drop a (take b p.links)) (drop (length (keys_of (take a p.links))) (take (length (keys_of (take b p.links))) digests)))
unfolding chain_of
prefix-on p digests a b less =
    let links : List Link = take b p.links in
    let n : ℕ = length (keys_of (take a p.links)) in
    let k : ℕ = length (keys_of links) in
    let first : List ℕ = measurement_of p.params.algo (realm_page_of p.params) in
    let count : k ≡ n + length (keys_of (drop a links)) = keys-on p.links a b less in
    let own : take n (take k digests) ≡ take n digests = take-take n k digests (omega (arith, count)) in
    let cut = chain-cut p.params.algo first (take a p.links) (drop a links) (take k digests) in
    ap (λ (ls : List Link). extended_by p.params.algo first (parts_with ls (take k digests))) (links-on p.links a b less) ∙ (rw own at cut)

-- the prefix of one link more
pub prefix-next : (p : PlanView) (digests : List Measurement) (i : ℕ) (d : Link) → i < length p.links
    → prefix_value (i + 1) p digests
    ≡ extended_by p.params.algo (prefix_value i p digests) (link_parts (get_or p.links i d) (take (page_count (get_or p.links i d)) (drop (length (keys_of (take i p.links))) digests)))
unfolding chain_of
prefix-next p digests i d inside =
    let links : List Link = p.links in
    let l : Link = get_or links i d in
    let c : ℕ = page_count l in
    let n : ℕ = length (keys_of (take i links)) in
    let first : List ℕ = measurement_of p.params.algo (realm_page_of p.params) in
    let more : length (keys_of (take (i + 1) links)) ≡ n + c = keys-so-far links i d c inside refl in
    let cut = chain-cut p.params.algo first (take i links) (l ∷ []) (take (n + c) digests) in
    let own : take n (take (n + c) digests) ≡ take n digests = take-take n (n + c) digests (omega arith) in
    let rest : drop n (take (n + c) digests) ≡ take c (drop n digests) = drop-take n c digests in
    rw (more, take_more links i d inside)
    (rw (own, rest) at cut ∙ ap (extended_by p.params.algo _) (one-link l (drop n digests)))
