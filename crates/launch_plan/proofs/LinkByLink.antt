-- A chain over links, one link after another.
use Rattle.std.proofs.Common.{◌≡◌, ℕ, ◌+◌, ◌<◌, ◌≤◌, ◌∙◌, sym, refl, ap, arith, List, [], ◌∷◌, ◌++◌, length, take, drop, get_or, length-append}
use Rattle.std.proofs.lemmas.List.Concat.{flat_map-append}
use Rattle.std.proofs.lemmas.List.Folds.{length-flat_map-take}
use Rattle.std.proofs.lemmas.List.{append-nil, append_assoc, at_drop_all, at_drop_more, drop-drop, drop-take, take-append-drop, take-take, take_more}
use Rattle.rim_desc.specs.Part.{extended_by}
use Rattle.rim_desc.specs.declared.measurement.Algo.{Algo}
use Rattle.rim_desc.specs.declared.measurement.Measurement.{Measurement}
use Rattle.rim_desc.proofs.PieceByPiece.{extended_by-append}
use Rattle.launch_plan.specs.Links.{keys_in, keys_of, link_parts, page_count, parts_with}
use Rattle.launch_plan.specs.declared.link.Link.{Link}
use Rattle.launch_plan.proofs.KeysByPlace.{keys-next, length-keys_in}

pub links-next : (algo : Algo) (rim : List ℕ) (links : List Link) (i : ℕ) (d : Link) (digests : List Measurement) → i < length links
    → extended_by algo rim (parts_with (drop i links) digests)
    ≡ extended_by algo (extended_by algo rim (link_parts (get_or links i d) (take (page_count (get_or links i d)) digests)))
    (parts_with (drop (i + 1) links) (drop (page_count (get_or links i d)) digests))
unfolding parts_with
links-next algo rim links i d digests inside =
    at_drop_more (λ ls. extended_by algo rim (parts_with ls digests)) links i d inside
    ∙ extended_by-append algo rim (link_parts (get_or links i d) (take (page_count (get_or links i d)) digests)) _

pub links-end : (algo : Algo) (rim : List ℕ) (links : List Link) (i : ℕ) (digests : List Measurement) → length links ≤ i
    → extended_by algo rim (parts_with (drop i links) digests) ≡ rim
unfolding parts_with
links-end algo rim links i digests past = at_drop_all (λ ls. extended_by algo rim (parts_with ls digests)) links i past

-- how many digests are left for the links that are left
pub keys-left : (links : List Link) (i : ℕ) (d : Link) (n : ℕ) → i < length links → n ≡ page_count (get_or links i d)
    → length (keys_of (drop i links)) ≡ n + length (keys_of (drop (i + 1) links))
keys-left links i d n inside count =
    ap length (keys-next links i d inside)
    ∙ (length-append (keys_in (get_or links i d)) (keys_of (drop (i + 1) links)) ∙ ap (λ m. m + length (keys_of (drop (i + 1) links))) (length-keys_in (get_or links i d) ∙ sym count))

-- ---- the links so far

pub keys-taken : (links : List Link) (i : ℕ) (d : Link) → i < length links → keys_of (take (i + 1) links) ≡ keys_of (take i links) ++ keys_in (get_or links i d)
keys-taken links i d inside =
    ap keys_of (take_more links i d inside)
    ∙ (flat_map-append keys_in (take i links) (get_or links i d ∷ []) ∙ ap (λ keys. keys_of (take i links) ++ keys) (append-nil (keys_in (get_or links i d))))

pub keys-so-far : (links : List Link) (i : ℕ) (d : Link) (n : ℕ) → i < length links → n ≡ page_count (get_or links i d)
    → length (keys_of (take (i + 1) links)) ≡ length (keys_of (take i links)) + n
keys-so-far links i d n inside count =
    let own : length (keys_in (get_or links i d)) ≡ page_count (get_or links i d) = length-keys_in (get_or links i d) in
    let both : length (keys_of (take (i + 1) links)) ≡ length (keys_of (take i links)) + length (keys_in (get_or links i d)) =
    ap length (keys-taken links i d inside) ∙ length-append (keys_of (take i links)) (keys_in (get_or links i d)) in
    omega arith

pub keys-within : (links : List Link) (i : ℕ) (d : Link) (n : ℕ) → i < length links → n ≡ page_count (get_or links i d)
    → length (keys_of (take i links)) + n ≤ length (keys_of links)
keys-within links i d n inside count =
    let own : length (keys_in (get_or links i d)) ≡ page_count (get_or links i d) = length-keys_in (get_or links i d) in
    let room : length (keys_of (take i links)) + length (keys_in (get_or links i d)) ≤ length (keys_of links) = length-flat_map-take keys_in links i d inside in
    omega arith

-- ---- a list of links in two pieces

-- the first links, up to a place and from there on
pub links-on : (links : List Link) (a b : ℕ) → a ≤ b → take b links ≡ take a links ++ drop a (take b links)
links-on links a b less = sym (take-append-drop a (take b links)) ∙ ap (λ (first : List Link). first ++ drop a (take b links)) (take-take a b links less)

pub keys-on : (links : List Link) (a b : ℕ) → a ≤ b → length (keys_of (take b links)) ≡ length (keys_of (take a links)) + length (keys_of (drop a (take b links)))
keys-on links a b less =
    ap (λ (ls : List Link). length (keys_of ls)) (links-on links a b less)
    ∙ (ap length (flat_map-append keys_in (take a links) (drop a (take b links))) ∙ length-append (keys_of (take a links)) (keys_of (drop a (take b links))))

parts-cut : (prefix back : List Link) (digests : List Measurement)
    → parts_with (prefix ++ back) digests ≡ parts_with prefix (take (length (keys_of prefix)) digests) ++ parts_with back (drop (length (keys_of prefix)) digests)
unfolding parts_with
parts-cut [] back digests = refl
parts-cut (l ∷ prefix) back digests =
    let n : ℕ = page_count l in
    let m : ℕ = length (keys_of prefix) in
    let count : length (keys_in l ++ keys_of prefix) ≡ n + m = length-append (keys_in l) (keys_of prefix) ∙ ap (λ k. k + m) (length-keys_in l) in
    let own : take n (take (n + m) digests) ≡ take n digests = take-take n (n + m) digests (omega arith) in
    let rest : drop n (take (n + m) digests) ≡ take m (drop n digests) = drop-take n m digests in
    let back_part : drop m (drop n digests) ≡ drop (n + m) digests = drop-drop m n digests in
    let i = parts-cut prefix back (drop n digests) in
    rw (count, own, rest, ← back_part)
    (ap (λ ps. link_parts l (take n digests) ++ ps) i ∙ sym (append_assoc (link_parts l (take n digests)) (parts_with prefix (take m (drop n digests))) (parts_with back (drop m (drop n digests)))))

pub chain-cut : (algo : Algo) (rim : List ℕ) (prefix back : List Link) (digests : List Measurement)
    → extended_by algo rim (parts_with (prefix ++ back) digests)
    ≡ extended_by algo (extended_by algo rim (parts_with prefix (take (length (keys_of prefix)) digests))) (parts_with back (drop (length (keys_of prefix)) digests))
chain-cut algo rim prefix back digests =
    ap (extended_by algo rim) (parts-cut prefix back digests)
    ∙ extended_by-append algo rim (parts_with prefix (take (length (keys_of prefix)) digests)) (parts_with back (drop (length (keys_of prefix)) digests))
