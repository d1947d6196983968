-- Rows of digests grow key by key and link by link.
use Rattle.std.proofs.Common.{◌≡◌, ℕ, zero, suc, ◌+◌, ◌<◌, ◌≤◌, ◌∙◌, sym, refl, ap, arith, Bool, true, false, ◌&&◌, List, [], ◌∷◌, ◌++◌, length, map, take, drop, get_or, append_assoc}
use Rattle.std.specs.Prelude.{◌↔◌, Some, None, is_some}
use Rattle.std.specs.List.{range_with_len}
use Rattle.std.proofs.lemmas.List.{drop_at, length-map, map-append, map_push, take_at}
use Rattle.std.proofs.lemmas.List.Folds.{list_all-append, list_all_at}
use Rattle.std.proofs.lemmas.List.FromFn.{get_or-map-range_with_len, length-map-range_with_len, map-range_with_len_more}
use Rattle.rim_desc.specs.declared.measurement.Measurement.{Measurement}
use Rattle.page_jobs.specs.Table.{TableView, digest_at}
use Rattle.page_jobs.specs.declared.page.PageKey.{PageKey}
use Rattle.launch_plan.specs.Links.{key_after, keys_in, keys_of, page_count}
use Rattle.launch_plan.specs.Rows.{IsRowOf, has_all}
use Rattle.launch_plan.specs.declared.link.Link.{Link}
use Rattle.launch_plan.specs.inside.Filling.{AreAdded}
use Rattle.launch_plan.proofs.LinkByLink.{keys-within}

-- ---- one key more

keys-longer : (key : PageKey) (n : ℕ) → map (key_after key) (range_with_len 0 (n + 1)) ≡ map (key_after key) (range_with_len 0 n) ++ key_after key n ∷ []
keys-longer key n = map-range_with_len_more (key_after key) 0 n n (omega arith)

pub added-more : (t : TableView) (key : PageKey) (n : ℕ) (old new : List Measurement) (d : Measurement) → Some d ≡ digest_at t (key_after key n)
    → AreAdded t (map (key_after key) (range_with_len 0 n)) old new
    → AreAdded t (map (key_after key) (range_with_len 0 (n + 1))) old (new ++ d ∷ [])
added-more t key n old new d at added =
    let keys : List PageKey = map (key_after key) (range_with_len 0 n) in
    map_push (λ m. Some m) new d
    ∙ (ap (λ xs. xs ++ Some d ∷ []) added
    ∙ (append_assoc (map (λ m. Some m) old) (map (digest_at t) keys) (Some d ∷ [])
    ∙ ap (λ xs. map (λ m. Some m) old ++ xs) (ap (λ o. map (digest_at t) keys ++ o ∷ []) at ∙ sym (ap (map (digest_at t)) (keys-longer key n) ∙ map_push (digest_at t) keys (key_after key n)))))

pub missing-at : (t : TableView) (key : PageKey) (n count : ℕ) → n < count → None ≡ digest_at t (key_after key n)
    → has_all t (map (key_after key) (range_with_len 0 count)) ≡ false
missing-at t key n count inside none =
    let keys : List PageKey = map (key_after key) (range_with_len 0 count) in
    let size : length keys ≡ count = length-map-range_with_len (key_after key) 0 count in
    let at : get_or keys n key ≡ key_after key n = get_or-map-range_with_len (key_after key) 0 count n n key inside (omega arith) in
    list_all_at (λ k. is_some (digest_at t k)) keys n key (omega arith) (ap (λ k. is_some (digest_at t k)) at ∙ sym (ap is_some none))

-- ---- link by link

pub row-length : (t : TableView) (keys : List PageKey) (digests : List Measurement) → IsRowOf t keys digests → length digests ≡ length keys
row-length t keys digests row = sym (length-map digests (λ m. Some m)) ∙ (sym (ap length row) ∙ length-map keys (digest_at t))

pub row-room : (t : TableView) (links : List Link) (i : ℕ) (d : Link) (digests : List Measurement) (n : ℕ) → i < length links
    → n ≡ page_count (get_or links i d) → IsRowOf t (keys_of (take i links)) digests → length digests + n ≤ length (keys_of links)
row-room t links i d digests n inside count row =
    let size : length digests ≡ length (keys_of (take i links)) = row-length t (keys_of (take i links)) digests row in
    let room : length (keys_of (take i links)) + n ≤ length (keys_of links) = keys-within links i d n inside count in
    omega arith

pub part-missing : (t : TableView) (links : List Link) (i : ℕ) (d : Link) → i < length links → has_all t (keys_in (get_or links i d)) ≡ false
    → has_all t (keys_of links) ≡ false
part-missing t [] i d inside none = absurd (omega arith)
part-missing t (l ∷ links) zero d inside none =
    list_all-append (λ key. is_some (digest_at t key)) (keys_in l) (keys_of links) ∙ ap (λ b. b && has_all t (keys_of links)) none
part-missing t (l ∷ links) (suc i) d inside none =
    list_all-append (λ key. is_some (digest_at t key)) (keys_in l) (keys_of links)
    ∙ (ap (λ b. has_all t (keys_in l) && b) (part-missing t links i d (omega arith) none) ∙ and-false (has_all t (keys_in l)))
  where
    and-false : (b : Bool) → (b && false) ≡ false
    and-false true = refl
    and-false false = refl

-- a row of two lists of keys is a row of each
pub row-parts : (t : TableView) (prefix back : List PageKey) (own others : List Measurement) → length prefix ≡ length own
    → IsRowOf t (prefix ++ back) (own ++ others) ↔ (IsRowOf t prefix own × IsRowOf t back others)
row-parts t prefix back own others count = (cut, join)
  where
    left : map (digest_at t) (prefix ++ back) ≡ map (digest_at t) prefix ++ map (digest_at t) back
    left = map-append (digest_at t) prefix back

    right : map (λ m. Some m) (own ++ others) ≡ map (λ m. Some m) own ++ map (λ m. Some m) others
    right = map-append (λ m. Some m) own others

    short : length (map (digest_at t) prefix) ≡ length own
    short = length-map prefix (digest_at t) ∙ count

    long : length (map (λ m. Some m) own) ≡ length own
    long = length-map own (λ m. Some m)

    cut : IsRowOf t (prefix ++ back) (own ++ others) → IsRowOf t prefix own × IsRowOf t back others
    cut row =
        (let both : map (digest_at t) prefix ++ map (digest_at t) back ≡ map (λ m. Some m) own ++ map (λ m. Some m) others = sym left ∙ (row ∙ right) in (
          sym (take_at (map (digest_at t) prefix) (map (digest_at t) back) (length own) short)
              ∙ (ap (take (length own)) both ∙ take_at (map (λ m. Some m) own) (map (λ m. Some m) others) (length own) long),
          sym (drop_at (map (digest_at t) prefix) (map (digest_at t) back) (length own) short)
              ∙ (ap (drop (length own)) both ∙ drop_at (map (λ m. Some m) own) (map (λ m. Some m) others) (length own) long),
        ))

    join : IsRowOf t prefix own × IsRowOf t back others → IsRowOf t (prefix ++ back) (own ++ others)
    join rows = left ∙ (ap (λ xs. xs ++ map (digest_at t) back) rows.0 ∙ (ap (λ xs. map (λ m. Some m) own ++ xs) rows.1 ∙ sym right))
