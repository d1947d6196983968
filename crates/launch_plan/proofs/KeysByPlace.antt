-- The key at a place of a plan is found link by link.
use Rattle.std.proofs.Common.{inl, inr, ◌⊎◌, ◌≡◌, ℕ, ◌+◌, ◌-◌, ◌<◌, ◌≤◌, ◌∙◌, sym, refl, ap, arith, List, [], ◌∷◌, ◌++◌, length, map, get_or, drop}
use Rattle.std.specs.Prelude.{Option, Some, None}
use Rattle.std.specs.List.{range_with_len, slice_get}
use Rattle.std.proofs.lemmas.List.{at_drop_more, length-append, get_or_append_left, get_or-append_right}
use Rattle.std.proofs.lemmas.List.FromFn.{get_or-map-range_with_len, length-map-range_with_len}
use Rattle.std.proofs.lemmas.Option.{slice_get-get_or, slice_get_past, slice_get_within}
use Rattle.page_jobs.specs.declared.page.PageKey.{PageKey}
use Rattle.launch_plan.specs.Links.{key_after, keys_in, keys_of, page_count}
use Rattle.launch_plan.specs.declared.link.Link.{Link}
use Rattle.launch_plan.specs.declared.link.Link.TheVariants as link

pub key-at : (key : PageKey) (count n : ℕ) → n < count → Some (key_after key n) ≡ slice_get (map (key_after key) (range_with_len 0 count)) n
key-at key count n inside =
    let keys : List PageKey = map (key_after key) (range_with_len 0 count) in
    let size : length keys ≡ count = length-map-range_with_len (key_after key) 0 count in
    let at : get_or keys n key ≡ key_after key n = get_or-map-range_with_len (key_after key) 0 count n n key inside (omega arith) in
    sym (slice_get-get_or keys n key (omega arith) ∙ ap Some at)

pub key-past : (key : PageKey) (count n : ℕ) → count ≤ n → None ≡ slice_get (map (key_after key) (range_with_len 0 count)) n
key-past key count n past =
    let keys : List PageKey = map (key_after key) (range_with_len 0 count) in
    let size : length keys ≡ count = length-map-range_with_len (key_after key) 0 count in
    sym (slice_get_past keys n (omega arith))

-- each page has one key
pub length-keys_in : (l : Link) → length (keys_in l) ≡ page_count l
length-keys_in (link.Blocks base size count) = refl
length-keys_in (link.Pages ipa key count) = length-map-range_with_len (key_after key) 0 count
length-keys_in (link.Unmeasured ipa count) = refl
length-keys_in (link.Rec content) = refl

-- ---- keys of neighbouring links

pub keys-next : (links : List Link) (i : ℕ) (d : Link) → i < length links → keys_of (drop i links) ≡ keys_in (get_or links i d) ++ keys_of (drop (i + 1) links)
keys-next links i d inside = at_drop_more keys_of links i d inside

pub found : {A : Type 0} (prefix back : List A) (n : ℕ) (x : A) → Some x ≡ slice_get prefix n → Some x ≡ slice_get (prefix ++ back) n
found prefix back n x at =
    let inside : n < length prefix = slice_get_within prefix n x (sym at) in
    let long : n < length (prefix ++ back) = rw (length-append prefix back) (omega arith) in
    at ∙ slice_get-get_or prefix n x inside ∙ ap Some (sym (get_or_append_left prefix back x n inside)) ∙ sym (slice_get-get_or (prefix ++ back) n x long)

pub past : {A : Type 0} (prefix : List A) (n : ℕ) → None ≡ slice_get prefix n → length prefix ≤ n
past prefix n none = elim (less n (length prefix)) [
  | inl inside ↦ absurd (at-none prefix n none inside)
  | inr le ↦ le
]
  where
    less : (a b : ℕ) → (a < b) ⊎ (b ≤ a)
    less a b = grind arith

    at-none : {A : Type 0} (xs : List A) (k : ℕ) → None ≡ slice_get xs k → k < length xs → ⊥
    at-none [] k none inside = absurd (omega arith)
    at-none (x ∷ xs) k none inside = let some : slice_get (x ∷ xs) k ≡ Some (get_or (x ∷ xs) k x) = slice_get-get_or (x ∷ xs) k x inside in cc

pub passed : {A : Type 0} (prefix back : List A) (n : ℕ) → length prefix ≤ n → n < length (prefix ++ back)
    → slice_get (prefix ++ back) n ≡ slice_get back (n - length prefix)
passed prefix [] n le inside = absurd (let e : length (prefix ++ []) ≡ length prefix + 0 = length-append prefix [] in omega arith)
passed prefix (x ∷ back) n le inside =
    let size : length (prefix ++ x ∷ back) ≡ length prefix + length (x ∷ back) = length-append prefix (x ∷ back) in
    let rest : n - length prefix < length (x ∷ back) = omega arith in
    slice_get-get_or (prefix ++ x ∷ back) n x inside ∙ ap Some (get_or-append_right prefix (x ∷ back) (length prefix) n x refl le) ∙ sym (slice_get-get_or (x ∷ back) (n - length prefix) x rest)

-- ---- a place among the keys that are left

pub here : (links : List Link) (i : ℕ) (d : Link) (n : ℕ) (key : PageKey) (wanted : Option PageKey) → i < length links
    → Some key ≡ slice_get (keys_in (get_or links i d)) n → slice_get (keys_of (drop i links)) n ≡ wanted → Some key ≡ wanted
here links i d n key wanted inside at same =
    found (keys_in (get_or links i d)) (keys_of (drop (i + 1) links)) n key at ∙ (ap (λ keys. slice_get keys n) (sym (keys-next links i d inside)) ∙ same)

pub record IsFurther (links : List Link) (i n : ℕ) (wanted : Option PageKey) : Type 0 where
  pub inside : n < length (keys_of (drop i links))
  pub same : slice_get (keys_of (drop i links)) n ≡ wanted

pub count-past : (l : Link) (n : ℕ) → None ≡ slice_get (keys_in l) n → page_count l ≤ n
count-past l n none = let e : length (keys_in l) ≡ page_count l = length-keys_in l in let le : length (keys_in l) ≤ n = past (keys_in l) n none in omega arith

pub further : (links : List Link) (i : ℕ) (d : Link) (n m : ℕ) (wanted : Option PageKey) → i < length links
    → None ≡ slice_get (keys_in (get_or links i d)) n → m ≡ n - page_count (get_or links i d) → IsFurther links i n wanted → IsFurther links (i + 1) m wanted
further links i d n m wanted inside none at is_there =
    let prefix : List PageKey = keys_in (get_or links i d) in
    let back : List PageKey = keys_of (drop (i + 1) links) in
    let e : length prefix ≡ page_count (get_or links i d) = length-keys_in (get_or links i d) in
    let le : length prefix ≤ n = past prefix n none in
    let split : keys_of (drop i links) ≡ prefix ++ back = keys-next links i d inside in
    let long : n < length (prefix ++ back) = rw split at is_there.inside in
    let size : length (prefix ++ back) ≡ length prefix + length back = length-append prefix back in
    let place : m ≡ n - length prefix = omega arith in
    record {
      inside = omega arith;
      same = ap (slice_get back) place ∙ (sym (passed prefix back n le long) ∙ (ap (λ keys. slice_get keys n) (sym split) ∙ is_there.same));
    }
