-- What is found among tables, and the items that their tables read as.
use Rattle.std.proofs.Common.{◌≡◌, ℕ, suc, ◌+◌, ◌<◌, List, [], ◌∷◌, length, map, Bool, true, false, cond, not, ◌&&◌, ◌||◌, Some, None, refl, ap, sym, ◌∙◌}
use Rattle.std.proofs.Common.{arith}
use Rattle.std.specs.Prelude.{count_by, nat_lt, position, slice_get, unwrap_or}
use Rattle.std.specs.List.{list_any, position_or_len}
use Rattle.std.proofs.lemmas.Bool.{lt-ltb, ltb-true}
use Rattle.std.proofs.lemmas.List.{length-map}
use Rattle.std.proofs.lemmas.List.Sums.{sum_by-append}
use Rattle.toml.specs.Data.{Data}
use Rattle.rim_launch.specs.Kinds.{count_of, file_of, has_role, is_role, needs_initrd, needs_memory, role_of}
use Rattle.rim_launch.specs.declared.item.Role.{Role}
use Rattle.rim_launch.specs.declared.item.Role.TheVariants.{Kernel, Initrd, Dtb, Raw, Unknown}
use Rattle.rim_rules.specs.Items.{edits_of, item_of, kind_of}
use Rattle.rim_rules.specs.Names.{file_at, is_at_role, needs_file, role_at, role_count}

place-map : {X Y : Type 0} (p : Y → Bool) (f : X → Y) (xs : List X) → position_or_len p (map f xs) ≡ position_or_len (λ x. p (f x)) xs
place-map p f [] = refl
place-map p f (x ∷ xs) = ap (λ (n : ℕ). cond (not (p (f x))) (1 + n) 0) (place-map p f xs)

pub position-map : {X Y : Type 0} (p : Y → Bool) (f : X → Y) (xs : List X) → position p (map f xs) ≡ position (λ x. p (f x)) xs
position-map p f xs = rw (place-map p f xs, length-map xs f) refl

below_more : (b : Bool) (n m : ℕ) (any : Bool) → (any ≡ true → n < m) → (b || any) ≡ true → cond (not b) (1 + n) 0 < suc m
below_more true n m any rest e = omega arith
below_more false n m any rest e = let more : n < m = rest e in omega (arith, more)

place_below : {X : Type 0} (p : X → Bool) (xs : List X) → list_any p xs ≡ true → position_or_len p xs < length xs
place_below p [] e = cc
place_below p (x ∷ xs) e = below_more (p x) (position_or_len p xs) (length xs) (list_any p xs) (place_below p xs) e

pub found_below : {X : Type 0} (p : X → Bool) (xs : List X) → list_any p xs ≡ true → unwrap_or (position p xs) 0 < length xs
found_below p xs e = let below = place_below p xs e in rw (lt-ltb _ _ below) below

place_more : {X : Type 0} (p : X → Bool) (x : X) (xs : List X) (n m : ℕ) (b : Bool) → p x ≡ b → (n < m → (y : X) × (slice_get xs n ≡ Some y) × (p y ≡ true))
    → cond (not b) (1 + n) 0 < suc m
    → (y : X) × (slice_get (x ∷ xs) (cond (not b) (1 + n) 0) ≡ Some y) × (p y ≡ true)
place_more p x xs n m true h rest below = (x, refl, h)
place_more p x xs n m false h rest below =
    let found = rest (omega (arith, below)) in
    let next : 1 + n ≡ suc n = omega arith in
    (found.0, ap (slice_get (x ∷ xs)) next ∙ found.1, found.2)

-- what is at the first place that passes
first_found : {X : Type 0} (p : X → Bool) (xs : List X) → position_or_len p xs < length xs
    → (y : X) × (slice_get xs (position_or_len p xs) ≡ Some y) × (p y ≡ true)
first_found p [] below = absurd (omega (arith, below))
first_found p (x ∷ xs) below = place_more p x xs (position_or_len p xs) (length xs) (p x) refl (first_found p xs) below

pub found_there : {X : Type 0} (p : X → Bool) (xs : List X) → list_any p xs ≡ true
    → (y : X) × (slice_get xs (unwrap_or (position p xs) 0) ≡ Some y) × (p y ≡ true)
found_there p xs e = let below = place_below p xs e in rw (lt-ltb _ _ below) (first_found p xs below)

at_position : {X : Type 0} (p : X → Bool) (xs : List X) (n : ℕ) (b : Bool) → nat_lt (position_or_len p xs) (length xs) ≡ b
    → cond b (Some (position_or_len p xs)) None ≡ Some n
    → (y : X) × (slice_get xs n ≡ Some y) × (p y ≡ true)
at_position p xs n true below e =
    let found = first_found p xs (ltb-true _ _ below) in
    let same : position_or_len p xs ≡ n = cc in
    (found.0, ap (slice_get xs) (sym same) ∙ found.1, found.2)
at_position p xs n false below e = cc

pub found_at : {X : Type 0} (p : X → Bool) (xs : List X) (n : ℕ) → position p xs ≡ Some n → (y : X) × (slice_get xs n ≡ Some y) × (p y ≡ true)
found_at p xs n e = at_position p xs n (nat_lt (position_or_len p xs) (length xs)) refl e

-- ---- items

pub role_of-kind : (r : Role) (file : ℕ) (d : Data) → role_of (kind_of r file d) ≡ r
role_of-kind Kernel file d = refl
role_of-kind Initrd file d = refl
role_of-kind Dtb file d = refl
role_of-kind Raw file d = refl
role_of-kind Unknown file d = refl

pub file_of-kind : (r : Role) (file : ℕ) (d : Data) → file_of (kind_of r file d) ≡ cond (needs_file r) (Some file) None
file_of-kind Kernel file d = refl
file_of-kind Initrd file d = refl
file_of-kind Dtb file d = refl
file_of-kind Raw file d = refl
file_of-kind Unknown file d = refl

initrd-kind : (r : Role) (file : ℕ) (d : Data) → needs_initrd (kind_of r file d) ≡ (is_role Dtb r && (edits_of d).initrd)
initrd-kind Kernel file d = refl
initrd-kind Initrd file d = refl
initrd-kind Dtb file d = refl
initrd-kind Raw file d = refl
initrd-kind Unknown file d = refl

memory-kind : (r : Role) (file : ℕ) (d : Data) → needs_memory (kind_of r file d) ≡ (is_role Dtb r && (edits_of d).memory)
memory-kind Kernel file d = refl
memory-kind Initrd file d = refl
memory-kind Dtb file d = refl
memory-kind Raw file d = refl
memory-kind Unknown file d = refl

pub role-item : (files : List Data) (r : Role) (d : Data) → has_role r (item_of files d) ≡ is_at_role r d
unfolding item_of
role-item files r d = ap (is_role r) (role_of-kind (role_at d) (file_at files d) d)

count-next : {X : Type 0} (p : X → Bool) (x : X) (xs : List X) → count_by p (x ∷ xs) ≡ cond (p x) 1 0 + count_by p xs
count-next p x xs = let both = sum_by-append (λ y. cond (p y) 1 0) (x ∷ []) xs in omega (arith, both)

pub count-items : (files : List Data) (r : Role) (ds : List Data) → count_of r (map (item_of files) ds) ≡ role_count r ds
count-items files r [] = refl
count-items files r (d ∷ ds) =
    let first = count-next (has_role r) (item_of files d) (map (item_of files) ds) in
    let second = count-next (is_at_role r) d ds in
    let same : cond {A = ℕ} (has_role r (item_of files d)) 1 0 ≡ cond {A = ℕ} (is_at_role r d) 1 0 = ap (λ (b : Bool). cond b 1 0) (role-item files r d) in
    omega (arith, first, second, same, count-items files r ds)

pub initrd-items : (files : List Data) (ds : List Data)
    → list_any (λ i. needs_initrd i.kind) (map (item_of files) ds) ≡ list_any (λ d. is_at_role Dtb d && (edits_of d).initrd) ds
unfolding item_of
initrd-items files [] = refl
initrd-items files (d ∷ ds) = rw (initrd-kind (role_at d) (file_at files d) d, initrd-items files ds) refl

pub memory-items : (files : List Data) (ds : List Data)
    → list_any (λ i. needs_memory i.kind) (map (item_of files) ds) ≡ list_any (λ d. is_at_role Dtb d && (edits_of d).memory) ds
unfolding item_of
memory-items files [] = refl
memory-items files (d ∷ ds) = rw (memory-kind (role_at d) (file_at files d) d, memory-items files ds) refl
