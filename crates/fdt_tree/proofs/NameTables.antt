-- The table of names, and a name that is added.
use Rattle.std.proofs.Common.{◌^◌, ◌≡◌, ℕ, ◌+◌, ◌<◌, ◌≤◌, Bool, true, false, cond, List, [], ◌∷◌, ◌++◌, length, take, drop, Option, Some, None, Result, Ok, Err}
use Rattle.std.proofs.Common.{IfOk, refl, sym, ap, ◌∙◌, append_assoc, arith, subst}
use Rattle.std.proofs.lemmas.List.{length-append}
use Rattle.std.specs.declared.vec.Vec.{Vec}
use Rattle.std.specs.BTreeMap.{BTreeMap, get_by, UpdatesBy}
use Rattle.std.specs.Map.{lookup, IsKeyTest, AreApart, KeepsOthers}
use Rattle.std.specs.Ordering.{is_eq, nat_cmp}
use Rattle.std.specs.Cmp.{eq_by_cmp_equiv}
use Rattle.std.specs.Cmp.Lexicographic.{slice_cmp, bytes_decides, nat_list_cmp_total, nat_list_eq_equiv}
use Rattle.std.specs.Str.{bytes_eq}
use Rattle.std.proofs.lemmas.Map.Text.{is_eq-slice_cmp}
use Rattle.fdt_tree.specs.Writing.{is_among, noted, strings_text, offset_in}
use Rattle.fdt_tree.specs.inside.NameTables.{HasNames, place_in}
use Rattle.fdt_tree.specs.declared.writing.names.NameTable.{NameTable}

-- ---- a map whose keys are bytes

module _ {K : Type 0} (eq : K → K → Bool) (test : K → Bool) where
  other_entries : {X : Type 0} (old new : List (K × X)) → KeepsOthers eq test old new → (other : K → Bool) → IsKeyTest eq other → AreApart test other
      → lookup other new ≡ lookup other old
  unfolding KeepsOthers
  other_entries old new h = h

apart : (bs cs ks : List ℕ) → bytes_eq bs cs ≡ false → is_eq (slice_cmp nat_cmp bs ks) ≡ true → is_eq (slice_cmp nat_cmp cs ks) ≡ false
apart bs cs ks n y = is_eq-slice_cmp cs ks ∙ nat_list_eq_equiv.symm cs ks ∙ sym (nat_list_eq_equiv.congr bs ks cs (sym (is_eq-slice_cmp bs ks) ∙ y)) ∙ n

pub map_at : {A X : Type 0} (bs : List ℕ) (m n : BTreeMap (Vec ℕ A) X) (w : Option X)
    → UpdatesBy (λ x y. slice_cmp nat_cmp x.items y.items) (λ k. slice_cmp nat_cmp bs k.items) m n w
    → (cs : List ℕ) → get_by (λ k. slice_cmp nat_cmp cs k.items) n ≡ cond (bytes_eq bs cs) w (get_by (λ k. slice_cmp nat_cmp cs k.items) m)
map_at {A} {X} bs m n w h cs = go (bytes_eq bs cs) refl
  where
    go : (b : Bool) → bytes_eq bs cs ≡ b → get_by (λ k. slice_cmp nat_cmp cs k.items) n ≡ cond b w (get_by (λ k. slice_cmp nat_cmp cs k.items) m)
    go true y = subst (λ (l : List ℕ). get_by (λ k. slice_cmp nat_cmp l k.items) n ≡ w) ((bytes_decides bs cs).0 y) h.1
    go false y = other_entries _ _ _ _ h.3 _ (λ x z. (eq_by_cmp_equiv nat_list_cmp_total).congr cs x.items z.items) (λ k. apart bs cs k.items y)

-- ---- one more name

pub strings_push : (names : List (List ℕ)) (name : List ℕ) → strings_text (names ++ name ∷ []) ≡ (strings_text names ++ name) ++ 0 ∷ []
strings_push [] name = refl
strings_push (n ∷ ns) name =
    ap (λ (x : List ℕ). n ++ (0 ∷ x)) (strings_push ns name)
    ∙ sym (append_assoc n (0 ∷ (strings_text ns ++ name)) (0 ∷ []))
    ∙ ap (λ (x : List ℕ). x ++ 0 ∷ []) (sym (append_assoc n (0 ∷ strings_text ns) name))

any_push : (q : List ℕ) (names : List (List ℕ)) (name : List ℕ) → is_among q (names ++ name ∷ []) ≡ cond (is_among q names) true (bytes_eq q name)
any_push q [] name = last (bytes_eq q name)
  where
    last : (b : Bool) → cond b true false ≡ b
    last true = refl
    last false = refl
any_push q (n ∷ ns) name = go (bytes_eq q n) (any_push q ns name)
  where
    go : (b : Bool) → is_among q (ns ++ name ∷ []) ≡ cond (is_among q ns) true (bytes_eq q name)
        → cond b true (is_among q (ns ++ name ∷ [])) ≡ cond (cond b true (is_among q ns)) true (bytes_eq q name)
    go true ih = refl
    go false ih = ih

pub offset_new : (names : List (List ℕ)) (name : List ℕ) → is_among name names ≡ false → offset_in (names ++ name ∷ []) name ≡ length (strings_text names)
offset_new [] name h = rw (nat_list_eq_equiv.refl name) refl
offset_new (n ∷ ns) name h = go (bytes_eq name n) h (offset_new ns name)
  where
    go : (b : Bool) → cond b true (is_among name ns) ≡ false → (is_among name ns ≡ false → offset_in (ns ++ name ∷ []) name ≡ length (strings_text ns))
        → cond b 0 (length n + 1 + offset_in (ns ++ name ∷ []) name) ≡ length (n ++ (0 ∷ strings_text ns))
    go true q ih = absurd cc
    go false q ih = omega (arith, ih q, length-append n (0 ∷ strings_text ns))

pub offset_kept : (names more : List (List ℕ)) (name : List ℕ) → is_among name names ≡ true → offset_in (names ++ more) name ≡ offset_in names name
offset_kept [] more name h = absurd cc
offset_kept (n ∷ ns) more name h = go (bytes_eq name n) h (offset_kept ns more name)
  where
    go : (b : Bool) → cond b true (is_among name ns) ≡ true → (is_among name ns ≡ true → offset_in (ns ++ more) name ≡ offset_in ns name)
        → cond b 0 (length n + 1 + offset_in (ns ++ more) name) ≡ cond b 0 (length n + 1 + offset_in ns name)
    go true q ih = refl
    go false q ih = ap (λ (m : ℕ). length n + 1 + m) (ih q)

-- ---- where a name is, and where it is noted

present : (names : List (List ℕ)) (name : List ℕ) (at : ℕ) → place_in names name ≡ Some at → (is_among name names ≡ true) × (offset_in names name ≡ at)
present names name at h = go (is_among name names) refl h
  where
    go : (b : Bool) → is_among name names ≡ b → cond b (Some (offset_in names name)) None ≡ Some at → (is_among name names ≡ true) × (offset_in names name ≡ at)
    go true e q = (e, cc)
    go false e q = absurd cc

pub is_noted : (names : List (List ℕ)) (name : List ℕ) → is_among name (noted names name) ≡ true
is_noted names name = go (is_among name names) refl
  where
    go : (b : Bool) → is_among name names ≡ b → is_among name (cond b names (names ++ name ∷ [])) ≡ true
    go true e = e
    go false e = any_push name names name ∙ ap (λ (x : Bool). cond x true (bytes_eq name name)) e ∙ nat_list_eq_equiv.refl name

pub place_noted : (names : List (List ℕ)) (name : List ℕ) (at : ℕ) → at ≡ offset_in (noted names name) name → place_in (noted names name) name ≡ Some at
place_noted names name at e = ap (λ (b : Bool). cond b (Some (offset_in (noted names name) name)) None) (is_noted names name) ∙ ap (λ (x : ℕ). Some x) (sym e)

-- one more name leaves it where it is
place_kept : (names : List (List ℕ)) (name q : List ℕ) (at : ℕ) → place_in names q ≡ Some at → place_in (names ++ name ∷ []) q ≡ Some at
place_kept names name q at h =
    let p = present names q at h in
    let any : is_among q (names ++ name ∷ []) ≡ true = any_push q names name ∙ ap (λ (x : Bool). cond x true (bytes_eq q name)) p.0 in
    ap (λ (b : Bool). cond b (Some (offset_in (names ++ name ∷ []) q)) None) any ∙ ap (λ (x : ℕ). Some x) (offset_kept names (name ∷ []) q p.0 ∙ p.1)

absent : (names : List (List ℕ)) (name : List ℕ) → place_in names name ≡ None → is_among name names ≡ false
absent names name h = go (is_among name names) h
  where
    go : (b : Bool) → cond b (Some (offset_in names name)) None ≡ None → b ≡ false
    go true q = absurd cc
    go false q = refl

pub noted_new : (names : List (List ℕ)) (name : List ℕ) → place_in names name ≡ None → noted names name ≡ names ++ name ∷ []
noted_new names name h = rw (absent names name h) refl

pub place_new : (names : List (List ℕ)) (name q : List ℕ) → place_in names name ≡ None
    → place_in (names ++ name ∷ []) q ≡ cond (bytes_eq name q) (Some (length (strings_text names))) (place_in names q)
place_new names name q h = go (bytes_eq name q) refl
  where
    there : (b : Bool) → is_among q names ≡ b → bytes_eq q name ≡ false → place_in (names ++ name ∷ []) q ≡ cond b (Some (offset_in names q)) None
    there true e f =
        let any : is_among q (names ++ name ∷ []) ≡ true = any_push q names name ∙ ap (λ (x : Bool). cond x true (bytes_eq q name)) e in
        rw any (ap (λ (x : ℕ). Some x) (offset_kept names (name ∷ []) q e))
    there false e f =
        let any : is_among q (names ++ name ∷ []) ≡ false = any_push q names name ∙ ap (λ (x : Bool). cond x true (bytes_eq q name)) e ∙ f in
        rw any refl

    go : (b : Bool) → bytes_eq name q ≡ b → place_in (names ++ name ∷ []) q ≡ cond b (Some (length (strings_text names))) (place_in names q)
    go true y =
        let any : is_among name (names ++ name ∷ []) ≡ true =
        any_push name names name ∙ ap (λ (x : Bool). cond x true (bytes_eq name name)) (absent names name h) ∙ nat_list_eq_equiv.refl name in
        subst (λ (l : List ℕ). place_in (names ++ name ∷ []) l ≡ Some (length (strings_text names))) ((bytes_decides name q).0 y)
        (rw any (ap (λ (x : ℕ). Some x) (offset_new names name (absent names name h))))
    go false y = there (is_among q names) refl (nat_list_eq_equiv.symm q name ∙ y) ∙ refl

-- ---- the table with one more

pub too_long : (names : List (List ℕ)) (name : List ℕ) (at : ℕ) → at ≡ length (strings_text names) → 2 ^ 21 ≤ at + length name
    → 2 ^ 21 < length (strings_text (names ++ name ∷ []))
too_long names name at e h =
    let p = ap length (strings_push names name) in
    omega (arith, p, length-append (strings_text names ++ name) (0 ∷ []), length-append (strings_text names) name)

pub has_one_more : (source : List ℕ) (names : List (List ℕ)) (name : List ℕ) (old new : NameTable) (at : ℕ) → HasNames source old names
    → place_in names name ≡ None → at ≡ length old.strings.items
    → new.strings.items ≡ (old.strings.items ++ name) ++ 0 ∷ []
    → ((q : List ℕ) → get_by (λ k. slice_cmp nat_cmp q k.items) new.offsets ≡ cond (bytes_eq name q) (Some at)
    (get_by (λ k. slice_cmp nat_cmp q k.items) old.offsets))
    → new.ranges ≡ old.ranges → HasNames source new (names ++ name ∷ [])
has_one_more source names name old new at h missing here text map kept = record {
  strings = text ∙ ap (λ (x : List ℕ). (x ++ name) ++ 0 ∷ []) h.strings ∙ sym (strings_push names name);
  offsets = λ q. map q ∙ ap (λ (o : Option ℕ). cond (bytes_eq name q) (Some at) o) (h.offsets q)
      ∙ ap (λ (x : ℕ). cond (bytes_eq name q) (Some x) (place_in names q)) (here ∙ ap length h.strings) ∙ sym (place_new names name q missing);
  ranges = λ start r e. place_kept names name (take r.len (drop start source)) r.offset (h.ranges start r (ap (get_by (nat_cmp start)) (sym kept) ∙ e));
}

pub offset_noted : (names : List (List ℕ)) (name : List ℕ) → place_in names name ≡ None → offset_in (noted names name) name ≡ length (strings_text names)
offset_noted names name h = ap (λ (ns : List (List ℕ)). offset_in ns name) (noted_new names name h) ∙ offset_new names name (absent names name h)

pub offset_ok : {E : Type 0} (r : Result ℕ E) (names : List (List ℕ)) (name : List ℕ) → place_in names name ≡ None
    → IfOk r (λ at. at ≡ length (strings_text names)) → IfOk r (λ at. at ≡ offset_in (noted names name) name)
offset_ok (Ok at) names name h e = e ∙ sym (offset_noted names name h)
offset_ok (Err f) names name h e = e
