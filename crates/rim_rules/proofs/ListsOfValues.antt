-- The lists of a value's parts are those of the vectors and maps that hold them.
use Rattle.std.proofs.Common.{◌≡◌, ℕ, suc, Bool, ◌&&◌, ◌||◌, List, [], ◌∷◌, length, map, string_bytes, refl, ap, ◌∙◌}
use Rattle.std.specs.List.{list_all, list_any}
use Rattle.std.specs.Map.{keys_of}
use Rattle.toml.specs.Data.{Data}
use Rattle.toml.specs.View.{view, items_view, members_view}
use Rattle.toml.specs.declared.value.Value.{Value}
use Rattle.toml.proofs.Views.{Entry}
use Rattle.rim_rules.specs.Forms.{items_list, keys_list}

pub items_list-view : (vs : List Value) → items_list (items_view vs) ≡ map view vs
items_list-view [] = refl
items_list-view (v ∷ vs) = ap (λ ds. view v ∷ ds) (items_list-view vs)

pub length-items_list : (vs : List Value) → length (items_list (items_view vs)) ≡ length vs
length-items_list [] = refl
length-items_list (v ∷ vs) = ap suc (length-items_list vs)

pub all_items : (p : Data → Bool) (vs : List Value) → list_all p (items_list (items_view vs)) ≡ list_all (λ v. p (view v)) vs
all_items p [] = refl
all_items p (v ∷ vs) = ap (λ b. p (view v) && b) (all_items p vs)

-- What is read of values of TOML, by the definitions of what they are read as
pub map_of_views : {X : Type 0} (f : Data → X) (vs : List Value) (ds : List Data) → map view vs ≡ ds → map (λ v. f (view v)) vs ≡ map f ds
map_of_views f vs ds e = each vs ∙ ap (map f) e
  where
    each : (us : List Value) → map (λ v. f (view v)) us ≡ map f (map view us)
    each [] = refl
    each (u ∷ us) = ap (λ xs. f (view u) ∷ xs) (each us)

pub any_key : (p : List ℕ → Bool) (es : List Entry) → list_any p (keys_list (members_view es)) ≡ list_any (λ k. p (string_bytes k)) (keys_of es)
any_key p [] = refl
any_key p (e ∷ es) = ap (λ b. p (string_bytes e.0) || b) (any_key p es)

pub list_any_map : {X Y : Type 0} (p : Y → Bool) (f : X → Y) (xs : List X) → list_any p (map f xs) ≡ list_any (λ x. p (f x)) xs
list_any_map p f [] = refl
list_any_map p f (x ∷ xs) = ap (λ b. p (f x) || b) (list_any_map p f xs)
