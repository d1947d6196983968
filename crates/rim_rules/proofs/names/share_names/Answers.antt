use Rattle.std.proofs.Common.{◌≡◌, ℕ, ◌+◌, ◌<◌, List, length, get_or, drop, map, Bool, true, false, ◌||◌, refl, ap, sym, ◌∙◌, arith}
use Rattle.std.specs.List.{list_any}
use Rattle.std.proofs.lemmas.List.{drop_more, length-drop, take_all}
use Rattle.toml.specs.View.{view}
use Rattle.toml.specs.declared.value.Value.{Value}
use Rattle.rim_rules.specs.Names.{is_named, name_of, share_names}
use Rattle.rim_rules.proofs.ListsOfValues.{list_any_map}
use Rattle.rim_rules.proofs.names.share_names.Goals as goal

-- whether one of those after the place i has its name
step : (vs rest : List Value) (i : ℕ) (v : Value) (b : Bool) (name : List ℕ) → i < length vs → v ≡ get_or vs i v → name ≡ name_of (view v)
    → rest ≡ drop (i + 1) vs
    → b ≡ list_any (λ t. is_named name (view t)) rest → share_names (map view (drop i vs)) ≡ (b || share_names (map view (drop (i + 1) vs)))
step vs rest i v b name h at named further found =
    let any : b ≡ list_any (is_named (name_of (view v))) (map view (drop (i + 1) vs)) =
    found ∙ ap (λ n. list_any (λ t. is_named n (view t)) rest) named ∙ sym (list_any_map (is_named (name_of (view v))) view rest)
    ∙ ap (λ r. list_any (is_named (name_of (view v))) (map view r)) further in
    rw (any, drop_more vs i v h, ← at) refl

pub tables-preserved : goal.tables-preserved
tables-preserved c =
    sym (step c.args.tables.now _ c.tables.i c.index-tables-i.result false _ c.tables-test.true c.index-tables-i.is c.name.ensures
    (take_all _ _ (simp length-drop (omega arith))) c.if-is_any_named.ensures) ∙ c.tables.invariant

pub returns-then-is_any_named : goal.returns-then-is_any_named
returns-then-is_any_named c =
    sym (step c.args.tables.now _ c.tables.i c.index-tables-i.result true _ c.tables-test.true c.index-tables-i.is c.name.ensures
    (take_all _ _ (simp length-drop (omega arith))) c.if-is_any_named.ensures) ∙ c.tables.invariant
