-- The steps of a launch without faults are those that its texts spell.
use Rattle.std.proofs.Common.{◌≡◌, ℕ, ◌<◌, ◌≤◌, List, [], ◌∷◌, ◌++◌, length, map, take, drop, Bool, true, false, cond, Option, Some, None, refl, ap, subst, sym}
use Rattle.std.proofs.Common.{◌∙◌, arith}
use Rattle.std.specs.Prelude.{option_map, unwrap_or}
use Rattle.std.specs.List.{list_all}
use Rattle.std.specs.Str.{bytes_eq}
use Rattle.std.specs.Str.Parse.{digits_value}
use Rattle.std.proofs.lemmas.Bool.{ltb-true, and_parts}
use Rattle.std.proofs.lemmas.List.{take-append-drop}
use Rattle.std.proofs.lemmas.Slice.Eq.{bytes_eq-Decides}
use Rattle.toml.specs.Data.{Data, string}
use Rattle.rim_launch.specs.Steps.{names_something}
use Rattle.rim_launch.specs.declared.step.Step.{Step}
use Rattle.rim_launch.specs.declared.step.Step.TheVariants as step
use Rattle.rim_rules.specs.Forms.{is_text}
use Rattle.rim_manifest.specs.Given.{EachGives, GivesStep, SpellsNumber, SpellsStep}
use Rattle.rim_rules.specs.Names.{is_named, name_of}
use Rattle.rim_manifest.specs.StepTexts.{decimal_number, is_decimal, item_number, or_else, step_in, step_of}
use Rattle.rim_rules.specs.Kinds.{step_front}
use Rattle.rim_rules.specs.declared.kind.StepKind.TheVariants as about
use Rattle.rim_rules.specs.Words.{after}
use Rattle.rim_rules.proofs.ItemsFromTables.{found_at}

-- what follows some first bytes
followed : (first text rest : List ℕ) → after first text ≡ Some rest → text ≡ first ++ rest
followed first text rest e = go (bytes_eq (take (length first) text) first) refl e
  where
    go : (b : Bool) → bytes_eq (take (length first) text) first ≡ b → cond b (Some (drop (length first) text)) None ≡ Some rest → text ≡ first ++ rest
    go true begins h =
        let front : take (length first) text ≡ first = (bytes_eq-Decides (take (length first) text) first).0 begins in
        let back : drop (length first) text ≡ rest = cc in
        sym (take-append-drop (length first) text) ∙ ap (λ ts. ts ++ drop (length first) text) front ∙ ap (λ ts. first ++ ts) back
    go false begins h = cc

number_spelled : (first text : List ℕ) (o : Option (List ℕ)) (n : ℕ) → after first text ≡ o → decimal_number o ≡ Some n → SpellsNumber first text n
number_spelled first text None n e h = cc
number_spelled first text (Some digits) n e h = go (is_decimal digits) refl h
  where
    go : (b : Bool) → is_decimal digits ≡ b → cond b (Some (digits_value 10 digits)) None ≡ Some n → SpellsNumber first text n
    go true test k = let value : digits_value 10 digits ≡ n = cc in (digits, followed first text digits e, test, value)
    go false test k = cc

item_spelled : (items : List Data) (text : List ℕ) (o : Option (List ℕ)) (n : ℕ) → after (step_front about.Item) text ≡ o
    → item_number items o ≡ Some n → SpellsStep items text (step.Item n)
item_spelled items text None n e h = cc
item_spelled items text (Some name) n e h =
    let found = found_at (is_named name) items n h in
    let named : name_of found.0 ≡ name = (bytes_eq-Decides (name_of found.0) name).0 found.2 in
    (found.0, found.1, followed (step_front about.Item) text name e ∙ ap (λ ts. step_front about.Item ++ ts) (sym named))

-- the step that a text spells
step_spelled : (items : List Data) (text : List ℕ) (s : Step) → step_of items text ≡ Some s → SpellsStep items text s
step_spelled items text s e = of_ram (decimal_number (after (step_front about.Ram) text)) refl e
  where
    of_rec : (o : Option ℕ) → decimal_number (after (step_front about.Rec) text) ≡ o → option_map step.Rec o ≡ Some s → SpellsStep items text s
    of_rec None h k = cc
    of_rec (Some n) h k = let same : step.Rec n ≡ s = cc in subst (SpellsStep items text) same (number_spelled (step_front about.Rec) text _ n refl h)

    of_item : (o : Option ℕ) → item_number items (after (step_front about.Item) text) ≡ o
        → or_else (option_map step.Item o) (option_map step.Rec (decimal_number (after (step_front about.Rec) text))) ≡ Some s → SpellsStep items text s
    of_item None h k = of_rec (decimal_number (after (step_front about.Rec) text)) refl k
    of_item (Some n) h k = let same : step.Item n ≡ s = cc in subst (SpellsStep items text) same (item_spelled items text _ n refl h)

    of_ram : (o : Option ℕ) → decimal_number (after (step_front about.Ram) text) ≡ o
        → or_else (option_map step.Ram o)
        (or_else (option_map step.Item (item_number items (after (step_front about.Item) text)))
        (option_map step.Rec (decimal_number (after (step_front about.Rec) text))))
        ≡ Some s
        → SpellsStep items text s
    of_ram None h k = of_item (item_number items (after (step_front about.Item) text)) refl k
    of_ram (Some n) h k = let same : step.Ram n ≡ s = cc in subst (SpellsStep items text) same (number_spelled (step_front about.Ram) text _ n refl h)

-- a text whose step names something spells that step
one_given : (items : List Data) (regions things recs : ℕ) (d : Data) → regions ≤ 64 → is_text d ≡ true
    → names_something regions things recs (step_in items d) ≡ true → GivesStep items d (step_in items d)
one_given items regions things recs (string text) few t e = go (step_of items text) refl e
  where
    go : (o : Option Step) → step_of items text ≡ o → names_something regions things recs (unwrap_or o (step.Ram 64)) ≡ true
        → SpellsStep items text (unwrap_or o (step.Ram 64))
    go (Some s) h k = step_spelled items text s h
    go None h k = absurd (let low : 64 < regions = ltb-true _ _ k in omega (arith, low, few))
one_given items regions things recs _ few t e = cc

pub texts_given : (items : List Data) (regions things recs : ℕ) (ds : List Data) → regions ≤ 64 → list_all is_text ds ≡ true
    → list_all (names_something regions things recs) (map (step_in items) ds) ≡ true → EachGives (GivesStep items) ds (map (step_in items) ds)
texts_given items regions things recs [] few t e = tt
texts_given items regions things recs (d ∷ ds) few t e =
    let texts = and_parts (is_text d) (list_all is_text ds) t in
    let named = and_parts (names_something regions things recs (step_in items d)) (list_all (names_something regions things recs) (map (step_in items) ds)) e in
    (one_given items regions things recs d few texts.0 named.0, texts_given items regions things recs ds few texts.1 named.1)
