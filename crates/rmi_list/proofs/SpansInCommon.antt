-- Lists whose first spans are common have the same first commands.
use Rattle.std.proofs.Common.{◌≡◌, ℕ, ◌+◌, ◌<◌, ◌≤◌, ◌∙◌, Bool, true, List, [], ◌∷◌, ◌++◌, length, take, drop, get_or, refl, ap, sym, subst, arith, suc}
use Rattle.std.specs.Prelude.{Some, slice_get}
use Rattle.std.proofs.lemmas.Grind.{flat_map-append}
use Rattle.std.proofs.lemmas.List.{append-nil, length-append, length-map, map-append, take-append-drop}
use Rattle.std.proofs.Math.Seq.{take-append_seam, take-suc}
use Rattle.rim_desc.specs.declared.command.Command.{Command}
use Rattle.rim_desc.specs.declared.command.Command.TheVariants.{DataCreate, Delegate}
use Rattle.rim_desc.specs.declared.measurement.Measurement.{Measurement}
use Rattle.rim_desc.specs.declared.realm.RealmParams.{RealmParams}
use Rattle.rmm_model.specs.Blocks.{granules}
use Rattle.list_model.specs.declared.content.PageContent.{PageContent}
use Rattle.list_model.specs.declared.content.PageContent.TheVariants.{Measured, Unmeasured, Unknown}
use Rattle.list_model.specs.Content.{is_measured}
use Rattle.list_model.specs.Entries.{Contents, command_of, commands_of, granule, page_entry}
use Rattle.list_model.specs.inside.Acts.{entries_of_pages}
use Rattle.ipa_layout.specs.declared.rec.PlacedRec.{PlacedRec}
use Rattle.rmi_list.specs.Common.{AgreeOn}
use Rattle.rmi_list.specs.declared.span.Span.{Span}
use Rattle.rmi_list.specs.declared.span.Span.TheVariants as span
use Rattle.rmi_list.specs.inside.Common.{AreCommon, IsCommon}
use Rattle.rmi_list.specs.inside.Plans.{AreStarts}
use Rattle.rmi_list.specs.inside.Spans.{entries_of, entries_of_span}
use Rattle.rmi_list.proofs.CommandsOfSpans.{length-of}

-- ---- one span

same-page : (marks : List Bool) (f g : Contents) → AgreeOn marks f g → (b : PageContent) (pa ipa item k : ℕ) → (is_measured b ≡ true → slice_get marks item ≡ Some true)
    → command_of f (page_entry b pa ipa item k) ≡ command_of g (page_entry b pa ipa item k)
same-page marks f g agree Measured pa ipa item k marked = ap (λ (m : Measurement). DataCreate pa ipa (Some m)) (agree item k (marked refl))
same-page marks f g agree Unmeasured pa ipa item k marked = refl
same-page marks f g agree Unknown pa ipa item k marked = refl

same-pages : (marks : List Bool) (f g : Contents) → AgreeOn marks f g → (pool n : ℕ) (b : PageContent) (item k : ℕ) (xs : List ℕ) → (is_measured b ≡ true → slice_get marks item ≡ Some true)
    → commands_of f (entries_of_pages pool n b item k xs) ≡ commands_of g (entries_of_pages pool n b item k xs)
unfolding entries_of_pages
same-pages marks f g agree pool n b item k [] marked = refl
same-pages marks f g agree pool n b item k (x ∷ xs) marked =
    ap (λ (c : Command). Delegate (granule pool n) ∷ c ∷ commands_of f (entries_of_pages pool (n + 1) b item (k + 1) xs)) (same-page marks f g agree b (granule pool n) x item k marked)
    ∙ ap (λ (cs : List Command). Delegate (granule pool n) ∷ command_of g (page_entry b (granule pool n) x item k) ∷ cs) (same-pages marks f g agree pool (n + 1) b item (k + 1) xs marked)

-- the same pages of an item that is marked, or that is not measured
pub common-pages : (marks : List Bool) (recs others : List PlacedRec) (a b : Span) (n ipa item : ℕ) (known : PageContent) (page count : ℕ)
    → a ≡ b → a ≡ span.Pages n ipa item known page count → (is_measured known ≡ true → slice_get marks item ≡ Some true) → IsCommon marks recs a others b
common-pages marks recs others a b n ipa item known page count same is marked = λ params num_aux f g agree.
    subst (λ (s : Span). commands_of f (entries_of_span params num_aux recs s) ≡ commands_of g (entries_of_span params num_aux others b)) (sym is)
    (subst (λ (s : Span). commands_of f (entries_of_span params num_aux recs (span.Pages n ipa item known page count)) ≡ commands_of g (entries_of_span params num_aux others s)) (sym is ∙ same)
    (same-pages marks f g agree params.rtt_base n known item page (granules count ipa) marked))

-- ---- some spans

-- none
pub none-common : (marks : List Bool) (recs others : List PlacedRec) → AreCommon marks recs [] others []
none-common marks recs others = λ params num_aux f g agree. refl

commands-append : (f : Contents) (params : RealmParams) (num_aux : ℕ) (recs : List PlacedRec) (ks : List Span) (k : Span)
    → commands_of f (entries_of params num_aux recs (ks ++ k ∷ [])) ≡ commands_of f (entries_of params num_aux recs ks) ++ commands_of f (entries_of_span params num_aux recs k)
commands-append f params num_aux recs ks k =
    ap (commands_of f) (flat_map-append (entries_of_span params num_aux recs) ks (k ∷ []) ∙ ap (λ es. entries_of params num_aux recs ks ++ es) (append-nil (entries_of_span params num_aux recs k)))
    ∙ map-append (command_of f) (entries_of params num_aux recs ks) (entries_of_span params num_aux recs k)

-- one more
pub more-common : (marks : List Bool) (recs others : List PlacedRec) (ks ls : List Span) (i : ℕ) (d e : Span) → i < length ks → i < length ls
    → IsCommon marks recs (get_or ks i d) others (get_or ls i e) → AreCommon marks recs (take i ks) others (take i ls)
    → AreCommon marks recs (take (i + 1) ks) others (take (i + 1) ls)
more-common marks recs others ks ls i d e inside within here are = λ params num_aux f g agree.
    let next : i + 1 ≡ suc i = omega arith in
    let own : take (i + 1) ks ≡ take i ks ++ get_or ks i d ∷ [] = ap (λ (n : ℕ). take n ks) next ∙ take-suc ks i d inside in
    let other : take (i + 1) ls ≡ take i ls ++ get_or ls i e ∷ [] = ap (λ (n : ℕ). take n ls) next ∙ take-suc ls i e within in
    ap (λ (xs : List Span). commands_of f (entries_of params num_aux recs xs)) own
    ∙ commands-append f params num_aux recs (take i ks) (get_or ks i d)
    ∙ ap (λ (cs : List Command). cs ++ commands_of f (entries_of_span params num_aux recs (get_or ks i d))) (are params num_aux f g agree)
    ∙ ap (λ (cs : List Command). commands_of g (entries_of params num_aux others (take i ls)) ++ cs) (here params num_aux f g agree)
    ∙ sym (ap (λ (xs : List Span). commands_of g (entries_of params num_aux others xs)) other ∙ commands-append g params num_aux others (take i ls) (get_or ls i e))

-- ---- the lists

-- a list begins with the commands of its first spans
begins : (f : Contents) (params : RealmParams) (num_aux : ℕ) (recs : List PlacedRec) (ks : List Span) (i : ℕ)
    → commands_of f (entries_of params num_aux recs ks) ≡ commands_of f (entries_of params num_aux recs (take i ks)) ++ commands_of f (entries_of params num_aux recs (drop i ks))
begins f params num_aux recs ks i =
    ap (λ (xs : List Span). commands_of f (entries_of params num_aux recs xs)) (sym (take-append-drop i ks))
    ∙ ap (commands_of f) (flat_map-append (entries_of_span params num_aux recs) (take i ks) (drop i ks))
    ∙ map-append (command_of f) (entries_of params num_aux recs (take i ks)) (entries_of params num_aux recs (drop i ks))

-- as many as the start after them says
pub how-many : (f : Contents) (params : RealmParams) (num_aux : ℕ) (recs : List PlacedRec) (ks : List Span) (starts : List ℕ) (i : ℕ) → AreStarts ks starts → i ≤ length ks
    → length (commands_of f (entries_of params num_aux recs (take i ks))) ≡ get_or starts i 0
how-many f params num_aux recs ks starts i are inside =
    length-map (entries_of params num_aux recs (take i ks)) (command_of f) ∙ length-of params num_aux recs (take i ks) ∙ sym (are.at i inside)

-- so lists with common first spans have the same first commands
pub same-first : (marks : List Bool) (params : RealmParams) (num_aux : ℕ) (recs others : List PlacedRec) (ks ls : List Span) (starts : List ℕ) (i n : ℕ)
    → AreStarts ks starts → i ≤ length ks → n ≡ get_or starts i 0 → AreCommon marks recs (take i ks) others (take i ls)
    → (f g : Contents) → AgreeOn marks f g → take n (commands_of f (entries_of params num_aux recs ks)) ≡ take n (commands_of g (entries_of params num_aux others ls))
same-first marks params num_aux recs others ks ls starts i n are inside is common f g agree =
    let own : List Command = commands_of f (entries_of params num_aux recs (take i ks)) in
    let other : List Command = commands_of g (entries_of params num_aux others (take i ls)) in
    let same : own ≡ other = common params num_aux f g agree in
    let count : n ≡ length own = is ∙ sym (how-many f params num_aux recs ks starts i are inside) in
    let counted : n ≡ length other = count ∙ ap length same in
    ap (take n) (begins f params num_aux recs ks i)
    ∙ ap (λ (m : ℕ). take m (own ++ commands_of f (entries_of params num_aux recs (drop i ks)))) count
    ∙ take-append_seam own (commands_of f (entries_of params num_aux recs (drop i ks)))
    ∙ same
    ∙ sym (ap (take n) (begins g params num_aux others ls i)
    ∙ ap (λ (m : ℕ). take m (other ++ commands_of g (entries_of params num_aux others (drop i ls)))) counted
    ∙ take-append_seam other (commands_of g (entries_of params num_aux others (drop i ls))))

-- ---- how many they are

nothing : Contents
nothing = λ item page. record { bytes = [] }

first-length : (f : Contents) (params : RealmParams) (num_aux : ℕ) (recs : List PlacedRec) (ks : List Span) (i : ℕ)
    → length (commands_of f (entries_of params num_aux recs (take i ks))) ≤ length (entries_of params num_aux recs ks)
first-length f params num_aux recs ks i =
    let own : List Command = commands_of f (entries_of params num_aux recs (take i ks)) in
    let rest : List Command = commands_of f (entries_of params num_aux recs (drop i ks)) in
    let all : length (commands_of f (entries_of params num_aux recs ks)) ≡ length own + length rest = ap length (begins f params num_aux recs ks i) ∙ length-append own rest in
    let same : length (commands_of f (entries_of params num_aux recs ks)) ≡ length (entries_of params num_aux recs ks) = length-map (entries_of params num_aux recs ks) (command_of f) in
    omega (arith, all, same)

pub own-length : (params : RealmParams) (num_aux : ℕ) (recs : List PlacedRec) (ks : List Span) (starts : List ℕ) (i n : ℕ)
    → AreStarts ks starts → i ≤ length ks → n ≡ get_or starts i 0 → n ≤ length (entries_of params num_aux recs ks)
own-length params num_aux recs ks starts i n are inside is =
    let count = how-many nothing params num_aux recs ks starts i are inside in
    omega (arith, is, count, first-length nothing params num_aux recs ks i)

pub other-length : (marks : List Bool) (params : RealmParams) (num_aux : ℕ) (recs others : List PlacedRec) (ks ls : List Span) (starts : List ℕ) (i n : ℕ)
    → AreStarts ks starts → i ≤ length ks → n ≡ get_or starts i 0 → AreCommon marks recs (take i ks) others (take i ls) → n ≤ length (entries_of params num_aux others ls)
other-length marks params num_aux recs others ks ls starts i n are inside is common =
    let count = how-many nothing params num_aux recs ks starts i are inside in
    let same = ap length (common params num_aux nothing nothing (λ item page marked. refl)) in
    omega (arith, is, count, same, first-length nothing params num_aux others ls i)
