-- The begin of a list: the granules of the start tables, that of the realm descriptor, and the realm.
use Rattle.std.proofs.Common.{inl, inr, ◌≡◌, ℕ, ◌+◌, ◌*◌, ◌<◌, ◌∙◌, sym, refl, ap, subst, arith, List, [], ◌∷◌, ◌++◌, ◌⊎◌, append_assoc}
use Rattle.std.proofs.lemmas.List.{map-append}
use Rattle.rim_desc.specs.declared.command.Command.TheVariants.{Delegate, RealmCreate}
use Rattle.rmm_model.specs.Blocks.{granules}
use Rattle.rmm_model.specs.Start.{start_count}
use Rattle.rmm_model.proofs.GranulesInARow.{granules-last}
use Rattle.list_model.specs.Entries.{Entry, Whole, delegate_all, delegated, granule}
use Rattle.list_model.proofs.GranulesOfEntries.{count-all}
use Rattle.rim_launch.specs.Realm.{realm_params}
use Rattle.rim_launch.specs.declared.config.Config.{Config}
use Rattle.rmi_list.specs.declared.draft.Draft.{Draft}
use Rattle.rmi_list.specs.declared.step_fault.StepFault.{StepFault}
use Rattle.rmi_list.specs.declared.step_fault.StepFault.TheVariants as fault
use Rattle.rmi_list.specs.declared.span.Span.TheVariants as span
use Rattle.rmi_list.specs.Listed.{opening_entries}
use Rattle.rmi_list.specs.inside.Drafts.{Grows, Refuses, span_in}
use Rattle.rmi_list.proofs.EntryByEntry.{pool_of}
use Rattle.rmi_list.proofs.StepsAreListed.{grows-then, refused-first, refused-later}

abbrev pub table_granules : Config → List Entry
table_granules c = delegate_all (granules (start_count c.s2sz) (granule c.pool_base 0))

abbrev pub descriptor_granule : Config → List Entry
descriptor_granule c = Whole (Delegate (granule c.pool_base (start_count c.s2sz))) ∷ []

abbrev pub realm_itself : Config → List Entry
realm_itself c = Whole (RealmCreate (granule c.pool_base (start_count c.s2sz)) (realm_params c)) ∷ []

pub opening-split : (c : Config) → opening_entries c ≡ table_granules c ++ (descriptor_granule c ++ realm_itself c)
opening-split c =
    let n : ℕ = start_count c.s2sz in
    let first : granule c.pool_base 0 ≡ c.pool_base = omega arith in
    let delegates : delegate_all (granules (n + 1) c.pool_base) ≡ delegate_all (granules n c.pool_base) ++ descriptor_granule c =
    ap delegate_all (granules-last n c.pool_base) ∙ map-append (λ (g : ℕ). Whole (Delegate g)) (granules n c.pool_base) ((c.pool_base + 4096 * n) ∷ []) in
    ap (λ es. es ++ realm_itself c) delegates ∙ append_assoc (delegate_all (granules n c.pool_base)) (descriptor_granule c) (realm_itself c)
    ∙ ap (λ (x : ℕ). delegate_all (granules n x) ++ (descriptor_granule c ++ realm_itself c)) (sym first)

-- a draft of this launch that has taken nothing
pub record IsFresh (c : Config) (d : Draft) : Type 0 where
  pub config : d.config ≡ c
  pub taken : d.taken ≡ 0

pub tables-same : (c : Config) (d : Draft) (n : ℕ) → IsFresh c d → n ≡ start_count c.s2sz
    → delegate_all (granules n (granule (pool_of d) d.taken)) ≡ table_granules c
tables-same c d n fresh count =
    ap (λ (m : ℕ). delegate_all (granules m (granule (pool_of d) d.taken))) count
    ∙ ap (λ (t : ℕ). delegate_all (granules (start_count c.s2sz) (granule (pool_of d) t))) fresh.taken
    ∙ ap (λ (k : Config). delegate_all (granules (start_count c.s2sz) (granule k.pool_base 0))) fresh.config

-- after the start tables their number was taken
pub descriptor-next : (c : Config) (d e : Draft) → IsFresh c d → Grows d e (table_granules c) → e.taken ≡ start_count c.s2sz
descriptor-next c d e fresh grows =
    let more : e.taken ≡ d.taken + delegated (table_granules c) = grows.taken in
    let count : delegated (table_granules c) ≡ start_count c.s2sz = count-all (start_count c.s2sz) (granule c.pool_base 0) in
    let none : d.taken ≡ 0 = fresh.taken in
    omega arith

pub descriptor-same : (c : Config) (d e : Draft) → IsFresh c d → Grows d e (table_granules c)
    → (let es : List Entry = Whole (Delegate (granule (pool_of e) e.taken)) ∷ [] in es) ≡ descriptor_granule c
descriptor-same c d e fresh grows =
    let config : e.config ≡ c = grows.config ∙ fresh.config in
    ap (λ (t : ℕ). (let es : List Entry = Whole (Delegate (granule (pool_of e) t)) ∷ [] in es)) (descriptor-next c d e fresh grows)
    ∙ ap (λ (k : Config). (let es : List Entry = Whole (Delegate (granule k.pool_base (start_count c.s2sz))) ∷ [] in es)) config

pub realm-same : (c : Config) (e : Draft) (rd : ℕ) → e.config ≡ c → rd ≡ start_count c.s2sz
    → (let es : List Entry = span_in e (span.RealmCreate rd) in es) ≡ realm_itself c
realm-same c e rd config at =
    ap (λ (k : Config). (let es : List Entry = Whole (RealmCreate (granule k.pool_base rd) (realm_params k)) ∷ [] in es)) config
    ∙ ap (λ (n : ℕ). (let es : List Entry = Whole (RealmCreate (granule c.pool_base n) (realm_params c)) ∷ [] in es)) at

-- the whole begin
pub opening-grows : (c : Config) (d e f g : Draft) (rd : ℕ) → IsFresh c d → Grows d e (table_granules c) → Grows e f (descriptor_granule c) → rd ≡ e.taken
    → Grows f g (span_in f (span.RealmCreate rd)) → Grows d g (opening_entries c)
opening-grows c d e f g rd fresh tables descriptor at realm =
    let config : f.config ≡ c = descriptor.config ∙ tables.config ∙ fresh.config in
    let last : Grows f g (realm_itself c) = subst (Grows f g) (realm-same c f rd config (at ∙ descriptor-next c d e fresh tables)) realm in
    rw (opening-split c) (grows-then d e g (table_granules c) (descriptor_granule c ++ realm_itself c) tables (grows-then e f g (descriptor_granule c) (realm_itself c) descriptor last))

-- what is refused for a part of it is refused for all of it
pub opening-refused : (c : Config) (d : Draft) (e : StepFault) → IsFresh c d → Refuses d e (table_granules c ++ (descriptor_granule c ++ realm_itself c))
    → (e ≡ fault.NoMemory) ⊎ (c.pool_count < delegated (opening_entries c))
opening-refused c d e fresh (inl memory) = inl memory
opening-refused c d e fresh (inr full) =
    let es : List Entry = table_granules c ++ (descriptor_granule c ++ realm_itself c) in
    let small : d.config.pool_count < d.taken + delegated es = full.1 in
    let none : d.taken ≡ 0 = fresh.taken in
    let size : d.config.pool_count ≡ c.pool_count = ap (λ (k : Config). k.pool_count) fresh.config in
    let same : delegated (opening_entries c) ≡ delegated es = ap delegated (opening-split c) in
    inr (omega arith)

-- ---- the begin as the code makes it, from a draft that has taken nothing

-- the granules of n start tables are those of the launch's
first-tables : (d : Draft) (n : ℕ) → n ≡ start_count d.config.s2sz → d.taken ≡ 0 → delegate_all (granules n (granule (pool_of d) d.taken)) ≡ table_granules d.config
first-tables d n count none = tables-same d.config d n (record { config = refl; taken = none }) count

pub first-grows : (d e f g : Draft) (n rd : ℕ) → n ≡ start_count d.config.s2sz → d.taken ≡ 0
    → Grows d e (delegate_all (granules n (granule (pool_of d) d.taken))) → Grows e f (Whole (Delegate (granule (pool_of e) e.taken)) ∷ []) → rd ≡ e.taken
    → Grows f g (span_in f (span.RealmCreate rd)) → Grows d g (opening_entries d.config)
first-grows d e f g n rd count none grown next at realm =
    let fresh : IsFresh d.config d = record { config = refl; taken = none } in
    let tables : Grows d e (table_granules d.config) = rw (← first-tables d n count none) grown in
    let descriptor : Grows e f (descriptor_granule d.config) = rw (← descriptor-same d.config d e fresh tables) next in
    opening-grows d.config d e f g rd fresh tables descriptor at realm

pub first-tables-refused : (d : Draft) (e : StepFault) (n : ℕ) → n ≡ start_count d.config.s2sz → d.taken ≡ 0
    → Refuses d e (delegate_all (granules n (granule (pool_of d) d.taken))) → (e ≡ fault.NoMemory) ⊎ (d.config.pool_count < delegated (opening_entries d.config))
first-tables-refused d e n count none refuses =
    let refused : Refuses d e (table_granules d.config) = rw (← first-tables d n count none) refuses in
    opening-refused d.config d e (record { config = refl; taken = none }) (refused-first d e (table_granules d.config) (descriptor_granule d.config ++ realm_itself d.config) refused)

pub first-descriptor-refused : (d b : Draft) (e : StepFault) (n : ℕ) → n ≡ start_count d.config.s2sz → d.taken ≡ 0
    → Grows d b (delegate_all (granules n (granule (pool_of d) d.taken))) → Refuses b e (descriptor_granule d.config)
    → (e ≡ fault.NoMemory) ⊎ (d.config.pool_count < delegated (opening_entries d.config))
first-descriptor-refused d b e n count none grown refuses =
    let tables : Grows d b (table_granules d.config) = rw (← first-tables d n count none) grown in
    opening-refused d.config d e (record { config = refl; taken = none })
    (refused-later d b e (table_granules d.config) (descriptor_granule d.config ++ realm_itself d.config) tables
    (refused-first b e (descriptor_granule d.config) (realm_itself d.config) refuses))
