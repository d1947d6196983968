-- The realm and its RECs are created of granules that were just delegated.
use Rattle.std.proofs.Common.{◌≡◌, ℕ, suc, ◌+◌, ◌/◌, ◌%◌, ◌^◌, ◌<◌, ◌∙◌, sym, subst, refl, ap, arith, true, false, not, ◌&&◌, leb, eqb, List, [], ◌∷◌, ◌++◌, length}
use Rattle.std.specs.List.{list_all}
use Rattle.std.proofs.lemmas.Bool.Decides.{nat_tests}
use Rattle.std.proofs.lemmas.List.{append-nil}
use Rattle.rim_desc.specs.Part.{Part, Realm}
use Rattle.rim_desc.specs.Realm.{realm_page_of}
use Rattle.rim_desc.specs.Rec.{RecData, rec_mpidr_of}
use Rattle.rim_desc.specs.declared.command.Command.{Command}
use Rattle.rim_desc.specs.declared.command.Command.TheVariants.{RealmCreate, RecCreate}
use Rattle.rmm_model.specs.Blocks.{granules, is_multiple}
use Rattle.rmm_model.specs.Space.{has}
use Rattle.rmm_model.specs.State.{State, algo_of, empty_state}
use Rattle.rmm_model.specs.Owners.{all_delegated, give, give_all, is_delegated, repeats}
use Rattle.rmm_model.specs.Checks.{is_bad_realm, is_bad_rec, rec_index}
use Rattle.rmm_model.specs.Effects.{changed, measured, parts, rec_parts}
use Rattle.rmm_model.specs.Run.{accepted, run, shown}
use Rattle.rmm_model.specs.declared.outcome.Kind.{Kind}
use Rattle.rmm_model.specs.declared.outcome.Kind.TheVariants as kind
use Rattle.rmm_model.proofs.GranulesInARow.{granules-last, repeats-granules}
use Rattle.rmm_model.proofs.KindsAfterGifts.{kind_of-other}
use Rattle.rmm_model.proofs.ListAfterList.{accepted-append, run-append, shown-append}
use Rattle.rmm_model.proofs.SameSpaces.{same-refl}
use Rattle.rmm_model.proofs.CommandsTaken.{realm_create-taken, rec_create-taken}
use Rattle.list_model.specs.Entries.{Contents, Whole, commands_of, granule, realm_entries, rec_entries}
use Rattle.list_model.specs.Leading.{Build, Built, IsBuilt, Leads, IsNextRec, opened, with_rec}
use Rattle.list_model.proofs.GranulesDelegated.{IsDelegated, all-append, all-given, are-delegated, delegate-commands, delegations, free-given, granules-multiple, granules-past, length-granules}
use Rattle.list_model.proofs.CommandsLeadOn.{measured-built, leads-cons, leads-none}

-- after granules were delegated, the rest of the commands leads on
delegated-first : (b : Build) (w : Built) (n x : ℕ) (s : State) (ds : List Command) (ps : List Part) → IsDelegated n x s
    → Leads b w (record s { owners = give_all s.owners (granules n x) kind.Delegated }) ds ps → Leads b w s (delegations n x ++ ds) ps
delegated-first b w n x s ds ps given later =
    let cs : List Command = delegations n x in
    record {
      accepted = accepted-append s cs ds ∙ (ap (λ c. c && accepted (run s cs) ds) given.accepted ∙ (ap (λ t. accepted t ds) given.leaves ∙ later.accepted));
      shown = shown-append s cs ds ∙ (ap (λ xs. xs ++ shown (run s cs) ds) given.shown ∙ (ap (λ t. shown t ds) given.leaves ∙ later.shown));
      built = subst (IsBuilt b w) (sym (run-append s cs ds ∙ ap (λ t. run t ds) given.leaves)) later.built;
    }

-- ---- the realm

pub realm-leads : (contents : Contents) (b : Build) → is_bad_realm b.params ≡ false → b.params.rtt_base ≡ b.pool → b.pool % 4096 ≡ 0
    → Leads b (opened b.params) (empty_state b.num_aux b.rule) (commands_of contents (realm_entries b.pool b.params)) (Realm (realm_page_of b.params) ∷ [])
realm-leads contents b good base at =
    let n : ℕ = b.params.rtt_num_start in
    let rd : ℕ = granule b.pool n in
    let s : State = empty_state b.num_aux b.rule in
    let given : List (ℕ × Kind) = give_all [] (granules (n + 1) b.pool) kind.Delegated in
    let s1 : State = record s { owners = given } in
    let next : State = measured (changed s1 (RealmCreate rd b.params)) (parts s1 (RealmCreate rd b.params)) in
    let all : all_delegated given (granules (n + 1) b.pool) ≡ true = all-given (n + 1) b.pool [] in
    let split = all-append (is_delegated given) (granules n b.pool) rd (sym (ap (all_delegated given) (granules-last n b.pool)) ∙ all) in
    let apart : has (granules n b.pool) rd ≡ false = granules-past n b.pool rd (omega arith) in
    let taken = realm_create-taken s1 rd b.params refl good (omega arith) split.1 (rw base split.0) (rw base apart) in
    let built : IsBuilt b (opened b.params) next = record {
      new = refl;
      params = refl;
      num_aux = refl;
      rule = refl;
      num_recs = refl;
      space = same-refl (opened b.params).space;
      some = refl;
      some_built = refl;
      pool = at;
      free = λ h o. rw base (free-given n b.pool (give given rd kind.Rd) kind.Rtt h (omega arith)
          ∙ (kind_of-other given rd h kind.Rd (λ e. omega arith) ∙ free-given (n + 1) b.pool [] kind.Delegated h (omega arith)));
    } in
    let led : Leads b (opened b.params) s1 (RealmCreate rd b.params ∷ []) (Realm (realm_page_of b.params) ∷ []) =
    leads-cons b (opened b.params) s1 next (RealmCreate rd b.params) [] (Realm (realm_page_of b.params) ∷ []) [] taken refl (leads-none b (opened b.params) next built) in
    rw (delegate-commands contents (granules (n + 1) b.pool) (Whole (RealmCreate rd b.params) ∷ []))
    (delegated-first b (opened b.params) (n + 1) b.pool s (RealmCreate rd b.params ∷ []) (Realm (realm_page_of b.params) ∷ [])
    (are-delegated (n + 1) b.pool s at (λ h o. refl)) led)

-- ---- a REC

good-mpidr : (n : ℕ) → n < 512 → (not (eqb (rec_mpidr_of n / 2 ^ 4 % 2 ^ 4) 0) ≡ false) × (leb (2 ^ 32) (rec_mpidr_of n) ≡ false)
good-mpidr n few = (
  (let e : rec_mpidr_of n / 2 ^ 4 % 2 ^ 4 ≡ 0 = omega arith in rw e refl),
  (let e : rec_mpidr_of n < 2 ^ 32 = omega arith in grind (arith, nat_tests)),
)

index-again : (n : ℕ) → n < 512 → rec_index (rec_mpidr_of n) ≡ n
index-again n few = omega arith

rec-built : (b : Build) (w : Built) (s : State) (r : RecData) → IsBuilt b w s → IsNextRec b w r
    → let g = granule b.pool w.taken in
    let s1 : State = record s { owners = give_all s.owners (granules (b.num_aux + 1) g) kind.Delegated } in
    IsBuilt b (with_rec b w) (changed s1 (RecCreate g r))
rec-built b w s r built next = record {
  new = built.new;
  params = built.params;
  num_aux = built.num_aux;
  rule = built.rule;
  num_recs = ap (λ (n : ℕ). n + 1) built.num_recs;
  space = built.space;
  some = built.some;
  some_built = built.some_built;
  pool = built.pool;
  free = λ h o.
      (let g : ℕ = granule b.pool w.taken in
      let given : List (ℕ × Kind) = give_all s.owners (granules (b.num_aux + 1) g) kind.Delegated in
      rw next.aux (free-given b.num_aux (granule b.pool (w.taken + 1)) (give given g kind.Rec) kind.RecAux h (omega arith)
      ∙ (kind_of-other given g h kind.Rec (λ e. omega arith)
      ∙ (free-given (b.num_aux + 1) g s.owners kind.Delegated h (omega arith) ∙ built.free h (omega arith)))));
}

pub rec-leads : (contents : Contents) (b : Build) (w : Built) (s : State) (r : RecData) → IsBuilt b w s → IsNextRec b w r
    → Leads b (with_rec b w) s (commands_of contents (rec_entries b.pool w.taken b.num_aux r)) (rec_parts b.rule b.params.algo r)
unfolding granules
rec-leads contents b w s r built next =
    let g : ℕ = granule b.pool w.taken in
    let s1 : State = record s { owners = give_all s.owners (granules (b.num_aux + 1) g) kind.Delegated } in
    let after : State = measured (changed s1 (RecCreate g r)) (parts s1 (RecCreate g r)) in
    let g_at : g % 4096 ≡ 0 = omega (arith, built.pool) in
    let mpidr = good-mpidr w.num_recs next.few in
    let good : is_bad_rec s.rule r ≡ false = rw (built.rule, next.flags, next.number) (rw (mpidr.0, mpidr.1) refl) in
    let one : b.num_aux + 1 ≡ suc b.num_aux = omega arith in
    let second : granule b.pool (w.taken + 1) ≡ g + 4096 = omega arith in
    let all : g ∷ r.aux ≡ granules (b.num_aux + 1) g = rw (next.aux, second, one) refl in
    let own : all_delegated s1.owners (g ∷ r.aux) ≡ true = ap (all_delegated s1.owners) all ∙ all-given (b.num_aux + 1) g s.owners in
    let apart : repeats (g ∷ r.aux) ≡ false = ap repeats all ∙ repeats-granules (b.num_aux + 1) g in
    let places : list_all (is_multiple 4096) r.aux ≡ true = rw next.aux (granules-multiple b.num_aux (granule b.pool (w.taken + 1)) (omega (arith, built.pool))) in
    let index : rec_index r.mpidr ≡ s.num_recs = rw next.number (index-again w.num_recs next.few ∙ sym built.num_recs) in
    let count : length r.aux ≡ s.num_aux = rw next.aux (length-granules b.num_aux (granule b.pool (w.taken + 1)) ∙ sym built.num_aux) in
    let taken = rec_create-taken s1 g r built.new good g_at places index count own apart in
    let algo : algo_of s.params ≡ b.params.algo = rw built.params refl in
    let ps : List Part = rec_parts b.rule b.params.algo r in
    let said : parts s1 (RecCreate g r) ≡ ps = ap (λ a. rec_parts s.rule a r) algo ∙ ap (λ rule. rec_parts rule b.params.algo r) built.rule in
    let led : Leads b (with_rec b w) s1 (RecCreate g r ∷ []) ps =
    subst (Leads b (with_rec b w) s1 (RecCreate g r ∷ [])) (append-nil ps)
    (leads-cons b (with_rec b w) s1 after (RecCreate g r) [] ps [] taken said
    (leads-none b (with_rec b w) after (measured-built b (with_rec b w) _ (parts s1 (RecCreate g r)) (rec-built b w s r built next)))) in
    rw (delegate-commands contents (granules (b.num_aux + 1) g) (Whole (RecCreate g r) ∷ []))
    (delegated-first b (with_rec b w) (b.num_aux + 1) g s (RecCreate g r ∷ []) ps
    (are-delegated (b.num_aux + 1) g s g_at built.free) led)
