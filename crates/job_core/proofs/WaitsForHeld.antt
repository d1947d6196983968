-- Where no page is free, no launch that is free is ready and not all is done, some worker holds a job.
use Rattle.std.proofs.Common.{◌≡◌, ℕ, suc, ◌<◌, Bool, true, false, ◌&&◌, List, [], ◌∷◌, length, get_or, Some, refl, sym, ap, ◌∙◌, arith}
use Rattle.std.specs.List.{All, slice_get, list_all}
use Rattle.std.proofs.lemmas.Bool.{true≢false}
use Rattle.std.proofs.lemmas.Option.{slice_get-get_or}
use Rattle.job_core.specs.declared.job.JobId.TheVariants.{Page, Launch}
use Rattle.job_core.specs.declared.job.JobState.{JobState}
use Rattle.job_core.specs.declared.job.JobState.TheVariants.{Free, Held, Done}
use Rattle.job_core.specs.Jobs.{CoreState, IsCore, NoneFree, NoneOpen, SomeHeld, is_done, is_over, is_page_done}
use Rattle.job_core.proofs.NeverStuck.{needs_at, some_open}

-- a page that is not done is held, since none is free
held_page : (s : CoreState) (j : ℕ) (x : JobState) → NoneFree s.pages → slice_get s.pages j ≡ Some x → is_done x ≡ false → SomeHeld s
held_page s j Free none at undone = absurd (none j at)
held_page s j (Held w) none at undone = (Page j, w, at)
held_page s j Done none at undone = absurd (true≢false undone)

-- where not all pages that a launch needs are done, one of them is held
held_first : (s : CoreState) (p : ℕ) (ps : List ℕ) (b : Bool) → is_page_done s.pages p ≡ b → NoneFree s.pages → p < length s.pages
    → list_all (is_page_done s.pages) (p ∷ ps) ≡ false → (list_all (is_page_done s.pages) ps ≡ false → SomeHeld s) → SomeHeld s
held_first s p ps false is none within h more = held_page s p (get_or s.pages p Free) none (slice_get-get_or s.pages p Free within) is
held_first s p ps true is none within h more = more (sym (ap (λ (b : Bool). b && list_all (is_page_done s.pages) ps) is) ∙ h)

held_need : (s : CoreState) (ps : List ℕ) → NoneFree s.pages → All (λ p. p < length s.pages) ps → list_all (is_page_done s.pages) ps ≡ false → SomeHeld s
held_need s [] none within h = absurd (true≢false h)
held_need s (p ∷ ps) none within h =
    let rest : All (λ p. p < length s.pages) ps = λ k d lt. within (suc k) d (let lt' : suc k < suc (length ps) = omega (arith, lt) in lt') in
    held_first s p ps (is_page_done s.pages p) refl none (within 0 0 (omega arith)) h (λ e. held_need s ps none rest e)

-- a launch that is not done is held, or a page that it needs
held_launch : (s : CoreState) (l : ℕ) (x : JobState) → IsCore s → NoneFree s.pages → NoneOpen s → slice_get s.launches l ≡ Some x
    → is_done x ≡ false → SomeHeld s
held_launch s l Free core none closed at undone = held_need s (get_or s.needs l []) none (needs_at (λ p. p < length s.pages) s.needs l core.needs) (closed l at)
held_launch s l (Held w) core none closed at undone = (Launch l, w, at)
held_launch s l Done core none closed at undone = absurd (true≢false undone)

-- some job is not done, and it is held, or it waits for one that is held
pub some_held : (s : CoreState) → IsCore s → NoneFree s.pages → is_over s ≡ false → NoneOpen s → SomeHeld s
some_held s core none more closed = by (list_all is_done s.pages) refl
  where
    by : (b : Bool) → list_all is_done s.pages ≡ b → SomeHeld s
    by false pages =
        let o = some_open s.pages pages in
        held_page s o.0 o.1 none o.2 o.3
    by true pages =
        let launches : list_all is_done s.launches ≡ false = sym (ap (λ (b : Bool). b && list_all is_done s.launches) pages) ∙ more in
        let o = some_open s.launches launches in
        held_launch s o.0 o.1 core none closed o.2 o.3
