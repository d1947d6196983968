-- What is found of a launch that is accepted, and of one that is refused.
use Rattle.std.proofs.Common.{◌≡◌, ◌∙◌, ◌||◌, ℕ, Bool, true, false, List, [], ◌++◌, Some, ap, refl, subst, sym}
use Rattle.std.specs.Prelude.{Result, Ok, Err, IsOk, OnOk, is_err}
use Rattle.std.specs.List.{slice_get}
use Rattle.std.proofs.lemmas.List.{append-nil}
use Rattle.refusal.specs.declared.memory.NoMemory.{NoMemory}
use Rattle.ipa_layout.specs.Layout.{PlacedData}
use Rattle.page_jobs.specs.declared.page.PageKey.{PageKey}
use Rattle.rim_launch.specs.LaunchData.{LaunchData}
use Rattle.rim_manifest.specs.Launches.{NamedData}
use Rattle.rim_accepted.specs.Accepted.{accepted_of}
use Rattle.rim_accepted.specs.Reasons.{IsRefusedFor}
use Rattle.rim_accepted.specs.declared.accepted.AcceptedLaunch.{AcceptedLaunch}
use Rattle.rim_accepted.specs.declared.audit_fault.AuditFault.{AuditFault}
use Rattle.rim_accepted.specs.declared.reason.LaunchReason.{LaunchReason}
use Rattle.rim_pages.specs.Pages.{keys_at}
use Rattle.rim_check.specs.Explained.{refusal_said}
use Rattle.shown_text.specs.declared.remark.Remark.{Remark}
use Rattle.shown_text.specs.Lines.{AddsLine}
use Rattle.rim_check.specs.declared.found.Found.{Found}
use Rattle.rim_check.specs.inside.Found.{AddsFound, AddsNumber, AreWarned, numbers_of}
use Rattle.rim_check.specs.inside.Refused.{AddsSaid}
use Rattle.rim_check.proofs.SaidOfLaunches.{is-refused, says-nothing, says-why}

or-false : (b : Bool) → b ≡ (b || false)
or-false true = refl
or-false false = refl

or-true : (b : Bool) → true ≡ (b || true)
or-true true = refl
or-true false = refl

-- a launch that is accepted adds its pages and its warnings
accepted-found : (files : List (List ℕ)) (l : NamedData) (a : AcceptedLaunch) (old new : Found)
    → accepted_of l.launch files ≡ Ok a.placed → a.named.now ≡ l
    → (new.refusals.items ≡ old.refusals.items) × (new.has_refused ≡ old.has_refused)
    → new.pages ≡ old.pages ++ keys_at a.named.now.launch (Ok a.placed)
    → AddsNumber a.named.now.launch.number (numbers_of old.warnings) (numbers_of new.warnings) → AddsFound files l old new
accepted-found files l a old new accepted own same pages warned = record {
  said = subst (λ (remarks : List Remark). AddsSaid files l old.refusals.items remarks) (sym same.0)
      (says-nothing files l a.placed old.refusals.items accepted);
  refused = same.1 ∙ or-false old.has_refused ∙ ap (λ (r : Result PlacedData AuditFault). old.has_refused || is_err r) (sym accepted);
  pages = pages ∙ ap (λ (x : NamedData). old.pages ++ keys_at x.launch (Ok a.placed)) own
      ∙ ap (λ (r : Result PlacedData AuditFault). old.pages ++ keys_at l.launch r) (sym accepted);
  warned = λ (ls : List NamedData) (there : slice_get ls l.launch.number ≡ Some l).
      subst (λ (x : NamedData). AddsNumber x.launch.number (numbers_of old.warnings) (numbers_of new.warnings)) own warned files ls
      (record { launch = l; there = there; accepted = subst (λ (r : Result PlacedData AuditFault). IsOk r) (sym accepted) refl });
}

pub accepted-all : (files : List (List ℕ)) (l : NamedData) (a : AcceptedLaunch) (old new : Found) (answer : Result
    (Unit {0}) NoMemory)
    → accepted_of l.launch files ≡ Ok a.placed → a.named.now ≡ l
    → OnOk answer ((new.refusals.items ≡ old.refusals.items) × (new.has_refused ≡ old.has_refused))
    → OnOk answer (new.pages ≡ old.pages ++ keys_at a.named.now.launch (Ok a.placed))
    → OnOk answer (AddsNumber a.named.now.launch.number (numbers_of old.warnings) (numbers_of new.warnings)) → OnOk answer (AddsFound files l old new)
accepted-all files l a old new (Ok done) accepted own same pages warned = accepted-found files l a old new accepted own same pages warned
accepted-all files l a old new (Err e) accepted own same pages warned = tt

no-keys : (l : LaunchData) (r : Result PlacedData AuditFault) → is_err r ≡ true → keys_at l r ≡ []
no-keys l (Ok p) e = absurd cc
no-keys l (Err fault) e = refl

-- one that is refused adds its remark
pub refused-found : (files : List (List ℕ)) (l : NamedData) (why : LaunchReason) (old new : Found)
    → IsRefusedFor l.launch files why → AddsLine (refusal_said l why) old.refusals.items new.refusals.items
    → new.has_refused ≡ true → new.pages ≡ old.pages → new.warnings ≡ old.warnings → AddsFound files l old new
refused-found files l why old new refused adds is_refused pages warnings =
    let is = is-refused l.launch files why refused in
    record {
      said = says-why files l why old.refusals.items new.refusals.items refused adds;
      refused = is_refused ∙ or-true old.has_refused ∙ ap (λ (b : Bool). old.has_refused || b) (sym is);
      pages = pages ∙ sym (append-nil old.pages) ∙ ap (λ (ks : List PageKey). old.pages ++ ks) (sym (no-keys l.launch (accepted_of l.launch files) is));
      warned = λ (ls : List NamedData) (there : slice_get ls l.launch.number ≡ Some l) are. subst (λ w. AreWarned files ls (numbers_of w)) (sym warnings) are;
    }
