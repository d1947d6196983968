-- What is found of a launch: it is refused for its reason, or it is accepted and nothing is said of it.
use Rattle.std.proofs.Common.{◌≡◌, ◌∙◌, inl, inr, ℕ, true, false, List, [], ◌∷◌, ap, refl, subst, sym}
use Rattle.std.specs.Prelude.{Some, Result, Ok, Err, IsOk, is_err}
use Rattle.std.proofs.lemmas.List.{append-nil}
use Rattle.rim_launch.specs.LaunchData.{LaunchData}
use Rattle.rim_launch.specs.declared.config.Config.{Config}
use Rattle.ipa_layout.specs.Layout.{PlacedData}
use Rattle.rim_manifest.specs.Launches.{NamedData, item_name}
use Rattle.rim_accepted.specs.Accepted.{accepted_of, rim_for}
use Rattle.rim_accepted.specs.AuditFaults.{audit_kind_of}
use Rattle.rim_accepted.specs.Reasons.{IsRefusedFor, audit_fault_of}
use Rattle.rim_accepted.specs.declared.audit_fault.AuditFault.{AuditFault}
use Rattle.rim_accepted.specs.declared.reason.LaunchReason.{LaunchReason}
use Rattle.rim_accepted.proofs.RefusedLaunches.{same_refusal}
use Rattle.rim_check.specs.Details.{reason_detail, reason_expected}
use Rattle.rim_check.specs.Explained.{refusal_said}
use Rattle.shown_text.specs.declared.remark.Remark.{Remark}
use Rattle.shown_text.specs.Lines.{AddsLine, IsKnown, Saying, SayInTurn, Says, launch_text, word_of}
use Rattle.rim_check.specs.inside.Refused.{AddsSaid}

-- a remark that is made of these parts is that of a launch's refusal
pub says-refusal : (l : NamedData) (why : LaunchReason) (name kind given expected : List ℕ) (fault : AuditFault) (config : Config) (r : Remark)
    → name ≡ l.name → config ≡ l.launch.config → fault ≡ audit_fault_of why → kind ≡ audit_kind_of fault → word_of r.word ≡ Some kind
    → given ≡ reason_detail (item_name l) config why → expected ≡ reason_expected why
    → IsKnown (Some (launch_text name 0)) r.place.text.items → IsKnown (Some given) r.given.text.items → IsKnown (Some expected) r.expected.text.items
    → Says (refusal_said l why) r
says-refusal l why name kind given expected fault config r named configured faulty kinded word gives expects place known awaited = record {
  word = word ∙ ap (λ (w : List ℕ). Some w) (kinded ∙ ap audit_kind_of faulty);
  place = subst (λ (n : List ℕ). IsKnown (Some (launch_text n 0)) r.place.text.items) named place;
  given = subst (λ (g : List ℕ). IsKnown (Some g) r.given.text.items) (gives ∙ ap (λ (c : Config). reason_detail (item_name l) c why) configured) known;
  expected = subst (λ (e : List ℕ). IsKnown (Some e) r.expected.text.items) expects awaited;
  help = tt;
}

not-refused : (r : Result (List ℕ) AuditFault) → is_err r ≡ false → IsOk r
not-refused (Ok rim) off = refl
not-refused (Err fault) off = absurd cc

-- nothing is said of a launch that is accepted
pub says-nothing : (files : List (List ℕ)) (l : NamedData) (p : PlacedData) (remarks : List Remark)
    → accepted_of l.launch files ≡ Ok p → AddsSaid files l remarks remarks
says-nothing files l p remarks accepted = record {
  own = [];
  are = inl (not-refused (rim_for l.launch files) (same_refusal l.launch files ∙ ap (λ (r : Result PlacedData AuditFault). is_err r) accepted), refl);
  adds = λ (said : List Saying) (says : SayInTurn said remarks). subst (λ (ss : List Saying). SayInTurn ss remarks) (sym (append-nil said)) says;
}

pub says-why : (files : List (List ℕ)) (l : NamedData) (why : LaunchReason) (old new : List Remark)
    → IsRefusedFor l.launch files why → AddsLine (refusal_said l why) old new → AddsSaid files l old new
says-why files l why old new refused adds = record { own = refusal_said l why ∷ []; are = inr (why, refused, refl); adds = adds }

pub is-refused : (l : LaunchData) (files : List (List ℕ)) (why : LaunchReason) → IsRefusedFor l files why → is_err (accepted_of l files) ≡ true
is-refused l files why found = sym (same_refusal l files) ∙ ap (λ (r : Result (List ℕ) AuditFault). is_err r) found.refused
