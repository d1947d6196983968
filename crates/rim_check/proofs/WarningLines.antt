-- The remarks of warnings, one after another.
use Rattle.std.proofs.Common.{◌≡◌, ◌∙◌, ◌<◌, ◌^◌, ℕ, zero, suc, List, [], ◌∷◌, ◌++◌, Some, arith, get_or, length, map}
use Rattle.std.proofs.Common.{refl, subst, sym}
use Rattle.std.specs.List.{AllByRecursion, slice_get}
use Rattle.std.proofs.lemmas.List.{append-nil}
use Rattle.std.proofs.lemmas.Option.{same_Some}
use Rattle.rim_manifest.specs.Launches.{NamedData}
use Rattle.rim_accepted.proofs.PagesOfItems.{each-append}
use Rattle.shown_text.specs.declared.remark.Remark.{Remark}
use Rattle.shown_text.specs.Lines.{AddsAll, AddsLine, Saying, SayInTurn}
use Rattle.rim_check.specs.Warned.{IsWarning, ShowsWarnings, more_said, warning_said}
use Rattle.rim_check.specs.declared.warnings.Warning.{Warning}
use Rattle.rim_check.specs.declared.warnings.Warnings.{Warnings}
use Rattle.rim_check.specs.inside.Found.{AreWarned, IsAcceptedAt, numbers_of}

-- remarks are warnings
pub record ShowsEach (files : List (List ℕ)) (ls : List NamedData) (remarks : List Remark) : Type 0 where
  pub said : List Saying
  pub each : AllByRecursion (IsWarning files ls) said
  pub lines : SayInTurn said remarks

-- what holds of each number holds of the one at a place
at-place : {X : Type 0} (P : ℕ → Type 0) (f : X → ℕ) (xs : List X) (i : ℕ) (x : X) → i < length xs → x ≡ get_or xs i x → AllByRecursion P (map f xs) → P (f x)
at-place P f [] i x low is all = absurd (omega (arith, low))
at-place P f (y ∷ ys) zero x low is all = subst (λ z. P (f z)) (sym is) all.0
at-place P f (y ∷ ys) (suc i) x low is all = at-place P f ys i x (omega (arith, low)) is all.1

-- the warning at a place adds its remark
pub warned-next : (files : List (List ℕ)) (ls : List NamedData) (w : Warnings) (i : ℕ) (x : Warning) (launch : NamedData) (old new : List Remark)
    → i < length w.found.items → x ≡ get_or w.found.items i x → slice_get ls x.launch ≡ Some launch → x.others < 2 ^ 64
    → AddsLine (warning_said launch.name x.others) old new → AreWarned files ls (numbers_of w) → ShowsEach files ls old → ShowsEach files ls new
warned-next files ls w i x launch old new low is there few adds are shows =
    let accepted : IsAcceptedAt files ls x.launch = at-place (IsAcceptedAt files ls) (λ (y : Warning). y.launch) w.found.items i x low is are in
    let same : accepted.launch ≡ launch = same_Some _ _ (sym accepted.there ∙ there) in
    let own : IsWarning files ls (warning_said launch.name x.others) =
    subst (λ (l : NamedData). IsWarning files ls (warning_said l.name x.others)) same
    (accepted.launch, x.launch, x.others, few, accepted.there, accepted.accepted, refl) in
    record {
      said = shows.said ++ warning_said launch.name x.others ∷ [];
      each = each-append (IsWarning files ls) shows.said (warning_said launch.name x.others ∷ []) shows.each (own, tt);
      lines = adds shows.said shows.lines;
    }

-- and then how many more there are
pub warned-more : (files : List (List ℕ)) (ls : List NamedData) (more : ℕ) (old new : List Remark)
    → AddsAll (more_said more) old new → ShowsEach files ls old → ShowsWarnings files ls new
warned-more files ls more old new adds shows = record { said = shows.said; each = shows.each; more = more; lines = adds shows.said shows.lines }

pub no-more : (files : List (List ℕ)) (ls : List NamedData) (remarks : List Remark) → ShowsEach files ls remarks → ShowsWarnings files ls remarks
no-more files ls remarks shows = record {
  said = shows.said;
  each = shows.each;
  more = 0;
  lines = subst (λ (ss : List Saying). SayInTurn ss remarks) (sym (append-nil shows.said)) shows.lines;
}
