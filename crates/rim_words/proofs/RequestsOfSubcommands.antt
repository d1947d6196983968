-- What is asked for, by its subcommand.
use Rattle.std.proofs.Common.{◌≡◌, ◌&&◌, Bool, true, false, not, List, ℕ, Some, None, Option, ap, is_some, refl, ◌∙◌, sym}
use Rattle.std.specs.Prelude.{codes, option_map}
use Rattle.std.proofs.lemmas.Option.{same_Some}
use Rattle.std.specs.Str.{bytes_eq}
use Rattle.std.proofs.lemmas.Slice.Eq.{bytes_eq-Decides}
use Rattle.clap.specs.Words.{Row, Text, first_of}
use Rattle.rim_words.specs.Command.{ReadsRequest, verb_of}
use Rattle.rim_words.specs.declared.words.Ask.{Ask}
use Rattle.rim_words.specs.declared.words.Ask.TheVariants as ask
use Rattle.rim_words.specs.declared.words.FileAsk.TheVariants.{Replay, Image, Fdt}
use Rattle.rim_words.specs.declared.words.Format.{Format}
use Rattle.rim_words.specs.declared.words.LaunchAsk.TheVariants.{List as Lists, Trace, Map, Dtb}
use Rattle.rim_words.specs.declared.words.ManifestAsk.TheVariants.{Measure, Audit, Check}
use Rattle.rim_words.specs.declared.words.Request.{Request}

-- words that differ are not the same
apart : (verb name : List ℕ) → bytes_eq verb name ≡ false → verb ≡ name → ⊥
apart verb name differ same = let equal : bytes_eq verb name ≡ true = (bytes_eq-Decides verb name).1 same in cc

is_some-map : {X Y : Type 0} (f : X → Y) (o : Option X) → is_some (option_map f o) ≡ is_some o
is_some-map f None = refl
is_some-map f (Some x) = refl

-- words that ask for bytes ask for a devicetree, and name no file
pub for_bytes : (entered : Option (Text × List Row)) (request : Request) → ReadsRequest entered request
    → option_map {U = Text × Bool} (λ p. (p.0, is_some (first_of (codes "output") p.1))) entered ≡ Some (codes "dtb", false)
    → (bytes_eq (verb_of request.ask) (codes "dtb") && not (is_some request.output)) ≡ true
for_bytes None request reads e = absurd reads
for_bytes (Some p) request reads e =
    let both = same_Some _ _ e in
    let dtb : bytes_eq (verb_of request.ask) (codes "dtb") ≡ true =
    (bytes_eq-Decides (verb_of request.ask) (codes "dtb")).1 (sym reads.0 ∙ ap (λ q. q.0) both) in
    let none : is_some request.output ≡ false =
    sym (is_some-map (λ path. path.now) request.output) ∙ (ap (λ o. is_some o) (sym reads.3) ∙ ap (λ q. q.1) both) in
    rw (dtb, none) refl

-- `measure` asks for a report
pub measure_asks : (a : Ask) → codes "measure" ≡ verb_of a → (workers : ℕ) × (format : Format) × (a ≡ ask.Manifest (Measure workers format))
measure_asks (ask.Manifest (Measure workers format)) e = (workers, format, refl)
measure_asks (ask.Manifest Audit) e = absurd (apart (codes "measure") (codes "audit") refl e)
measure_asks (ask.Manifest (Check quiet format)) e = absurd (apart (codes "measure") (codes "check") refl e)
measure_asks (ask.Launch name Lists) e = absurd (apart (codes "measure") (codes "list") refl e)
measure_asks (ask.Launch name Trace) e = absurd (apart (codes "measure") (codes "trace") refl e)
measure_asks (ask.Launch name (Map format)) e = absurd (apart (codes "measure") (codes "map") refl e)
measure_asks (ask.Launch name Dtb) e = absurd (apart (codes "measure") (codes "dtb") refl e)
measure_asks (ask.File Replay) e = absurd (apart (codes "measure") (codes "replay") refl e)
measure_asks (ask.File Image) e = absurd (apart (codes "measure") (codes "image") refl e)
measure_asks (ask.File Fdt) e = absurd (apart (codes "measure") (codes "fdt") refl e)
