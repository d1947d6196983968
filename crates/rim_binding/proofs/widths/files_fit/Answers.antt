use Rattle.std.proofs.Common.{inl, inr, ◌≡◌, ℕ, ◌+◌, ◌<◌, List, length, get_or, sym, ap, subst, ◌∙◌, arith}
use Rattle.std.specs.List.{All}
use Rattle.std.specs.declared.vec.Vec.{Vec}
use Rattle.std.proofs.lemmas.Bool.{cases_lt}
use Rattle.std.proofs.lemmas.List.{get_or-map}
use Rattle.ipa_layout.specs.Files.{bytes_of_files}
use Rattle.rmi_line.specs.Typed.{IsByte}
use Rattle.rim_binding.proofs.widths.files_fit.Goals as goal

one-more : {Z : Type 0} (files : List (Vec ℕ Z)) (file : Vec ℕ Z) (bytes : List ℕ) (i : ℕ) → i < length files → file ≡ get_or files i file → bytes ≡ file.items
    → All IsByte bytes → ((k : ℕ) (d : List ℕ) → k < i → All IsByte (get_or (bytes_of_files files) k d))
    → (k : ℕ) (d : List ℕ) → k < i + 1 → All IsByte (get_or (bytes_of_files files) k d)
one-more files file bytes i low at read fit before k d below = elim (cases_lt k i) [
  | inl earlier ↦ before k d earlier
  | inr high ↦
      let here : k ≡ i = omega arith in
      let same : get_or (bytes_of_files files) i d ≡ bytes =
      get_or-map (λ (f : Vec ℕ _). f.items) files i file d low ∙ ap (λ (f : Vec ℕ _). f.items) (sym at) ∙ sym read in
      subst (λ (j : ℕ). All IsByte (get_or (bytes_of_files files) j d)) (sym here) (subst (All IsByte) (sym same) fit)
]

pub loop-file-preserved : goal.loop-file-preserved
loop-file-preserved c =
    one-more c.args.files.now c.file-item.result c.as_slice.result.now c.loop-file.file-index (omega arith) c.file-item.is c.as_slice.ensures.value
    c.bytes_fit.ensures c.loop-file.invariant
