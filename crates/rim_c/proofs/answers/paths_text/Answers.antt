use Rattle.std.proofs.Common.{◌≡◌, ◌∙◌, ◌+◌, ℕ, suc, List, [], ◌∷◌, ◌++◌, ap, append_assoc, arith, flat_map, sym, take}
use Rattle.rim_c.proofs.PathByPath.{texts_next}
use Rattle.rim_c.proofs.answers.paths_text.Goals as goal

pub loop-i-preserved : goal.loop-i-preserved
loop-i-preserved c =
    let path : List ℕ = c.path.result.now in
    let before : List ℕ = flat_map (λ path. path ++ 0 ∷ []) (take c.loop-i.i c.args.release.now.paths) in
    let next : suc c.loop-i.i ≡ c.loop-i.i + 1 = omega arith in
    c.in_ok-push.ensures.items
    ∙ ap (λ (t : List ℕ). t ++ 0 ∷ []) (c.in_ok-extend_from_slice.ensures.items ∙ ap (λ (t : List ℕ). t ++ c.as_bytes.result.now) c.loop-i.invariant
    ∙ ap (λ (t : List ℕ). before ++ t) c.as_bytes.ensures.value)
    ∙ append_assoc before path (0 ∷ [])
    ∙ sym (texts_next (λ path. path ++ 0 ∷ []) c.args.release.now.paths c.loop-i.i path c.path.ensures)
    ∙ ap (λ (n : ℕ). flat_map (λ path. path ++ 0 ∷ []) (take n c.args.release.now.paths)) next
