use Rattle.std.proofs.Common.{◌≡◌, ◌++◌, ◌∷◌, [], refl, sym}
use Rattle.ipa_layout.proofs.dtb_edit.put_bootargs.Goals as goal

pub returns : goal.returns
returns c =
    let same : c.deref.result.now ≡ c.as_str.result.now ++ 0 ∷ [] = rw (c.deref.ensures.value, c.in_ok-push.ensures.items, c.in_ok-value.ensures.items, c.as_bytes.ensures.value) refl in
    rw (c.in-Some.is, sym c.as_str.ensures, sym same) c.put_chosen.ensures
