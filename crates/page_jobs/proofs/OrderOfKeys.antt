-- The order of keys is total, and keys that are equal in it are one.
use Rattle.std.proofs.Common.{◌≡◌, ℕ, true, refl, ap, ◌∙◌, arith}
use Rattle.std.proofs.lemmas.Bool.Decides.{nat_tests}
use Rattle.std.specs.Cmp.{IsTotalOrder, nat_cmp_total, on_total, then_total, tied_itself}
use Rattle.std.specs.Ordering.{is_eq, nat_cmp, ordering_then}
use Rattle.std.specs.declared.cmp.Ordering.{Ordering}
use Rattle.std.specs.declared.cmp.Ordering.TheVariants.{Less, Equal, Greater}
use Rattle.rim_desc.specs.Measurement.{algo_value}
use Rattle.rim_desc.specs.Source.{source_cmp}
use Rattle.rim_desc.specs.declared.measurement.Algo.{Algo}
use Rattle.rim_desc.specs.declared.measurement.Algo.TheVariants.{Sha256, Sha512}
use Rattle.rim_desc.specs.declared.source.Source.{Source}
use Rattle.rim_desc.proofs.OrderOfSources.{source-equal, source_total}
use Rattle.page_jobs.specs.Key.{key_cmp}
use Rattle.page_jobs.specs.declared.page.PageKey.{PageKey}

pub key_total : IsTotalOrder key_cmp
key_total = then_total (on_total (λ (k : PageKey). algo_value k.algo) nat_cmp_total)
    (then_total (on_total (λ (k : PageKey). k.source) source_total)
    (then_total (on_total (λ (k : PageKey). k.lead) nat_cmp_total) (on_total (λ (k : PageKey). k.number) nat_cmp_total)))

same-algo : (a b : Algo) → algo_value a ≡ algo_value b → a ≡ b
same-algo Sha256 Sha256 same = refl
same-algo Sha256 Sha512 same = absurd (omega arith)
same-algo Sha512 Sha256 same = absurd (omega arith)
same-algo Sha512 Sha512 same = refl

same-number : (a b : ℕ) → is_eq (nat_cmp a b) ≡ true → a ≡ b
same-number a b same = grind (arith, nat_tests)

-- two answers in turn are `Equal` where both are
both-equal : (a b : Ordering) → is_eq (ordering_then a b) ≡ true → (is_eq a ≡ true) × (is_eq b ≡ true)
both-equal Less b same = absurd (cc)
both-equal Equal b same = (refl, same)
both-equal Greater b same = absurd (cc)

-- keys of which none is before the other are one
pub key-equal : (a b : PageKey) → is_eq (key_cmp a b) ≡ true → a ≡ b
key-equal a b same =
    let first = both-equal (nat_cmp (algo_value a.algo) (algo_value b.algo)) _ same in
    let second = both-equal (source_cmp a.source b.source) _ first.1 in
    let third = both-equal (nat_cmp a.lead b.lead) _ second.1 in
    let algo : a.algo ≡ b.algo = same-algo a.algo b.algo (same-number _ _ first.0) in
    let source : a.source ≡ b.source = source-equal a.source b.source second.0 in
    let lead : a.lead ≡ b.lead = same-number a.lead b.lead third.0 in
    let number : a.number ≡ b.number = same-number a.number b.number third.1 in
    ap (λ (x : Algo). let k : PageKey = record { algo = x; source = a.source; lead = a.lead; number = a.number } in k) algo
    ∙ ap (λ (x : Source). let k : PageKey = record { algo = b.algo; source = x; lead = a.lead; number = a.number } in k) source
    ∙ ap (λ (x : ℕ). let k : PageKey = record { algo = b.algo; source = b.source; lead = x; number = a.number } in k) lead
    ∙ ap (λ (x : ℕ). let k : PageKey = record { algo = b.algo; source = b.source; lead = b.lead; number = x } in k) number

pub not-itself : (key : PageKey) → key_cmp key key ≡ Less → ⊥
not-itself key less = let same : key_cmp key key ≡ Equal = tied_itself key_total key in cc
