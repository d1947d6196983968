use Rattle.std.proofs.Common.{rules, ◌≡◌, ◌∙◌, arith, length, sym}
use Rattle.std.proofs.lemmas.Bool.Decides.{nat_tests}
use Rattle.page_jobs.specs.Lent.{front_of}
use Rattle.page_jobs.proofs.BytesOfPages.{contents-none, contents-whole}
use Rattle.page_jobs.proofs.hashed.page_digest.Goals as goal

pub returns-then-is_empty : goal.returns-then-is_empty
returns-then-is_empty c =
    let page = c.args.page.now in
    let tested = sym c.is_empty.ensures ∙ c.if-is_empty.true in
    let none : length page.bytes.now ≡ 0 = grind (arith, nat_tests) in
    rw (c.zeros_digest.ensures, contents-none (front_of page.key.lead page.key.number) page.bytes.now none)

pub returns-then-page-eq-PAGE_SIZE : goal.returns-then-page-eq-PAGE_SIZE
returns-then-page-eq-PAGE_SIZE c =
    let page = c.args.page.now in
    let whole = contents-whole (front_of page.key.lead page.key.number) page.bytes.now page.fits c.if-page-eq-PAGE_SIZE.true in
    rw (c.hash.ensures, whole)

pub returns-else-page-eq-PAGE_SIZE : goal.returns-else-page-eq-PAGE_SIZE
returns-else-page-eq-PAGE_SIZE c = search rules
