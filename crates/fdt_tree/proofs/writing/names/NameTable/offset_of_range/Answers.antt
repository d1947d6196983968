use Rattle.std.proofs.Common.{◌≡◌, ℕ, List, length, take, drop, subst}
use Rattle.std.proofs.lemmas.Result.{err_from_is_err_and}
use Rattle.fdt_tree.specs.Writing.{noted, strings_text, offset_in}
use Rattle.fdt_tree.specs.inside.NameTables.{HasNames, TooMuch}
use Rattle.fdt_tree.proofs.NameTables.{place_noted}
use Rattle.fdt_tree.proofs.writing.names.NameTable.offset_of_range.Goals as goal

pub returns-in_err-offset-clause-refused : goal.returns-in_err-offset-clause-refused
returns-in_err-offset-clause-refused c = λ names h.
    let p = err_from_is_err_and c.from_residual.result c.from_residual.ensures.1 in
    rw (p.1, p.2) (subst (λ (name : List ℕ). TooMuch c.in_err-offset.field-0.0 (length (strings_text (noted names name)))) c.range_of.ensures
    (c.in_err-offset.ensures.refused c.args.source.now names h))

pub returns-clause-offset : goal.returns-clause-offset
returns-clause-offset c = λ names h.
    subst (λ (name : List ℕ). c.in_ok-offset.offset ≡ offset_in (noted names name) name) c.range_of.ensures
    (c.in_ok-offset.ensures.offset c.args.source.now names h)

pub returns-clause-after : goal.returns-clause-after
returns-clause-after c = λ names h.
    let source = c.args.source.now in
    let name : List ℕ = take c.args.len (drop c.args.start source) in
    c.in_ok-keep.ensures source (noted names name)
    (subst (λ (x : List ℕ). HasNames source c.offset_of_bytes.new.self (noted names x)) c.range_of.ensures (c.in_ok-offset.ensures.after source names h))
    (place_noted names name c.in_ok-offset.offset (subst (λ (x : List ℕ). c.in_ok-offset.offset ≡ offset_in (noted names x) x) c.range_of.ensures
    (c.in_ok-offset.ensures.offset source names h)))
