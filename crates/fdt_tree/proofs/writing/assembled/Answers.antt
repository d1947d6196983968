use Rattle.std.proofs.Common.{◌≡◌, ◌++◌, ℕ, List, ap, ◌∙◌}
use Rattle.std.proofs.lemmas.Result.{err_from_is_err_and}
use Rattle.fdt_tree.specs.Writing.{reservations_text, file_text}
use Rattle.fdt_tree.proofs.WrittenTokens.{assembled_is, assembled_within, file_too_long}
use Rattle.fdt_tree.proofs.writing.assembled.Goals as goal

pub returns-clause-done : goal.returns-clause-done
returns-clause-done c =
    assembled_is c.in_ok-lengths.lengths c.args.boot_cpu
    (reservations_text c.args.reservations.now) c.args.out.now.structure.items c.args.out.now.names.strings.items
    c.new-file.result.items c.put_places.new.out.items c.put_versions.new.out.items c.put_reservations.new.out.items c.extend_from_slice.new.self.items
    c.extend_from_slice-2.new.self.items
    c.in_ok-lengths.ensures.lengths c.new-file.ensures.items c.in_ok-put_places.ensures c.in_ok-put_versions.ensures c.in_ok-put_reservations.ensures
    (c.in_ok-extend_from_slice.ensures.items ∙ ap (λ (x : List ℕ). c.put_reservations.new.out.items ++ x) c.deref.ensures.value)
    (c.in_ok-extend_from_slice-2.ensures.items ∙ ap (λ (x : List ℕ). c.extend_from_slice.new.self.items ++ x) c.deref-2.ensures.value)

pub returns-clause-within : goal.returns-clause-within
returns-clause-within c =
    let whole : c.extend_from_slice-2.new.self.items ≡ file_text c.args.boot_cpu
    (reservations_text c.args.reservations.now) c.args.out.now.structure.items c.args.out.now.names.strings.items =
    assembled_is c.in_ok-lengths.lengths c.args.boot_cpu
    (reservations_text c.args.reservations.now) c.args.out.now.structure.items c.args.out.now.names.strings.items
    c.new-file.result.items c.put_places.new.out.items c.put_versions.new.out.items c.put_reservations.new.out.items c.extend_from_slice.new.self.items
    c.extend_from_slice-2.new.self.items
    c.in_ok-lengths.ensures.lengths c.new-file.ensures.items c.in_ok-put_places.ensures c.in_ok-put_versions.ensures c.in_ok-put_reservations.ensures
    (c.in_ok-extend_from_slice.ensures.items ∙ ap (λ (x : List ℕ). c.put_reservations.new.out.items ++ x) c.deref.ensures.value)
    (c.in_ok-extend_from_slice-2.ensures.items ∙ ap (λ (x : List ℕ). c.extend_from_slice.new.self.items ++ x) c.deref-2.ensures.value) in
    assembled_within c.in_ok-lengths.lengths c.args.boot_cpu
    (reservations_text c.args.reservations.now) c.args.out.now.structure.items c.args.out.now.names.strings.items c.extend_from_slice-2.new.self.items
    c.in_ok-lengths.ensures.lengths whole

pub returns-in_err-lengths-clause-refused : goal.returns-in_err-lengths-clause-refused
returns-in_err-lengths-clause-refused c =
    let p = err_from_is_err_and c.from_residual.result c.from_residual.ensures.1 in
    rw (p.1, p.2) (file_too_long c.args.boot_cpu (reservations_text c.args.reservations.now) c.args.out.now.structure.items
    c.args.out.now.names.strings.items c.in_err-lengths.field-0.0 c.in_err-lengths.ensures.refused)
