use Rattle.std.proofs.Common.{inr, refl, arith}
use Rattle.fdt_tree.proofs.WrittenTokens.{reservations_len}
use Rattle.fdt_tree.proofs.writing.lengths_of.Goals as goal

pub returns-then-total-gt-SIZE_LIMIT-clause-refused :
    goal.returns-then-total-gt-SIZE_LIMIT-clause-refused
returns-then-total-gt-SIZE_LIMIT-clause-refused c =
    let s = c.args.out.now.structure in
    let t = c.args.out.now.names.strings in
    inr (
      refl,
      omega (
        arith,
        reservations_len c.args.reservations.now,
        c.len-structure.ensures,
        c.len-strings.ensures,
        s.ok.0,
        t.ok.0,
        c.saturating_mul.ensures,
        c.saturating_add-reserve.ensures,
        c.saturating_add.ensures,
        c.saturating_add-2.ensures,
        c.saturating_add-total.ensures,
      ),
    )

pub returns-clause-lengths : goal.returns-clause-lengths
returns-clause-lengths c =
    let s = c.args.out.now.structure in
    let t = c.args.out.now.names.strings in
    record {
      reserve_is =
          omega (
            arith,
            reservations_len c.args.reservations.now,
            s.ok.0,
            t.ok.0,
            c.saturating_mul.ensures,
            c.saturating_add-reserve.ensures,
            c.saturating_add.ensures,
            c.saturating_add-2.ensures,
            c.saturating_add-total.ensures,
          );
      structure_is = omega (arith, c.len-structure.ensures, s.ok.0);
      strings_is = omega (arith, c.len-strings.ensures, t.ok.0);
      fits =
          omega (
            arith,
            reservations_len c.args.reservations.now,
            c.len-structure.ensures,
            c.len-strings.ensures,
            s.ok.0,
            t.ok.0,
            c.saturating_mul.ensures,
            c.saturating_add-reserve.ensures,
            c.saturating_add.ensures,
            c.saturating_add-2.ensures,
            c.saturating_add-total.ensures,
          );
    }
