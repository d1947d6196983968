use Rattle.std.proofs.Common.{◌++◌, ◌∷◌, [], ℕ, List, Some, cond, inr, length, refl, ap, ◌∙◌, arith}
use Rattle.std.specs.Ordering.{nat_cmp}
use Rattle.std.specs.Cmp.Lexicographic.{slice_cmp}
use Rattle.std.specs.BTreeMap.{get_by}
use Rattle.std.specs.Str.{bytes_eq}
use Rattle.fdt_tree.proofs.NameTables.{map_at, has_one_more, too_long}
use Rattle.fdt_tree.proofs.writing.names.NameTable.add.Goals as goal

pub returns-then-saturating_sub-name-clause-refused :
    goal.returns-then-saturating_sub-name-clause-refused
returns-then-saturating_sub-name-clause-refused c = λ source names h.
    let v = c.args.self.now.strings in
    let e = h.strings in
    inr (
      refl,
      too_long names c.args.name.now c.len-at.result (omega (arith, c.len-at.ensures, v.ok.0, ap length e))
          (omega (arith, c.if-saturating_sub-name.true, c.saturating_sub.ensures)),
    )

pub returns-clause-after : goal.returns-clause-after
returns-clause-after c = λ source names h absent.
    let v = c.args.self.now.strings in
    let text = c.in_ok-push.ensures.items ∙ ap (λ (x : List ℕ). x ++ 0 ∷ []) c.in_ok-extend_from_slice.ensures.items in
    let own = c.args.self.now.offsets in
    has_one_more source names c.args.name.now c.args.self.now _ c.len-at.result h absent (omega (arith, c.len-at.ensures, v.ok.0)) text
    (λ q. map_at c.in_ok-from_slice.field-0.items own c.insert.new.self (Some c.len-at.result) c.in_ok-insert.ensures.updates q
    ∙ ap (λ (bs : List ℕ). cond (bytes_eq bs q) (Some c.len-at.result) (get_by (λ k. slice_cmp nat_cmp q k.items) own)) c.in_ok-from_slice.ensures.items)
    refl
