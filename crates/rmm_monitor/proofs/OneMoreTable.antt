-- Tables are where they may be, also with one more that is.
use Rattle.std.proofs.Common.{inl, inr, ◌≡◌, ℕ, ◌<◌, ◌≤◌, ◌∙◌, sym, List}
use Rattle.std.specs.BTreeSet.{insert_key}
use Rattle.rmm_model.specs.declared.table.Table.{Table}
use Rattle.rmm_model.specs.Blocks.{down, span}
use Rattle.rmm_model.specs.Space.{ArePlaced, table_cmp}
use Rattle.rmm_model.proofs.OneMoreInSpace.{made-insert}
use Rattle.rmm_model.proofs.EndsOfWalks.{made-cases}

pub formed-insert : (start level base : ℕ) (ts : List Table) → ArePlaced start ts → start < level → level ≤ 3 → down (span level) base ≡ base
    → ArePlaced start (insert_key table_cmp ts (record { level = level; base = base }))
formed-insert start level base ts formed above deepest multiple =
    let t : Table = record { level = level; base = base } in record {
      shape = λ j b m. elim (made-cases t ts j b (sym (made-insert ts t j b) ∙ m)) [
        | inl e ↦ rw (← e.0, ← e.1) (above, deepest, multiple)
        | inr there ↦ formed.shape j b there
      ];
    }
