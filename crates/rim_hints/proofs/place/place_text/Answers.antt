use Rattle.std.proofs.Common.{◌++◌, List, codes, string_bytes, ℕ}
use Rattle.std.proofs.lemmas.Result.{IfOk-weaker}
use Rattle.toml.specs.View.{table_view}
use Rattle.rim_hints.specs.Fronts.{table_text}
use Rattle.rim_hints.proofs.TableWithKey.{placed}
use Rattle.rim_hints.proofs.place.place_text.Goals as goal

pub returns-in-Key : goal.returns-in-Key
returns-in-Key c =
    rw c.in-Key.is (IfOk-weaker c.format.result _ _
    (λ s is. placed (table_text (table_view c.args.document.now.table) c.args.place)
    (λ (table : List ℕ). codes ": " ++ (table ++ (codes ": " ++ c.in-Key.key.now)))
    (string_bytes c.in_ok-table.table) (string_bytes s) c.in_ok-table.ensures is)
    c.format.ensures.ok)
