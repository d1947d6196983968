-- Remarks as JSON have no float.
use Rattle.std.proofs.Common.{◌≡◌, false, List, [], ◌∷◌, map, refl}
use Rattle.serde_json.specs.View.{items_of}
use Rattle.serde_json.specs.Written.{items_have_float}
use Rattle.shown_text.specs.RemarkJson.{remark_json}
use Rattle.shown_text.specs.declared.remark.Remark.{Remark}

pub remarks-float : (remarks : List Remark) → items_have_float (items_of (map remark_json remarks)) ≡ false
remarks-float [] = refl
remarks-float (remark ∷ remarks) = remarks-float remarks
