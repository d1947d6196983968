-- What a check finds as JSON: the lines of its remarks. Members are in the order of their keys. This project's choice.
use Rattle.std.specs.Prelude.{ℕ, List, ◌++◌, codes, map}
use Rattle.serde_json.specs.Data.{Data, array, member, no_members, number, object, unsigned}
use Rattle.serde_json.specs.View.{items_of}
use Rattle.serde_json.specs.Written.{compact_text}
use Rattle.shown_text.specs.RemarkJson.{remark_json}
use Rattle.shown_text.specs.declared.remark.Remark.{Remark}

abbrev pub remarks_json : List Remark → Data
remarks_json remarks = array (items_of (map remark_json remarks))

-- the faults and the warnings, each in a list of their own, and the status
unfoldable pub check_data : List Remark → List Remark → ℕ → Data
check_data faults warnings status =
    object (member (codes "faults") (remarks_json faults) (member (codes "status") (number (unsigned status))
    (member (codes "version") (number (unsigned 1)) (member (codes "warnings") (remarks_json warnings) no_members))))

-- its text: no spaces, and a line feed at its end
abbrev pub check_json_of : List Remark → List Remark → ℕ → List ℕ
check_json_of faults warnings status = compact_text (check_data faults warnings status) ++ codes "\n"
