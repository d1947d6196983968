-- Remarks as JSON: their lines. This project's choice.
use Rattle.std.specs.Str.Lossy.{utf8_lossy}
use Rattle.serde_json.specs.Data.{Data, string}
use Rattle.shown_text.specs.Lines.{line_of}
use Rattle.shown_text.specs.declared.remark.Remark.{Remark}

-- a remark as a text: its line, where that is UTF-8
abbrev pub remark_json : Remark → Data
remark_json r = string (utf8_lossy (line_of r))
