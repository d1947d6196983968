use Rattle.std.proofs.Common.{◌≡◌, ◌∙◌, ◌++◌, drop, map, take, rules, sym}
use Rattle.std.specs.Fmt.{decimal}
use Rattle.std.specs.List.{flat_map}
use Rattle.hex.specs.Hex.{encode_lower}
use Rattle.rim_desc.specs.Numbers.{in_order}
use Rattle.rmi_line.specs.Line.{realm_words}
use Rattle.rmi_line.specs.inside.Words.{spaced}
use Rattle.rmi_line.proofs.LineWordByWord.{grown, grown-run, grown-spaced}
use Rattle.rmi_line.proofs.line.push_realm.Goals as goal

pub returns : goal.returns
returns c =
    let p = c.args.params.now in
    let line = c.args.line.now.items in
    let words = drop 1 (realm_words p) in
    let numbers = map decimal (in_order p.numbers) in
    let all : c.push_bytes.new.line.items ≡ (grown line (take 5 words) ++ flat_map spaced numbers) ++ spaced (encode_lower p.rpv) = search rules in
    all ∙ sym (grown-run line (encode_lower p.rpv) (take 5 words) numbers) ∙ grown-spaced line words
