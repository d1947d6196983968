use Rattle.std.proofs.Common.{List, ℕ, subst}
use Rattle.std.proofs.lemmas.Result.{on_ok_weaker}
use Rattle.shown_text.specs.Lines.{AddsLine, file_said}
use Rattle.rim_cli.proofs.checking.push_remark.Goals as goal

pub returns : goal.returns
returns c =
    on_ok_weaker _ (λ (adds : AddsLine (file_said c.args.path.now c.kind.result.now c.as_str.result.now) c.args.unread.now.items c.push_file.new.remarks.items).
    record {
      hint = c.as_str.result.now;
      adds = subst (λ (word : List ℕ). AddsLine (file_said c.args.path.now word c.as_str.result.now) c.args.unread.now.items c.push_file.new.remarks.items)
          c.kind.ensures adds;
    })
    c.push_file.ensures
