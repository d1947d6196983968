use Rattle.std.proofs.Common.{◌∙◌, ◌++◌, ℕ, List, ap, drop, sym}
use Rattle.std.specs.List.{flat_map, join_with_byte}
use Rattle.rmi_line.specs.Trace.{traced_line, traced_words}
use Rattle.rmi_line.specs.inside.Words.{spaced}
use Rattle.rmi_line.proofs.LineWordByWord.{joined}
use Rattle.rmi_line.proofs.trace.print_traced.Goals as goal

pub returns : goal.returns
unfolding traced_line
returns c =
    let others = drop 1 (traced_words c.args.command.now) in
    c.in_ok-push_others.ensures
    ∙ ap (λ (line : List ℕ). line ++ flat_map spaced others) c.in_ok-line.ensures
    ∙ sym (joined c.name.result.now others)
    ∙ ap (join_with_byte 32) (sym c.name.ensures)
