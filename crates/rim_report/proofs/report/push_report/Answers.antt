use Rattle.std.proofs.Common.{◌≡◌, ◌∙◌, ◌++◌, List, ℕ, ap, codes, rules}
use Rattle.std.specs.Fmt.{decimal}
use Rattle.rim_accepted.specs.Lines.{lines_with}
use Rattle.rim_accepted.proofs.LinesOfLaunches.{report-joined}
use Rattle.rim_report.proofs.report.push_report.Goals as goal

pub returns-clause-text : goal.returns-clause-text
returns-clause-text c =
    let lines : List ℕ = lines_with c.args.launches.now c.args.outcomes.now in
    let old : List ℕ = c.args.text.now.items in
    let first : c.extend_from_slice.new.self.items ≡ old ++ codes "rim-report 1\n" = c.in_ok-extend_from_slice.ensures.items in
    let second : c.push_lines.new.text.items ≡ (old ++ codes "rim-report 1\n") ++ lines =
    c.in_ok-push_lines.ensures.text ∙ ap (λ (text : List ℕ). text ++ lines) first in
    let third : c.extend_from_slice-2.new.self.items ≡ ((old ++ codes "rim-report 1\n") ++ lines) ++ codes "pages " =
    c.in_ok-extend_from_slice-2.ensures.items ∙ ap (λ (text : List ℕ). text ++ codes "pages ") second in
    let number : c.as_bytes.result.now ≡ decimal c.args.count = search rules in
    let fourth : c.extend_from_slice-3.new.self.items ≡ (((old ++ codes "rim-report 1\n") ++ lines) ++ codes "pages ") ++ decimal c.args.count
    = c.in_ok-extend_from_slice-3.ensures.items ∙ ap (λ (text : List ℕ). text ++ c.as_bytes.result.now) third
    ∙ ap (λ (digits : List ℕ). (((old ++ codes "rim-report 1\n") ++ lines) ++ codes "pages ") ++ digits) number in
    c.in_ok-extend_from_slice-4.ensures.items ∙ ap (λ (text : List ℕ). text ++ codes "\n") fourth
    ∙ report-joined old (codes "rim-report 1\n") lines (codes "pages ") (decimal c.args.count) (codes "\n")
