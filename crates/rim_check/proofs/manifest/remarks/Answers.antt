use Rattle.std.proofs.Common.{List, subst}
use Rattle.toml.specs.View.{table_view}
use Rattle.rim_manifest.specs.declared.finding.Finding.{Finding}
use Rattle.rim_check.specs.inside.Listed.{ShowsFindings}
use Rattle.rim_check.proofs.FaultsAreExplained.{lists-all, lists-more}
use Rattle.rim_check.proofs.manifest.remarks.Goals as goal
use Rattle.rim_check.proofs.manifest.remarks.Goals.{else-excerpt-gt0, then-excerpt-gt0+in_ok-push_others}

pub returns : goal.returns
returns c =
    let path = c.args.manifest.now.path.now in
    let ms = table_view c.args.manifest.now.document.now.table in
    let excerpt = c.in_ok-excerpt.excerpt in
    let shows = subst (λ (fs : List Finding). ShowsFindings path ms fs c.in_ok-remarks.remarks.items) c.deref-2.ensures.value c.in_ok-remarks.ensures in
    elim c.if-excerpt-gt0.branch [
      | then-excerpt-gt0+in_ok-push_others w ↦
          rw w.remarks-is (lists-more path ms _ excerpt.findings.items _ excerpt.more _ _ c.in_ok-excerpt.ensures.some
          c.in_ok-excerpt.ensures.least c.in_ok-excerpt.ensures.beside c.in_ok-excerpt.ensures.within shows w.in_ok-push_others.ensures)
      | else-excerpt-gt0 w ↦
          rw w.remarks-is (lists-all path ms _ excerpt.findings.items _ excerpt.more _ c.in_ok-excerpt.ensures.some
          c.in_ok-excerpt.ensures.least c.in_ok-excerpt.ensures.beside c.in_ok-excerpt.ensures.within w.if-excerpt-gt0.false shows)
    ]
