use Rattle.std.proofs.Common.{◌∙◌, ap, sym}
use Rattle.launch_plan.specs.Links.{chain_of, keys_of}
use Rattle.rim_chain.proofs.KnownPrefixes.{row-values}
use Rattle.rim_report.proofs.chains.chained_alone.Goals as goal

pub returns : goal.returns
returns c =
    let p = c.args.plan.now in
    let row = c.fill_row.ensures.filled c.if-not-fill_row.false in
    c.chain.ensures ∙ ap (chain_of p) (sym (row-values c.args.table.now (keys_of p.links) c.fill_row.new.row.digests row))
