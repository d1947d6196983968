use Rattle.ipa_layout.specs.Files.{bytes_of_files}
use Rattle.rim_audit.proofs.audits.outcomes.Goals as goal

pub outcome-requires : goal.outcome-requires
outcome-requires g c = c.close_at_last.ensures (bytes_of_files c.args.loaded.files.now) c.loop-number.invariant.1
