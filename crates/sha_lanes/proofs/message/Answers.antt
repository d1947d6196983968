use Rattle.std.proofs.Common.{List, ℕ, [], sym}
use Rattle.std.proofs.lemmas.List.{get_or-map}
use Rattle.std.specs.Borrow.{Bor}
use Rattle.sha_lanes.proofs.message.Goals as goal

pub returns : goal.returns
returns c = sym (get_or-map (λ (m : Bor (List ℕ)). m.now) c.args.messages.now c.args.j _ [] c.requires)
