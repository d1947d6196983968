use Rattle.rmi_list.proofs.CommandsOfSpans.{table-lists}
use Rattle.rmi_list.proofs.draft.Draft.table.Goals as goal

pub returns : goal.returns
returns c = table-lists c.args.self.now c.delegate.new.self c.push.new.self c.in_ok-rtt.rtt c.args.base c.args.level c.in_ok-rtt.ensures.lists c.in_ok-rtt.ensures.value c.in_ok-push.ensures
