use Rattle.std.proofs.Common.{inr, refl}
use Rattle.rim_words.specs.declared.words.Ask.TheVariants as ask
use Rattle.rim_c.proofs.answers.answer_of_launch.Goals as goal

pub returns-in-Ok : goal.returns-in-Ok
returns-in-Ok c = inr (ask.Launch c.in-Ok.launch c.args.ask, (c.in-Ok.ensures.cases.0, refl), c.answer.ensures)
