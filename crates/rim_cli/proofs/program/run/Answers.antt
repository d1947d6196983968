use Rattle.std.proofs.Common.{◌∙◌, ap, map, refl, rules, sym}
use Rattle.clap.specs.Words.{kind_of}
use Rattle.clap.specs.declared.error.Error.{Error}
use Rattle.rim_words.specs.Command.{is_asked}
use Rattle.rim_words.proofs.KindsOfRefusal.{asked_kind, mistaken_kind}
use Rattle.rim_words.proofs.RequestsOfSubcommands.{for_bytes}
use Rattle.rim_cli.proofs.program.run.Goals as goal

pub returns-in-Err-Usage-clause-mistaken : goal.returns-in-Err-Usage-clause-mistaken
returns-in-Err-Usage-clause-mistaken g c mistaken =
    c.show_usage-status.ensures.mistaken (ap (λ (e : Error). is_asked (kind_of e)) c.in-Err-Usage.answer-is
    ∙ mistaken_kind (map g.S.AsStr.text c.args.words.now) _ _ c.in-Err-Usage.field-0-is mistaken c.in-Err-Usage.ensures.refused)

pub returns-in-Err-Usage-clause-helps : goal.returns-in-Err-Usage-clause-helps
returns-in-Err-Usage-clause-helps g c asks = (
  c.show_usage-status.ensures.helps (ap (λ (e : Error). is_asked (kind_of e)) c.in-Err-Usage.answer-is
      ∙ asked_kind (map g.S.AsStr.text c.args.words.now) _ _ c.in-Err-Usage.field-0-is asks c.in-Err-Usage.ensures.refused),
  refl,
)

pub returns-clause-terminal : goal.returns-clause-terminal
returns-clause-terminal g c taken out asks =
    let bytes = for_bytes _ c.in-Ok.request c.in-Ok.ensures.reads asks in
    let other = rw (out, bytes) at (sym c.would_show_bytes.ensures ∙ c.if-would_show_bytes.false) in
    cc

pub returns-in-Err-NoMemory-clause-usage : goal.returns-in-Err-NoMemory-clause-usage
returns-in-Err-NoMemory-clause-usage g c = search rules

pub returns-in-Err-NoMemory-clause-kept : goal.returns-in-Err-NoMemory-clause-kept
returns-in-Err-NoMemory-clause-kept g c = search rules
