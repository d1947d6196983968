use Rattle.std.proofs.Common.{◌≡◌, ℕ, ◌++◌, List, ap, inl, inr, sym, subst}
use Rattle.std.specs.Prelude.{Result, IsOkAnd}
use Rattle.rim_pages.specs.declared.fault.StartFault.{StartFault}
use Rattle.rim_cli.proofs.RunInMemory.{ends_above, none_made, own_status, own_text, plain_taken, to_output}
use Rattle.rim_cli.proofs.in_memory.measure_in_memory.Goals as goal

pub returns-clause-report : goal.returns-clause-report
returns-clause-report g c r reads none low =
    let done = c.run.ensures.done plain_taken low in
    let written = rw (to_output done.request done.asked) at done.holds.written in
    subst (λ (m : Result (List ℕ) StartFault). IsOkAnd m (λ text. c.run.new.out.items ≡ c.args.out.now.items ++ text))
    (sym (own_text c.args.manifest.now r reads none done.holds.text c.run.result
    (record { request = done.request; asked = done.asked; holds = done.holds.made }))) written

pub returns-clause-status : goal.returns-clause-status
returns-clause-status g c r reads none low =
    let done = c.run.ensures.done plain_taken low in
    own_status c.args.manifest.now r reads none done.holds.text c.run.result (record { request = done.request; asked = done.asked; holds = done.holds.made })

pub returns-clause-refused : goal.returns-clause-refused
returns-clause-refused g c f refuses =
    ends_above c.run.result (c.run.new.out.items ≡ c.args.out.now.items) c.run.ensures.known
    (λ low. let done = c.run.ensures.done plain_taken low in
    none_made c.args.manifest.now f done.holds.text c.run.result refuses (record { request = done.request; asked = done.asked; holds = done.holds.made }))
    (c.run.ensures.usage plain_taken)
    (λ three. elim (c.run.ensures.refused plain_taken three) [
      | inl asks ↦ elim asks.holds [
        | inl refused ↦ ap (λ out. out.items) refused.1.0
        | inr (inl unwritten) ↦ absurd (none_made c.args.manifest.now f unwritten.text unwritten.status refuses
            (record { request = asks.request; asked = asks.asked; holds = unwritten.made }))
        | inr (inr done) ↦ absurd (none_made c.args.manifest.now f done.text c.run.result refuses
            (record { request = asks.request; asked = asks.asked; holds = done.made }))
      ]
      | inr terminal ↦ ap (λ out. out.items) terminal.1.1.0
    ])
    (λ four. ap (λ out. out.items) (c.run.ensures.kept (inr four)).0)
