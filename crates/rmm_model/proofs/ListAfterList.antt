-- What lists of commands leave, take and show, one list after another.
use Rattle.std.proofs.Common.{◌≡◌, ◌∙◌, sym, refl, ap, ◌&&◌, List, [], ◌∷◌, ◌++◌, append_assoc}
use Rattle.std.specs.Prelude.{Ok, is_ok}
use Rattle.std.proofs.Math.Bool.{and_assoc}
use Rattle.rim_desc.specs.declared.command.Command.{Command}
use Rattle.rim_desc.specs.Part.{Part}
use Rattle.rmm_model.specs.State.{State}
use Rattle.rmm_model.specs.Effects.{parts}
use Rattle.rmm_model.specs.Step.{step}
use Rattle.rmm_model.specs.Run.{accepted, after, parts_of, run, shown}

-- a command that is taken, and then others
pub run-taken : (s next : State) (c : Command) (cs : List Command) → step s c ≡ Ok next → run s (c ∷ cs) ≡ run next cs
unfolding run
run-taken s next c cs at = rw at refl

pub accepted-taken : (s next : State) (c : Command) (cs : List Command) → step s c ≡ Ok next → accepted s (c ∷ cs) ≡ accepted next cs
unfolding accepted
accepted-taken s next c cs at = rw at refl

pub shown-taken : (s next : State) (c : Command) (cs : List Command) → step s c ≡ Ok next → shown s (c ∷ cs) ≡ parts s c ++ shown next cs
unfolding shown
shown-taken s next c cs at = rw at refl

-- two lists, one after the other
pub run-append : (s : State) (cs ds : List Command) → run s (cs ++ ds) ≡ run (run s cs) ds
unfolding run
run-append s [] ds = refl
run-append s (c ∷ cs) ds = run-append (after s (step s c)) cs ds

pub accepted-append : (s : State) (cs ds : List Command) → accepted s (cs ++ ds) ≡ (accepted s cs && accepted (run s cs) ds)
unfolding accepted run
accepted-append s [] ds = refl
accepted-append s (c ∷ cs) ds =
    ap (λ b. is_ok (step s c) && b) (accepted-append (after s (step s c)) cs ds)
    ∙ sym (and_assoc (is_ok (step s c)) (accepted (after s (step s c)) cs) (accepted (run (after s (step s c)) cs) ds))

pub shown-append : (s : State) (cs ds : List Command) → shown s (cs ++ ds) ≡ shown s cs ++ shown (run s cs) ds
unfolding shown run
shown-append s [] ds = refl
shown-append s (c ∷ cs) ds =
    ap (λ (ps : List Part). parts_of (step s c) (parts s c) ++ ps) (shown-append (after s (step s c)) cs ds)
    ∙ sym (append_assoc (parts_of (step s c) (parts s c)) (shown (after s (step s c)) cs) (shown (run (after s (step s c)) cs) ds))
