-- What a text comes to, by its first line.
use Rattle.std.proofs.Common.{◌≡◌, ◌≢◌, ℕ, ◌+◌, ◌∙◌, List, ◌∷◌, ◌++◌, Err, refl, sym, ap, subst}
use Rattle.std.specs.Prelude.{Option}
use Rattle.std.specs.List.{All}
use Rattle.rim_desc.specs.declared.command.Command.{Command}
use Rattle.rim_desc.specs.declared.rule.RecRule.{RecRule}
use Rattle.rmm_model.specs.State.{State}
use Rattle.rmi_line.specs.Spelled.{Reads, ReadsFirst}
use Rattle.rim_replay.specs.Replay.{Answer, Begins, Comes, Opens, ReplayAnswer, Replays}
use Rattle.rim_replay.specs.declared.fault.ReplayFault.TheVariants as fault
use Rattle.rim_replay.proofs.PiecesOfTexts.{cut-piece, one-piece, pieces, some-piece}

pub no-line : (n : ℕ) (s : State) (text : List ℕ) → All (λ b. b ≢ 10) text → Replays n s (pieces text) (Err (fault.Line n))
no-line n s text inner = subst (λ ps. Replays n s ps (Err (fault.Line n))) (sym (one-piece text inner)) refl

pub at-line : (n : ℕ) (s : State) (text line rest : List ℕ) (answer : Answer) (read : Option Command) → text ≡ line ++ (10 ∷ rest) → All (λ b. b ≢ 10) line → Reads line read
    → Comes n s line (pieces rest) (λ t. Replays (n + 1) t (pieces rest) answer) answer read → Replays n s (pieces text) answer
at-line n s text line rest answer read is inner reads comes =
    let more = some-piece rest in
    subst (λ ps. Replays n s ps answer) (sym (cut-piece text line rest is inner ∙ ap (λ ps. line ∷ ps) more.2))
    (read, reads, subst (λ ps. Comes n s line ps (λ t. Replays (n + 1) t ps answer) answer read) more.2 comes)

-- ---- the first line of all

pub no-first-line : (text : List ℕ) → All (λ b. b ≢ 10) text → ReplayAnswer text (Err (fault.Line 1))
no-first-line text inner = subst (λ ps. Begins ps (Err (fault.Line 1))) (sym (one-piece text inner)) refl

pub first-line : (text line rest : List ℕ) (answer : Answer) (read : Option (ℕ × Option RecRule)) → text ≡ line ++ (10 ∷ rest) → All (λ b. b ≢ 10) line → ReadsFirst line read
    → Opens (pieces rest) answer read → ReplayAnswer text answer
first-line text line rest answer read is inner reads opens =
    let more = some-piece rest in
    subst (λ ps. Begins ps answer) (sym (cut-piece text line rest is inner ∙ ap (λ ps. line ∷ ps) more.2))
    (read, reads, subst (λ ps. Opens ps answer read) more.2 opens)
