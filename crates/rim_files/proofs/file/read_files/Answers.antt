use Rattle.std.proofs.Common.{◌≡◌, ◌+◌, ◌++◌, [], ◌∷◌, ℕ, List, rules, map, vec_len, ap, ◌∙◌, sym, subst}
use Rattle.std.proofs.lemmas.List.{map-append}
use Rattle.rim_files.specs.Files.{AreRead, IsFileFault, IsRead, Known}
use Rattle.rim_files.proofs.ReadFileByFile.{first_fault, read_next}
use Rattle.rim_files.proofs.file.read_files.Goals as goal

pub loop-i-preserved : goal.loop-i-preserved
loop-i-preserved g c =
    let pushed : c.push.new.self.items ≡ c.loop-i.files.items ++ c.in-Ok.bytes ∷ [] = search rules in
    let counted : vec_len c.push.new.self ≡ c.loop-i.i + 1 = search rules in
    let whole = subst (λ (h : List ℕ → Known). IsRead (h c.path.result.now) c.in-Ok.bytes.items) c.loop-i.invariant.held c.in-Ok.ensures.read in
    let read = read_next _ c.args.release.now.paths c.loop-i.i _ c.path.result.now c.in-Ok.bytes.items c.loop-i.invariant.read c.path.ensures whole in
    record {
      counted = counted;
      held = c.copy_file.ensures.stays ∙ c.loop-i.invariant.held;
      read = subst (AreRead _ _) (sym (ap (map (λ file. file.items)) pushed ∙ map-append (λ file. file.items) c.loop-i.files.items (c.in-Ok.bytes ∷ []))) read;
    }

pub returns-in-Err-clause-fault : goal.returns-in-Err-clause-fault
returns-in-Err-clause-fault g c =
    let fault = subst (λ (h : List ℕ → Known). IsFileFault (h c.path.result.now) c.in-Err.unread.fault) c.loop-i.invariant.held c.in-Err.ensures.fault in
    first_fault _ c.args.release.now.paths c.loop-i.i _ c.path.result.now _ c.loop-i.invariant.read c.path.ensures fault

pub returns-then-is_err-clause-fault : goal.returns-then-is_err-clause-fault
returns-then-is_err-clause-fault g c =
    first_fault _ c.args.release.now.paths c.loop-i.i _ c.path.result.now _ c.loop-i.invariant.read c.path.ensures tt
