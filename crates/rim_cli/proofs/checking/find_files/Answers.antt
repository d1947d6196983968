use Rattle.std.proofs.Common.{◌≡◌, ◌++◌, [], ◌∷◌, ℕ, List, rules, map, ◌∙◌, subst}
use Rattle.std.proofs.lemmas.List.{map-append}
use Rattle.rim_files.specs.Files.{IsFileFault, IsRead, Known}
use Rattle.rim_cli.proofs.FaultsOfFiles.{found_fault, found_file, unread_said}
use Rattle.rim_cli.proofs.checking.find_files.Goals as goal
use Rattle.rim_cli.proofs.checking.find_files.Goals.{in-Ok+in_ok-map_err-in-Ok, in-Err+in_ok-push_unread-in-Err}

pub loop-i-preserved : goal.loop-i-preserved
loop-i-preserved g c =
    let before : List (List ℕ) = map (λ file. file.items) c.loop-i.files.items in
    record {
      held = c.copy_file.ensures.stays ∙ c.loop-i.invariant.held;
      found = elim c.match-copy_file.branch [
        | in-Ok+in_ok-map_err-in-Ok w ↦
            let pushed : w.push.new.self.items ≡ c.loop-i.files.items ++ w.in-Ok.bytes ∷ [] = search rules in
            let read = subst (λ (h : List ℕ → Known). IsRead (h c.path-path.result.now) w.in-Ok.bytes.items) c.loop-i.invariant.held w.in-Ok.ensures.read in
            rw (w.files-is, w.unread-is, pushed, map-append) (found_file _ _ c.loop-i.i before _ _ c.loop-i.invariant.found c.path-path.ensures w.in-Ok.bytes.items read)
        | in-Err+in_ok-push_unread-in-Err w ↦
            let why = w.in-Err.why.fault in
            let fault = subst (λ (h : List ℕ → Known). IsFileFault (h c.path-path.result.now) why) c.loop-i.invariant.held w.in-Err.ensures.fault in
            let line = w.in_ok-push_unread-in-Err.ensures.line in
            rw (w.files-is, w.unread-is) (found_fault _ _ c.loop-i.i before _ _ c.loop-i.invariant.found c.path-path.ensures _ _
            (unread_said _ _ line.hint why fault w.in_ok-push_unread-in-Err.ensures.own) line.adds)
      ];
    }
