use Rattle.std.proofs.Common.{rules, ◌≡◌, ℕ, true, List, None, length, map, vec_len, ◌+◌, ◌≤◌, [], ◌∷◌, ◌++◌, ap, ◌∙◌, sym, subst, refl}
use Rattle.std.proofs.lemmas.List.{length-map, map-append, take_all}
use Rattle.std.proofs.lemmas.Result.{err_from_is_err_and}
use Rattle.rim_files.specs.Files.{AreRead, IsFileFault, Known}
use Rattle.rim_files.specs.AtOnce.{AreFollowedBy, IsUnknown}
use Rattle.rim_files.specs.declared.fault.Fault.TheVariants.{FileUnreadable}
use Rattle.rim_files.proofs.ReadFileByFile.{first_fault}
use Rattle.rim_files.proofs.AtOnce.{all_read_yet, alone_next, fails_there, fault_before, if_sized, no_memory_next, opened_next, read_count, read_there, unknown}
use Rattle.rim_files.proofs.at_once.read_files_at_once.Goals.{then-is_large+else-is_err+then-len-at_once+in_ok-read_opened-2}
use Rattle.rim_files.proofs.at_once.read_files_at_once.Goals.{then-is_large+else-is_err+else-len-at_once}
use Rattle.rim_files.proofs.at_once.read_files_at_once.Goals.{else-is_large+in_ok-read_opened-3+in-Ok+else-is_err-2}
use Rattle.rim_files.proofs.at_once.read_files_at_once.Goals as goal

pub loop-i-init : goal.loop-i-init
loop-i-init g c = record {
  held = refl;
  begun = rw (c.new-files.ensures.items, c.new-opened.ensures.items) tt;
}

pub returns-in_err-read_opened-clause-fault : goal.returns-in_err-read_opened-clause-fault
returns-in_err-read_opened-clause-fault g c =
    let p = err_from_is_err_and c.from_residual.result c.from_residual.ensures.1 in
    rw (p.1, p.2) (fault_before _ c.args.release.now.paths c.loop-i.i _ (c.in_err-read_opened.ensures.fault _ _ c.loop-i.invariant.begun))

pub returns-in_default-clause-fault : goal.returns-in_default-clause-fault
returns-in_default-clause-fault g c =
    let none = subst (λ (h : List ℕ → Known). IsFileFault (h c.path.result.now) FileUnreadable) c.loop-i.invariant.held c.in_default.ensures.none in
    first_fault _ c.args.release.now.paths c.loop-i.i _ c.path.result.now _ (c.in_ok-read_opened.ensures.read _ _ c.loop-i.invariant.begun) c.path.ensures none

pub returns-then-is_err-clause-fault : goal.returns-then-is_err-clause-fault
returns-then-is_err-clause-fault g c =
    no_memory_next IsUnknown _ c.args.release.now.paths c.loop-i.i _ _ c.path.result.now c.loop-i.invariant.begun c.path.ensures

pub returns-in_err-read_opened-2-clause-fault : goal.returns-in_err-read_opened-2-clause-fault
returns-in_err-read_opened-2-clause-fault g c =
    let pushed : c.push.new.self.items ≡ c.loop-i.opened.items ++ c.in-Some.reader ∷ [] = search rules in
    let none = unknown _ _ c.in-Some.ensures.bytes (if_sized _ _ c.size.ensures (c.is_large-is_large.ensures c.if-is_large.true)) in
    let followed = opened_next _ _ c.loop-i.invariant.held c.args.release.now.paths c.loop-i.i _ _ _ _ _ c.loop-i.invariant.begun c.path.ensures none pushed in
    let p = err_from_is_err_and c.from_residual-in_err-read_opened-2.result c.from_residual-in_err-read_opened-2.ensures.1 in
    rw (p.1, p.2) (fault_before _ c.args.release.now.paths (c.loop-i.i + 1) _ (c.in_err-read_opened-2.ensures.fault _ _ followed))

pub returns-in_err-read_opened-3-clause-fault : goal.returns-in_err-read_opened-3-clause-fault
returns-in_err-read_opened-3-clause-fault g c =
    let p = err_from_is_err_and c.from_residual-in_err-read_opened-3.result c.from_residual-in_err-read_opened-3.ensures.1 in
    rw (p.1, p.2) (fault_before _ c.args.release.now.paths c.loop-i.i _ (c.in_err-read_opened-3.ensures.fault _ _ c.loop-i.invariant.begun))

pub returns-in-Err-clause-fault : goal.returns-in-Err-clause-fault
returns-in-Err-clause-fault g c =
    let there = fails_there _ _ _ c.in-Some.ensures.bytes c.in-Err.ensures.fault in
    let fault = subst (λ (h : List ℕ → Known). IsFileFault (h c.path.result.now) c.in-Err.unread.fault) c.loop-i.invariant.held there in
    first_fault _ c.args.release.now.paths c.loop-i.i _ c.path.result.now _
    (c.in_ok-read_opened-3.ensures.read _ _ c.loop-i.invariant.begun) c.path.ensures fault

pub returns-then-is_err-2-clause-fault : goal.returns-then-is_err-2-clause-fault
returns-then-is_err-2-clause-fault g c =
    first_fault _ c.args.release.now.paths c.loop-i.i _ c.path.result.now _ (c.in_ok-read_opened-3.ensures.read _ _ c.loop-i.invariant.begun) c.path.ensures tt

pub loop-i-preserved : goal.loop-i-preserved
loop-i-preserved g c =
    let unknown_here = λ (some : c.is_large-is_large.result ≡ true).
    unknown _ _ c.in-Some.ensures.bytes (if_sized _ _ c.size.ensures (c.is_large-is_large.ensures some)) in
    record {
      held = c.open.ensures.stays ∙ c.loop-i.invariant.held;
      begun = elim c.if-is_large.branch [
        | then-is_large+else-is_err+then-len-at_once+in_ok-read_opened-2 w ↦
            let pushed : w.push.new.self.items ≡ c.loop-i.opened.items ++ c.in-Some.reader ∷ [] = search rules in
            let followed = opened_next _ _ c.loop-i.invariant.held c.args.release.now.paths c.loop-i.i _ _ _ _ _ c.loop-i.invariant.begun c.path.ensures
            (unknown_here w.if-is_large.true) pushed in
            rw (w.files-is, w.opened-is, w.new-opened-then-len-at_once.ensures.items)
            (all_read_yet IsUnknown _ _ _ (w.in_ok-read_opened-2.ensures.read _ _ followed))
        | then-is_large+else-is_err+else-len-at_once w ↦
            let pushed : w.push.new.self.items ≡ c.loop-i.opened.items ++ c.in-Some.reader ∷ [] = search rules in
            let followed = opened_next _ _ c.loop-i.invariant.held c.args.release.now.paths c.loop-i.i _ _ _ _ _ c.loop-i.invariant.begun c.path.ensures
            (unknown_here w.if-is_large.true) pushed in
            rw (w.files-is, w.opened-is) followed
        | else-is_large+in_ok-read_opened-3+in-Ok+else-is_err-2 w ↦
            let pushed : w.push-else-is_large.new.self.items ≡ w.read_opened-else-is_large.new.files.items ++ w.in-Ok.bytes ∷ [] = search rules in
            let read = read_there _ _ _ c.in-Some.ensures.bytes w.in-Ok.ensures.limit w.in-Ok.ensures.bytes in
            let before = w.in_ok-read_opened-3.ensures.read _ _ c.loop-i.invariant.begun in
            let more = ap (map (λ file. file.items)) pushed
            ∙ map-append (λ file. file.items) w.read_opened-else-is_large.new.files.items (w.in-Ok.bytes ∷ []) in
            rw (w.files-is, w.opened-is) (alone_next _ _ c.loop-i.invariant.held c.args.release.now.paths c.loop-i.i _ _ c.path.result.now w.in-Ok.bytes.items _
            before c.path.ensures read more w.new-opened-else-is_large.ensures.items)
      ];
    }

pub returns-clause-count : goal.returns-clause-count
returns-clause-count g c =
    let files : vec_len c.read_opened-2.new.files ≡ length c.read_opened-2.new.files.items = search rules in
    let last : length c.args.release.now.paths ≤ c.loop-i.i = search rules in
    let read = subst (λ paths. AreRead (g.O.Opener.held c.args.opener.now) paths (map (λ file. file.items) c.read_opened-2.new.files.items))
    (take_all c.loop-i.i c.args.release.now.paths last) (c.in_ok-read_opened-4.ensures.read _ _ c.loop-i.invariant.begun) in
    files ∙ sym (length-map c.read_opened-2.new.files.items (λ file. file.items)) ∙ read_count _ c.args.release.now.paths _ read
