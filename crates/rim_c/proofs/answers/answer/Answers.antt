use Rattle.std.proofs.Common.{◌≡◌, ◌<◌, ℕ, List, inl, inr, length, refl, subst}
use Rattle.rim_words.specs.declared.words.Ask.{Ask}
use Rattle.rim_files.specs.Files.{Known}
use Rattle.rim_cli.specs.Done.{IsAnswer, Refuses}
use Rattle.rim_c.specs.Held.{held_in}
use Rattle.rim_c.specs.Written.{IsWritten}
use Rattle.rim_c.specs.declared.held.File.{File}
use Rattle.rim_c.proofs.OwnFiles.{of_own}
use Rattle.rim_c.proofs.answers.answer.Goals as goal

-- what was answered at a path that is the subject's was answered of the subject
own : (s : File) (files : List File) (ask : Ask) (path text : List ℕ) (status : ℕ) → path ≡ s.path.now
    → Rattle.rim_files.specs.Files.IfFile (held_in s files path) (λ bytes. IsAnswer (held_in s files) ask path bytes text status)
    → IsAnswer (held_in s files) ask s.path.now s.bytes.now text status
own s files ask path text status e answered =
    subst (λ (p : List ℕ). IsAnswer (held_in s files) ask p s.bytes.now text status) e
    (of_own s files path (λ bytes. IsAnswer (held_in s files) ask path bytes text status) e answered)

pub returns-in-Ok-answer_alone : goal.returns-in-Ok-answer_alone
returns-in-Ok-answer_alone c =
    let s : File = c.args.subject.now in
    let files : List File = c.args.files.now in
    let a = c.in-Ok-answer_alone.answer in
    inl (inl (record {
      text = a.text.items;
      holds = own s files c.args.ask c.in-Ok.path.now a.text.items a.status c.in-Ok.ensures.cases.0 c.in-Ok-answer_alone.ensures.answered;
      written = subst (λ (t : List ℕ). IsWritten t c.args.out.now c.put.new.out c.put.new.said) c.as_slice.ensures.value (c.put.ensures.put c.if-put.true);
    }))

pub returns-in-Ok-2 : goal.returns-in-Ok-2
returns-in-Ok-2 c =
    let s : File = c.args.subject.now in
    let files : List File = c.args.files.now in
    let a = c.in-Ok-answer_alone.answer in
    let short = subst (λ (t : List ℕ). length c.args.out.now < length t) c.as_slice.ensures.value (c.put.ensures.short c.if-put.false).1 in
    let count = subst (λ (t : List ℕ). c.put.new.said ≡ length t) c.as_slice.ensures.value c.put.ensures.count in
    inl (inr (record {
      text = a.text.items;
      status = a.status;
      holds = own s files c.args.ask c.in-Ok.path.now a.text.items a.status c.in-Ok.ensures.cases.0 c.in-Ok-answer_alone.ensures.answered;
      is = refl;
      short = short;
      count = count;
      same = (c.put.ensures.short c.if-put.false).0;
    }))

pub returns-in-Err : goal.returns-in-Err
returns-in-Err c =
    let s : File = c.args.subject.now in
    let files : List File = c.args.files.now in
    inr (inl (record {
      fault = c.in-Err.fault;
      holds = subst (λ (p : List ℕ). Refuses (held_in s files) c.args.ask (held_in s files p) c.in-Err.fault) c.in-Ok.ensures.cases.0 c.in-Err.ensures.refused;
      is = c.code_of.ensures.value;
      kept = (refl, refl);
    }))
