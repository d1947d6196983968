use Rattle.std.proofs.Common.{◌≡◌, ℕ, List, ◌+◌, ◌<◌, get_or, drop, vec_len, length, arith, ◌∙◌, ap}
use Rattle.std.proofs.lemmas.List.{get_or_read}
use Rattle.fdt_tree.specs.inside.NameRuns.{name_run, zero_end}
use Rattle.fdt_tree.specs.declared.reading.strings.Strings.{Strings}
use Rattle.fdt_tree.proofs.NamesInStrings.{no_name, good_name, bad_name, run_inside, run_at, zero_end_le, length-name_runs}
use Rattle.fdt_tree.proofs.reading.strings.Strings.name_len.Goals as goal
use Rattle.fdt_tree.proofs.reading.strings.Strings.name_len.Goals.{then-len-eq0-via-then-len-eq0, then-len-eq0-via-else-len-eq0+then-index-ne0}

-- the runs are as many as the bytes
inside : (s : Strings) (o : ℕ) → o < s.end → o < vec_len s.runs
inside s o h = omega (arith, h, s.end_known, zero_end_le s.bytes.items, ap length s.runs_known, length-name_runs s.bytes.items, s.runs.ok.0)

-- what is read from them
run_is : (s : Strings) (o k : ℕ) → o < s.end → k ≡ get_or s.runs.items o k → k ≡ name_run (drop o s.bytes.items)
run_is s o k h e =
    let there : o < length s.runs.items = omega (arith, inside s o h, s.runs.ok.0) in
    get_or_read s.runs.items o k there e 0 ∙ ap (λ (xs : List ℕ). get_or xs o 0) s.runs_known ∙ run_at s.bytes.items o

before_end : (s : Strings) (o : ℕ) → o < s.end → o < zero_end s.bytes.items
before_end s o h = omega (arith, s.end_known)

-- the byte after the run
stop_inside : (s : Strings) (o k : ℕ) → o < s.end → k ≡ name_run (drop o s.bytes.items) → o + k < length s.bytes.items
stop_inside s o k h e = omega (arith, run_inside s.bytes.items o (before_end s o h), e)

pub returns-then-offset-self : goal.returns-then-offset-self
returns-then-offset-self c = no_name c.args.self.now.bytes.items c.args.offset (omega (arith, c.args.self.now.end_known))

pub index-len-requires : goal.index-len-requires
index-len-requires c = inside c.args.self.now c.args.offset c.if-offset-self.false

pub overflow_add-offset : goal.overflow_add-offset
overflow_add-offset c =
    let s = c.args.self.now in
    omega (
      arith,
      stop_inside s c.args.offset c.index-len.result.now c.if-offset-self.false
          (run_is s c.args.offset c.index-len.result.now c.if-offset-self.false c.index-len.ensures),
      s.bytes.ok.0,
    )

pub index-requires : goal.index-requires
index-requires c =
    let s = c.args.self.now in
    omega (
      arith,
      stop_inside s c.args.offset c.index-len.result.now c.if-offset-self.false
          (run_is s c.args.offset c.index-len.result.now c.if-offset-self.false c.index-len.ensures),
      s.bytes.ok.0,
    )

pub returns-then-len-eq0 : goal.returns-then-len-eq0
returns-then-len-eq0 c =
    let s = c.args.self.now in
    let run = run_is s c.args.offset c.index-len.result.now c.if-offset-self.false c.index-len.ensures in
    let stop = stop_inside s c.args.offset c.index-len.result.now c.if-offset-self.false run in
    bad_name s.bytes.items c.args.offset c.index-len.result.now (before_end s c.args.offset c.if-offset-self.false) run
    (elim c.then-len-eq0.branch [
      | then-len-eq0-via-then-len-eq0 w ↦ λ long. absurd (omega arith)
      | then-len-eq0-via-else-len-eq0+then-index-ne0 w ↦
          λ long. omega (arith, get_or_read s.bytes.items (c.args.offset + c.index-len.result.now) w.index.result.now stop w.index.ensures 0)
    ])

pub returns : goal.returns
returns c =
    let s = c.args.self.now in
    let run = run_is s c.args.offset c.index-len.result.now c.if-offset-self.false c.index-len.ensures in
    let stop = stop_inside s c.args.offset c.index-len.result.now c.if-offset-self.false run in
    good_name s.bytes.items c.args.offset c.index-len.result.now (before_end s c.args.offset c.if-offset-self.false) run (omega arith)
    (omega (arith, get_or_read s.bytes.items (c.args.offset + c.index-len.result.now) c.index.result.now stop c.index.ensures 0))
