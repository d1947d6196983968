-- The pages of an item are created one after another.
use Rattle.std.proofs.Common.{◌≡◌, ℕ, zero, suc, ◌+◌, ◌*◌, ◌%◌, ◌<◌, ◌≤◌, ◌∙◌, refl, ap, arith, true, false, ◌||◌, eqb, List, [], ◌∷◌, ◌++◌, length}
use Rattle.std.specs.Prelude.{Ok, Some}
use Rattle.std.proofs.lemmas.List.{map-append}
use Rattle.rim_desc.specs.Part.{Part}
use Rattle.rim_desc.specs.declared.command.Command.{Command}
use Rattle.rim_desc.specs.declared.command.Command.TheVariants.{Delegate}
use Rattle.rim_desc.specs.declared.measurement.Algo.{Algo}
use Rattle.rim_desc.specs.declared.measurement.Algo.TheVariants.{Sha256, Sha512}
use Rattle.rmm_model.specs.Blocks.{granules}
use Rattle.rmm_model.specs.Checks.{is_bad_content, walk_of}
use Rattle.rmm_model.specs.Space.{SameSpace, Space, after_page, has, is_ram}
use Rattle.rmm_model.specs.State.{State, algo_of}
use Rattle.rmm_model.specs.Owners.{give, kind_of}
use Rattle.rmm_model.specs.Effects.{changed, parts, with_page as page_given}
use Rattle.rmm_model.specs.Step.{step}
use Rattle.rmm_model.specs.declared.outcome.Kind.TheVariants as kind
use Rattle.rmm_model.specs.declared.table.Table.{Table}
use Rattle.rmm_model.proofs.KindsAfterGifts.{kind_of-here, kind_of-other}
use Rattle.rmm_model.proofs.SameSpaces.{walk-same}
use Rattle.rmm_model.proofs.OneMoreInSpace.{has-insert}
use Rattle.rmm_model.proofs.CommandsTaken.{data_create-taken, data_create_unknown-taken, delegate-taken}
use Rattle.rtt_plan.specs.InTurn.{AreFilledInTurn, CanGetData}
use Rattle.rtt_plan.specs.Missing.{missing, page_tables}
use Rattle.list_model.specs.declared.content.PageContent.{PageContent}
use Rattle.list_model.specs.declared.content.PageContent.TheVariants.{Measured, Unmeasured, Unknown}
use Rattle.list_model.specs.Entries.{Contents, Entry, Whole, command_of, commands_of, delegated, granule, page_entries, page_entry, table_entries}
use Rattle.list_model.specs.Leading.{Build, Built, IsBuilt, Leads}
use Rattle.list_model.specs.Parts.{AreContents, content_of, page_part}
use Rattle.list_model.proofs.GranulesOfEntries.{count-append, count-page, count-tables}
use Rattle.list_model.proofs.CommandsLeadOn.{leads-cons, leads-none, leads-then, measured-built, not-empty}
use Rattle.list_model.proofs.TablesMadeInTurn.{are-inside, tables-lead, with_tables}

-- ---- one page

good-content : (algo : Algo) (contents : Contents) (content : PageContent) (item page : ℕ) → AreContents algo contents
    → is_bad_content algo (content_of content contents item page) ≡ false
good-content algo contents Measured item page good = good item page
good-content Sha256 contents Unmeasured item page good = refl
good-content Sha512 contents Unmeasured item page good = refl
good-content Sha256 contents Unknown item page good = refl
good-content Sha512 contents Unknown item page good = refl

abbrev pub with_page : Built → ℕ → Built
with_page w x = record w { space = record w.space { assigned = x ∷ w.space.assigned }; taken = w.taken + 1 }

same-filled : (s t : Space) (x : ℕ) → SameSpace s t → SameSpace (after_page s x) (record t { assigned = x ∷ t.assigned })
same-filled s t x same = record {
  start = same.start;
  protected_end = same.protected_end;
  tables = same.tables;
  ram = same.ram;
  ranges = same.ranges;
  assigned = λ y. has-insert s.assigned x y ∙ ap (λ old. eqb x y || old) (same.assigned y);
}

page-given : (b : Build) (w : Built) (s : State) (x : ℕ) → IsBuilt b w s
    → let g = granule b.pool w.taken in IsBuilt b (with_page w x) (page_given (changed s (Delegate g)) g x)
page-given b w s x built = record {
  new = built.new;
  params = built.params;
  num_aux = built.num_aux;
  rule = built.rule;
  num_recs = built.num_recs;
  space = same-filled s.space w.space x built.space;
  some = built.some;
  some_built = built.some_built;
  pool = built.pool;
  free = λ h o.
      kind_of-other (give s.owners (granule b.pool w.taken) kind.Delegated) (granule b.pool w.taken) h kind.DataPage (λ e. omega arith)
      ∙ (kind_of-other s.owners (granule b.pool w.taken) h kind.Delegated (λ e. omega arith) ∙ built.free h (omega arith));
}

-- what a page measures
abbrev pub parts_of_page : PageContent → Contents → ℕ → ℕ → ℕ → List Part
parts_of_page Unknown contents item x page = []
parts_of_page content contents item x page = page_part content contents item x page ∷ []

-- the command that gives the page is taken, and leads to what is built then
record IsGiven (b : Build) (w : Built) (s : State) (c : Command) (ps : List Part) : Type 0 where
  next : State
  taken : step s c ≡ Ok next
  shown : parts s c ≡ ps
  built : IsBuilt b w next

-- the page can be given in a state
record CanBeGiven (s : State) (g x : ℕ) : Type 0 where
  at : g % 4096 ≡ 0
  place : x % 4096 ≡ 0
  inside : x < s.space.protected_end
  ends : walk_of s.space x ≡ 3
  in_ram : is_ram s.space.ram x ≡ true
  free : has s.space.assigned x ≡ false
  own : kind_of s.owners g ≡ Some kind.Delegated

page-taken : (contents : Contents) (content : PageContent) (item page : ℕ) (b : Build) (w : Built) (s : State) (x : ℕ) → IsBuilt b w s → AreContents b.params.algo contents
    → let g = granule b.pool w.taken in CanBeGiven (changed s (Delegate g)) g x
    → IsGiven b (with_page w x) (changed s (Delegate g)) (command_of contents (page_entry content g x item page)) (parts_of_page content contents item x page)
page-taken contents content item page b w s x built good can = go content
  where
    g : ℕ
    g = granule b.pool w.taken

    s1 : State
    s1 = changed s (Delegate g)

    fine : (content : PageContent) → is_bad_content (algo_of s1.params) (content_of content contents item page) ≡ false
    fine content = let algo : algo_of s1.params ≡ b.params.algo = rw built.params refl in rw algo (good-content b.params.algo contents content item page good)

    go : (content : PageContent) → IsGiven b (with_page w x) s1 (command_of contents (page_entry content g x item page)) (parts_of_page content contents item x page)
    go Measured = record {
      next = _;
      taken = data_create-taken s1 g x (content_of Measured contents item page) built.new (fine Measured) can.at can.place can.inside can.ends can.in_ram can.free can.own;
      shown = refl;
      built = measured-built b (with_page w x) _ (page_part Measured contents item x page ∷ []) (page-given b w s x built);
    }
    go Unmeasured = record {
      next = _;
      taken = data_create-taken s1 g x (content_of Unmeasured contents item page) built.new (fine Unmeasured) can.at can.place can.inside can.ends can.in_ram can.free can.own;
      shown = refl;
      built = measured-built b (with_page w x) _ (page_part Unmeasured contents item x page ∷ []) (page-given b w s x built);
    }
    go Unknown = record {
      next = _;
      taken = data_create_unknown-taken s1 g x (not-empty s1.phase built.new) can.at can.place can.inside can.ends can.in_ram can.free can.own;
      shown = refl;
      built = page-given b w s x built;
    }

page-leads : (contents : Contents) (content : PageContent) (item page : ℕ) (b : Build) (w v : Built) (s : State) (x : ℕ) (cs : List Command) (qs : List Part)
    → IsBuilt b w s → AreContents b.params.algo contents → CanGetData w.space.start w.space.tables w.space.ram w.space.assigned x
    → x % 4096 ≡ 0 → x < w.space.protected_end
    → ((u : State) → IsBuilt b (with_page w x) u → Leads b v u cs qs)
    → let g = granule b.pool w.taken in
    Leads b v s (Delegate g ∷ command_of contents (page_entry content g x item page) ∷ cs) (parts_of_page content contents item x page ++ qs)
page-leads contents content item page b w v s x cs qs built good can at inside later =
    let g : ℕ = granule b.pool w.taken in
    let c : Command = command_of contents (page_entry content g x item page) in
    let ps : List Part = parts_of_page content contents item x page in
    let s1 : State = changed s (Delegate g) in
    let g_at : g % 4096 ≡ 0 = omega (arith, built.pool) in
    let delegated : step s (Delegate g) ≡ Ok s1 = delegate-taken s g g_at (built.free g (omega arith)) in
    let protected_end : s.space.protected_end ≡ w.space.protected_end = built.space.protected_end in
    let given = page-taken contents content item page b w s x built good (record {
      at = g_at;
      place = at;
      inside = omega arith;
      ends = walk-same s.space w.space x built.space ∙ can.ends;
      in_ram = built.space.ram x ∙ can.in_ram;
      free = built.space.assigned x ∙ can.free;
      own = kind_of-here s.owners g kind.Delegated;
    }) in
    leads-cons b v s s1 (Delegate g) (c ∷ cs) [] (ps ++ qs) delegated refl
    (leads-cons b v s1 given.next c cs ps qs given.taken given.shown (later given.next given.built))

-- ---- some pages

-- pages with data, the last first
unfoldable pub piled_pages : List ℕ → List ℕ → List ℕ
piled_pages [] assigned = assigned
piled_pages (x ∷ xs) assigned = piled_pages xs (x ∷ assigned)

-- the parts of the pages of an item from its kth on
unfoldable pub parts_from : PageContent → Contents → ℕ → ℕ → List ℕ → List Part
parts_from content contents item k [] = []
parts_from content contents item k (x ∷ xs) = parts_of_page content contents item x k ++ parts_from content contents item (k + 1) xs

abbrev pub with_pages : ℕ → Built → PageContent → ℕ → ℕ → List ℕ → Built
with_pages pool w content item k xs = record w {
  space = record w.space { tables = page_tables w.space.start w.space.tables xs; assigned = piled_pages xs w.space.assigned };
  taken = w.taken + delegated (page_entries pool w.taken w.space.start w.space.tables content item k xs);
}

pub pages-lead : (contents : Contents) (content : PageContent) (item : ℕ) (b : Build) (count k x : ℕ) (w : Built) (s : State) → IsBuilt b w s
    → AreContents b.params.algo contents → AreFilledInTurn w.space.start w.space.tables w.space.ram w.space.assigned (granules count x)
    → x % 4096 ≡ 0 → x + 4096 * count ≤ w.space.protected_end
    → Leads b (with_pages b.pool w content item k (granules count x)) s
    (commands_of contents (page_entries b.pool w.taken w.space.start w.space.tables content item k (granules count x)))
    (parts_from content contents item k (granules count x))
unfolding granules AreFilledInTurn page_entries page_tables piled_pages parts_from
pages-lead contents content item b zero k x w s built good filled at inside =
    let e : w.taken + 0 ≡ w.taken = omega arith in
    leads-none b (with_pages b.pool w content item k []) s (rw e built)
pages-lead contents content item b (suc count) k x w s built good filled at inside =
    let xs : List ℕ = granules count (x + 4096) in
    let start : ℕ = w.space.start in
    let new : List Table = missing start w.space.tables 3 x in
    let w1 : Built = with_tables w new in
    let w2 : Built = with_page w1 x in
    let g : ℕ = granule b.pool (w.taken + length new) in
    let rest : List Entry = page_entries b.pool (w.taken + length new + 1) start (w.space.tables ++ new) content item (k + 1) xs in
    let all : Built = with_pages b.pool w2 content item (k + 1) xs in
    let parts : List Part = parts_from content contents item (k + 1) xs in
    let first : Leads b w1 s (commands_of contents (table_entries b.pool w.taken new)) [] =
    tables-lead contents b new w s built (filled.0) (are-inside start w.space.tables 3 x w.space.protected_end (omega arith)) in
    let later : (u : State) → IsBuilt b w2 u → Leads b all u (commands_of contents rest) parts =
    λ u then. pages-lead contents content item b count (k + 1) (x + 4096) w2 u then good (filled.2) (omega arith) (omega arith) in
    let whole = leads-then b w1 all s (commands_of contents (table_entries b.pool w.taken new))
    (Delegate g ∷ command_of contents (page_entry content g x item k) ∷ commands_of contents rest)
    [] (parts_of_page content contents item x k ++ parts) first
    (λ t then. page-leads contents content item k b w1 all t x (commands_of contents rest) parts then good (filled.1) at (omega arith) later) in
    let words : commands_of contents (table_entries b.pool w.taken new ++ (Whole (Delegate g) ∷ page_entry content g x item k ∷ rest))
    ≡ commands_of contents (table_entries b.pool w.taken new) ++ (Delegate g ∷ command_of contents (page_entry content g x item k) ∷ commands_of contents rest) =
    map-append (command_of contents) (table_entries b.pool w.taken new) (Whole (Delegate g) ∷ page_entry content g x item k ∷ rest) in
    let a = count-append (table_entries b.pool w.taken new) (Whole (Delegate g) ∷ page_entry content g x item k ∷ rest) in
    let c : delegated (table_entries b.pool w.taken new) ≡ length new = count-tables b.pool w.taken new in
    let d : delegated (page_entry content g x item k ∷ rest) ≡ delegated rest = count-page content g x item k rest in
    let count_all : (w.taken + length new + 1) + delegated rest
    ≡ w.taken + delegated (table_entries b.pool w.taken new ++ (Whole (Delegate g) ∷ page_entry content g x item k ∷ rest)) = omega arith in
    rw (words, ← count_all) whole
