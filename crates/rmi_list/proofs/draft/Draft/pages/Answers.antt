use Rattle.std.proofs.Common.{inr, ℕ, ◌≡◌, ◌+◌, [], ap, arith, refl, sym}
use Rattle.std.proofs.lemmas.List.{append-nil}
use Rattle.rmm_model.specs.Blocks.{granules}
use Rattle.list_model.specs.Entries.{delegated}
use Rattle.list_model.specs.inside.Acts.{entries_of_pages}
use Rattle.rmi_list.specs.inside.Drafts.{entries_in}
use Rattle.rmi_list.proofs.EntryByEntry.{pool_of}
use Rattle.rmi_list.proofs.CommandsOfSpans.{granules-of_pages, no-page, one-more, spans-more}
use Rattle.rim_launch.specs.Realm.{realm_params}
use Rattle.rmi_list.proofs.draft.Draft.pages.Goals as goal

pub returns-then-count-eq0 : goal.returns-then-count-eq0
returns-then-count-eq0 c =
    let d = c.args.self.now in
    let i = c.args.item in
    let none : entries_of_pages (pool_of d) d.taken i.known i.number c.args.first (granules c.args.count c.args.base) ≡ [] =
    no-page (pool_of d) d.taken i.known i.number c.args.first c.args.count c.args.base c.if-count-eq0.true in
    rw none (record {
      launch = refl;
      config = refl;
      placed = refl;
      tables = refl;
      num_recs = refl;
      entries = sym (append-nil (entries_in d));
      taken = omega arith;
      pool = λ within. within;
      spans = λ all. all;
    })

pub returns-then-self-most : goal.returns-then-self-most
returns-then-self-most c =
    let d = c.args.self.now in
    let i = c.args.item in
    let number : delegated (entries_of_pages (pool_of d) d.taken i.known i.number c.args.first (granules c.args.count c.args.base)) ≡ c.args.count =
    granules-of_pages (pool_of d) i.known i.number c.args.count d.taken c.args.first c.args.base in
    inr (refl, omega arith)

pub returns-then-most-self : goal.returns-then-most-self
returns-then-most-self c =
    let d = c.args.self.now in
    let i = c.args.item in
    let number : delegated (entries_of_pages (pool_of d) d.taken i.known i.number c.args.first (granules c.args.count c.args.base)) ≡ c.args.count =
    granules-of_pages (pool_of d) i.known i.number c.args.count d.taken c.args.first c.args.base in
    inr (refl, omega arith)

pub returns : goal.returns
returns c =
    let d = c.args.self.now in
    let i = c.args.item in
    record {
      launch = refl;
      config = refl;
      placed = refl;
      tables = refl;
      num_recs = refl;
      entries = one-more (realm_params d.config) d.config.num_aux d.placed.now.recs d.spans.items c.push.new.self.items _ c.in_ok-push.ensures.items;
      taken = ap (λ (n : ℕ). d.taken + n) (sym (granules-of_pages (pool_of d) i.known i.number c.args.count d.taken c.args.first c.args.base));
      pool = λ within. omega arith;
      spans = λ all. spans-more d.spans.items c.push.new.self.items _ c.in_ok-push.ensures.items (omega arith, omega (arith, c.requires.low), omega arith) all;
    }
