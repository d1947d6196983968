use Rattle.std.proofs.Common.{◌≡◌, ℕ, ◌+◌, ◌<◌, ◌≤◌, List, [], ◌∷◌, map, slice_get, take, ap, ◌∙◌, arith}
use Rattle.std.proofs.lemmas.List.{length-take}
use Rattle.std.specs.Borrow.{Bor}
use Rattle.rim_desc.specs.Measurement.{measurement_of}
use Rattle.page_jobs.specs.Page.{page_view}
use Rattle.page_jobs.proofs.PagesSideBySide.{Each, IsLane, digest_of_lane, digest_of_whole, each_at, no_more}
use Rattle.page_jobs.proofs.side_by_side.group_of.Goals as goal
use Rattle.page_jobs.proofs.side_by_side.group_of.Goals.{then-count-gt-FOUR, else-count-gt-FOUR}

pub returns-clause-digests : goal.returns-clause-digests
returns-clause-digests c =
    let pages = c.args.pages.now in
    let used = c.if-count-gt-FOUR.used in
    let room : c.args.count ≤ used = elim c.if-count-gt-FOUR.branch [
      | then-count-gt-FOUR w ↦ omega arith
      | else-count-gt-FOUR w ↦ omega arith
    ] in
    let lanes : List (Bor (List ℕ)) =
    c.lane.result ∷ c.lane-2.result ∷ c.lane-3.result ∷ c.lane-4.result ∷ c.lane-5.result ∷ c.lane-6.result ∷ c.lane-7.result ∷ c.lane-8.result ∷ [] in
    let last-four : Each (λ (j : ℕ) (b : Bor (List ℕ)). IsLane pages c.args.count (4 + j) b)
    (c.lane-5.result ∷ c.lane-6.result ∷ c.lane-7.result ∷ c.lane-8.result ∷ []) =
    (c.lane-5.ensures.own, (c.lane-6.ensures.own, (c.lane-7.ensures.own, (c.lane-8.ensures.own, tt)))) in
    let in-lanes : Each (IsLane pages c.args.count) lanes =
    (c.lane.ensures.own, (c.lane-2.ensures.own, (c.lane-3.ensures.own, (c.lane-4.ensures.own, last-four)))) in
    record {
      within = no_more pages c.args.count _ c.requires.within;
      own = λ k p m here there.
          let found = digest_of_lane c.args.algo (take used lanes) c.hash_each.new.digests _ c.args.count c.hash_each.ensures
          (omega (arith, room, length-take used lanes)) k m there in
          let own = each_at (IsLane pages c.args.count) lanes used k found.0 in-lanes found.1 found.3 in
          let bytes : found.0.now ≡ p.bytes = rw here at own in
          found.2 ∙ ap (measurement_of c.args.algo) bytes ∙ digest_of_whole c.args.algo pages k p here (c.requires.whole k p found.3 here);
    }
