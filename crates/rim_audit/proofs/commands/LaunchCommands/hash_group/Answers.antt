use Rattle.std.proofs.Common.{◌≡◌, ℕ, ◌+◌, ◌<◌, ◌≤◌, List, [], ◌∷◌, take, add-zero, subst, ap, sym, ◌∙◌, arith}
use Rattle.ipa_layout.specs.Files.{bytes_of_files}
use Rattle.page_jobs.specs.Page.{page_view}
use Rattle.page_jobs.specs.declared.page.Page.{Page}
use Rattle.page_jobs.proofs.PagesSideBySide.{each_at}
use Rattle.rim_audit.specs.inside.Beside.{DigestIsContent}
use Rattle.rim_audit.proofs.GroupsOfPages.{digest_in_group}
use Rattle.rim_audit.proofs.ListedPages.{page-few}
use Rattle.rim_audit.proofs.commands.LaunchCommands.hash_group.Goals as goal

pub returns-clause-group : goal.returns-clause-group
returns-clause-group c k m there =
    let after = c.pages_after-after.result in
    let pages : List Page = c.page_after.result ∷ c.page_after-2.result ∷ c.page_after-3.result ∷ c.page_after-4.result
    ∷ c.page_after-5.result ∷ c.page_after-6.result ∷ c.page_after-7.result ∷ c.page_after-8.result ∷ [] in
    let n : ℕ = c.min.result + 1 in
    let part : c.split_at.result.0.now ≡ take n pages = c.split_at.ensures.front in
    let found = digest_in_group pages n _ (rw part at c.hash_group.ensures.digests) k m c.page_after.result there in
    let own = each_at (λ (j : ℕ) (q : Page). j ≤ after → DigestIsContent c.args.self.now c.args.item (c.args.page + j) (page_view q)) pages n k _ (
      c.page_after.ensures,
      (
        c.page_after-2.ensures,
        (
          c.page_after-3.ensures,
          (
            c.page_after-4.ensures,
            (c.page_after-5.ensures, (c.page_after-6.ensures, (c.page_after-7.ensures, (c.page_after-8.ensures, tt)))),
          ),
        ),
      ),
    ) found.0 in
    own (omega (arith, found.2)) m found.1

pub returns-clause-low : goal.returns-clause-low
returns-clause-low c =
    let low : c.args.page < 1048576 =
    page-few c.args.self.now.accepted.named.now.launch (bytes_of_files c.args.self.now.accepted.files.now) c.args.self.now.accepted.placed c.args.item
    c.args.page
    c.args.self.now.accepted.is_placed c.requires in
    omega (arith, low, c.hash_group.result.within)
