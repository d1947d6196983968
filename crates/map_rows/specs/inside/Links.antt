-- The extensions of links, without their digests. This project's choice.
use Rattle.std.specs.Prelude.{List, sum_by}
use Rattle.launch_plan.specs.declared.link.Link.{Link}
use Rattle.launch_plan.specs.declared.link.Link.TheVariants as link
use Rattle.map_rows.specs.Extensions.{no_extensions, plus}
use Rattle.map_rows.specs.declared.extensions.Extensions.{Extensions}

abbrev pub link_extensions : Link → Extensions
link_extensions (link.Blocks base size count) = record no_extensions { ripas = count; total = count }
link_extensions (link.Pages ipa key count) = record no_extensions { pages = count; total = count }
link_extensions (link.Unmeasured ipa count) = record no_extensions { total = count; unmeasured = count }
link_extensions (link.Rec content) = record no_extensions { recs = 1; total = 1 }

abbrev pub one_realm : Extensions
one_realm = record no_extensions { realms = 1; total = 1 }

-- a realm and these links
abbrev pub links_extensions : List Link → Extensions
links_extensions links = plus one_realm (record {
  pages = sum_by (λ l. (link_extensions l).pages) links;
  realms = 0;
  recs = sum_by (λ l. (link_extensions l).recs) links;
  ripas = sum_by (λ l. (link_extensions l).ripas) links;
  total = sum_by (λ l. (link_extensions l).total) links;
  unmeasured = sum_by (λ l. (link_extensions l).unmeasured) links;
})
