-- The extensions of a launch's measurement, by what is measured. DEN0137, "Realm Initial Measurement".
use Rattle.std.specs.Prelude.{ℕ, ◌+◌, List, length, sum_by, Option, Some, None}
use Rattle.rim_desc.specs.Part.{Part, Realm, Ripas, Data, Rec}
use Rattle.map_rows.specs.declared.extensions.Extensions.{Extensions}

abbrev pub no_extensions : Extensions
no_extensions = record { pages = 0; realms = 0; recs = 0; ripas = 0; total = 0; unmeasured = 0 }

-- a page, with its contents or without
abbrev pub page_extension : Option (List ℕ) → Extensions
page_extension (Some digest) = record no_extensions { pages = 1; total = 1 }
page_extension None = record no_extensions { total = 1; unmeasured = 1 }

-- what a part is
abbrev pub extension : Part → Extensions
extension (Realm page) = record no_extensions { realms = 1; total = 1 }
extension (Ripas base top) = record no_extensions { ripas = 1; total = 1 }
extension (Data ipa content) = page_extension content
extension (Rec content) = record no_extensions { recs = 1; total = 1 }

abbrev pub plus : Extensions → Extensions → Extensions
plus a b = record {
  pages = a.pages + b.pages;
  realms = a.realms + b.realms;
  recs = a.recs + b.recs;
  ripas = a.ripas + b.ripas;
  total = a.total + b.total;
  unmeasured = a.unmeasured + b.unmeasured;
}

-- how many of each kind some parts are
abbrev pub extensions_of : List Part → Extensions
extensions_of parts = record {
  pages = sum_by (λ p. (extension p).pages) parts;
  realms = sum_by (λ p. (extension p).realms) parts;
  recs = sum_by (λ p. (extension p).recs) parts;
  ripas = sum_by (λ p. (extension p).ripas) parts;
  total = length parts;
  unmeasured = sum_by (λ p. (extension p).unmeasured) parts;
}
