-- The measured page of a realm's parameters. DEN0137, RmiRealmParams, and RMI_REALM_CREATE for the
-- fields that are measured: what the host chooses without an effect on the realm is left at zero.
use Rattle.std.specs.Prelude.{ℕ, List, [], ◌∷◌, ◌++◌}
use Rattle.rim_desc.specs.Page.{Field, byte, word, with_fields, zeros}
use Rattle.rim_desc.specs.Numbers.{number_fields}
use Rattle.rim_desc.specs.Measurement.{algo_value}
use Rattle.rim_desc.specs.declared.page.TheConstants.{PAGE_SIZE}
use Rattle.rim_desc.specs.declared.realm.RealmParams.{RealmParams}

-- the fields that are measured
abbrev pub realm_fields : RealmParams → List Field
realm_fields p = word 0x0 p.flags ∷ byte 0x8 p.s2sz ∷ number_fields p.numbers ++ (byte 0x30 (algo_value p.algo) ∷ [])

-- the page: a byte at no listed offset is zero
unfoldable pub realm_page_of : RealmParams → List ℕ
realm_page_of p = with_fields (zeros PAGE_SIZE) (realm_fields p)
