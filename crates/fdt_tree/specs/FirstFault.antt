-- Which fault a structure block has: that of the token after the longest list of tokens without fault. The tokens are those
-- of Devicetree Specification 0.4, section 5.4; which fault is reported is this project's choice.
use Rattle.std.specs.Prelude.{◌≡◌, ◌≢◌, ℕ, List, [], ◌∷◌, Ok, Err}
use Rattle.fdt_header.specs.declared.fault.FdtFault.{FdtFault}
use Rattle.fdt_tree.specs.declared.reading.place.Place.{Place}
use Rattle.fdt_tree.specs.Devicetree.{Token, finish}
use Rattle.fdt_tree.specs.Scanning.{start, after, token_at}

-- From this place in these bytes the tokens follow one another, each without fault, and lead to another
-- place and other bytes. END is not among them, since nothing after it is looked at.
abbrev pub Leads : List ℕ → Place → List ℕ → List Token → Place → List ℕ → Type 0
Leads strings p bytes [] q rest = (p ≡ q) × (bytes ≡ rest)
Leads strings p bytes (t ∷ ts) q rest =
    (t ≢ finish) × (more : List ℕ) × (token_at strings p bytes ≡ Ok (t, more)) × Leads strings (after p t) more ts q rest

-- Tokens without fault lead to one that has this fault: so no longer list is without fault.
abbrev pub IsFirstFault : List ℕ → List ℕ → FdtFault → Type 0
IsFirstFault strings block f =
    (ts : List Token) × (q : Place) × (rest : List ℕ) × Leads strings start block ts q rest × (token_at strings q rest ≡ Err f)
