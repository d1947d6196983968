-- The messages that a monitor hashes to extend a measurement by some parts. DEN0137, "Realm Initial Measurement".
use Rattle.std.specs.Prelude.{◌≡◌, ◌⊎◌, ℕ, List, [], ◌∷◌, Option, Some, None, length, ⊤}
use Rattle.std.specs.List.{All}
use Rattle.rim_desc.specs.Descriptor.{data_descriptor_of, rec_descriptor_of, ripas_descriptor_of}
use Rattle.rim_desc.specs.Part.{Part, Data, Realm, Rec, Ripas, extended}
use Rattle.rim_desc.specs.declared.measurement.Algo.{Algo}
use Rattle.rim_desc.specs.declared.page.TheConstants.{PAGE_SIZE}
use Rattle.rmi_line.specs.Typed.{Are64Bytes, IsByte, IsWord}

-- the message that extends the measurement `rim` by a part
abbrev pub message : List ℕ → Part → List ℕ
message rim (Realm page) = page
message rim (Ripas base top) = ripas_descriptor_of rim base top
message rim (Data ipa content) = data_descriptor_of rim ipa content
message rim (Rec content) = rec_descriptor_of rim content

-- m is one of the messages that extend `rim` by these parts
abbrev pub IsChained : Algo → List ℕ → List Part → List ℕ → Type 0
IsChained algo rim [] m = ⊥
IsChained algo rim (part ∷ parts) m = (m ≡ message rim part) ⊎ IsChained algo (extended algo rim part) parts m

-- a page of memory: 4096 bytes
abbrev pub IsPage : List ℕ → Type 0
IsPage page = (length page ≡ PAGE_SIZE) × All IsByte page

abbrev pub FitsContent : Option (List ℕ) → Type 0
FitsContent (Some content) = Are64Bytes content
FitsContent None = ⊤

-- a part after the realm: its addresses have 64 bits, and its content has 64 bytes
abbrev pub Fits : Part → Type 0
Fits (Realm page) = ⊥
Fits (Ripas base top) = IsWord base × IsWord top
Fits (Data ipa content) = IsWord ipa × FitsContent content
Fits (Rec content) = Are64Bytes content
