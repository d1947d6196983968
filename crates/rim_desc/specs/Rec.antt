-- The measured page of a REC's parameters. DEN0137, RmiRecParams, and RMI_REC_CREATE for the fields
-- that are measured: the MPIDR and the auxiliary granules are not among them.
use Rattle.std.specs.Prelude.{ℕ, ◌+◌, ◌*◌, ◌/◌, ◌%◌, List, [], ◌∷◌, slice_index}
use Rattle.rim_desc.specs.Page.{Field, word, with_fields, zeros}
use Rattle.rim_desc.specs.declared.page.TheConstants.{PAGE_SIZE}

-- what a caller sees of a REC's parameters
pub record RecData : Type 0 where
  pub flags : ℕ
  pub mpidr : ℕ
  pub pc : ℕ
  -- x0 to x7
  pub gprs : List ℕ
  -- the addresses of the auxiliary granules
  pub aux : List ℕ

-- the fields that are measured
abbrev pub rec_fields : RecData → List Field
rec_fields r = word 0x0 r.flags ∷ word 0x200 r.pc
    ∷ word 0x300 (slice_index r.gprs 0) ∷ word 0x308 (slice_index r.gprs 1)
    ∷ word 0x310 (slice_index r.gprs 2) ∷ word 0x318 (slice_index r.gprs 3)
    ∷ word 0x320 (slice_index r.gprs 4) ∷ word 0x328 (slice_index r.gprs 5)
    ∷ word 0x330 (slice_index r.gprs 6) ∷ word 0x338 (slice_index r.gprs 7) ∷ []

-- the page: a byte at no listed offset is zero
unfoldable pub rec_page_of : RecData → List ℕ
rec_page_of r = with_fields (zeros PAGE_SIZE) (rec_fields r)

-- The MPIDR of REC n: Aff0 is n mod 16 in bits 3:0, and Aff1, from bit 8 on, counts the sixteens.
-- DEN0137, RmiRecMpidr, with the RECs of a realm created in the order of their index.
abbrev pub rec_mpidr_of : ℕ → ℕ
rec_mpidr_of n = n % 16 + 256 * (n / 16)
