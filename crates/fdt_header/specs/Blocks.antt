-- The header of a flattened devicetree and where its blocks are: Devicetree Specification 0.4,
-- sections 5.2 and 5.6. Each number is big endian.
use Rattle.std.specs.Prelude.{◌≡◌, ℕ, ◌+◌, ◌%◌, ◌≤◌, List, length, take, drop, Bool, Result, Ok, Err, nat_lt, nat_le, ◌==◌, ◌&&◌, if◌then◌else◌}
use Rattle.std.specs.Int.{w32, from_be_bytes}
use Rattle.fdt_header.specs.declared.fault.FdtFault.{FdtFault}
use Rattle.fdt_header.specs.declared.fault.FdtFault.TheVariants.{Short, BadMagic, BadVersion, TooLarge, BadBlock}
use Rattle.fdt_header.specs.declared.header.Header.{Header}
use Rattle.fdt_header.specs.declared.header.TheConstants.{HEADER_SIZE, MAGIC, SIZE_LIMIT, VERSION}

-- the number that begins at this byte
abbrev pub word_at : ℕ → List ℕ → ℕ
word_at offset bytes = from_be_bytes w32 (take 4 (drop offset bytes))

-- the fields after the magic number
abbrev pub header_of : List ℕ → Header
header_of bytes = record {
  totalsize = word_at 4 bytes;
  off_dt_struct = word_at 8 bytes;
  off_dt_strings = word_at 12 bytes;
  off_mem_rsvmap = word_at 16 bytes;
  version = word_at 20 bytes;
  last_comp_version = word_at 24 bytes;
  boot_cpuid_phys = word_at 28 bytes;
  size_dt_strings = word_at 32 bytes;
  size_dt_struct = word_at 36 bytes;
}

-- The header and the blocks are within totalsize, and totalsize is within the bytes. Blocks may overlap.
pub record BlocksFit (h : Header) (len : ℕ) : Type 0 where
  pub own : HEADER_SIZE ≤ h.totalsize
  pub whole : h.totalsize ≤ len
  pub structure_aligned : h.off_dt_struct % 4 ≡ 0
  pub reserve_aligned : h.off_mem_rsvmap % 8 ≡ 0
  pub reserve : h.off_mem_rsvmap ≤ h.totalsize
  pub structure : h.off_dt_struct + h.size_dt_struct ≤ h.totalsize
  pub strings : h.off_dt_strings + h.size_dt_strings ≤ h.totalsize

-- the bytes begin with this header
pub record HasHeader (bytes : List ℕ) (h : Header) : Type 0 where
  pub fields : h ≡ header_of bytes
  pub long : HEADER_SIZE ≤ length bytes
  pub magic : word_at 0 bytes ≡ MAGIC
  pub version : h.version ≡ 17
  pub compatible : h.last_comp_version ≤ 17
  pub small : length bytes ≤ SIZE_LIMIT
  pub blocks : BlocksFit h (length bytes)

-- the blocks
abbrev pub reserve_block : Header → List ℕ → List ℕ
reserve_block h bytes = drop h.off_mem_rsvmap (take h.totalsize bytes)

abbrev pub structure_block : Header → List ℕ → List ℕ
structure_block h bytes = take h.size_dt_struct (drop h.off_dt_struct bytes)

abbrev pub strings_block : Header → List ℕ → List ℕ
strings_block h bytes = take h.size_dt_strings (drop h.off_dt_strings bytes)

-- ---- the checks, in this project's order

abbrev pub blocks_fit : Header → ℕ → Bool
blocks_fit h len =
    nat_le HEADER_SIZE h.totalsize && nat_le h.totalsize len
    && (h.off_dt_struct % 4 == 0) && (h.off_mem_rsvmap % 8 == 0) && nat_le h.off_mem_rsvmap h.totalsize
    && nat_le (h.off_dt_struct + h.size_dt_struct) h.totalsize
    && nat_le (h.off_dt_strings + h.size_dt_strings) h.totalsize

abbrev pub is_known_version : Header → Bool
is_known_version h = (h.version == VERSION) && nat_le h.last_comp_version VERSION

-- the header, or the first check that fails
unfoldable pub header_at : List ℕ → Result Header FdtFault
header_at bytes =
    if nat_lt (length bytes) HEADER_SIZE then Err Short
    else (if word_at 0 bytes == MAGIC then
    (if is_known_version (header_of bytes) then
    (if nat_lt SIZE_LIMIT (length bytes) then Err TooLarge
    else (if blocks_fit (header_of bytes) (length bytes) then Ok (header_of bytes) else Err BadBlock))
    else Err BadVersion)
    else Err BadMagic)
