-- The header in front of an arm64 kernel Image: Linux, Documentation/arch/arm64/booting.rst, section
-- "Call the kernel image". Sixty-four bytes, each number little endian.
use Rattle.std.specs.Prelude.{ℕ, List, length, drop, max, Result, Ok, Err, nat_lt, ◌==◌, if◌then◌else◌}
use Rattle.byteorder.specs.Endian.{little_number}
use Rattle.arm64_image.specs.declared.Header.{Header}
use Rattle.arm64_image.specs.declared.ImageFault.{ImageFault}
use Rattle.arm64_image.specs.declared.ImageFault.TheVariants.{Short, BadMagic}

-- the 32 bit and the 64 bit number that begins at this byte of the header
abbrev pub word_at : ℕ → List ℕ → ℕ
word_at offset bytes = little_number 4 (drop offset bytes)

abbrev pub double_word_at : ℕ → List ℕ → ℕ
double_word_at offset bytes = little_number 8 (drop offset bytes)

-- The fields, at the offsets that the declaration in booting.rst gives them.
-- The magic at byte 56 and the reserved numbers are not kept.
abbrev pub header_of : List ℕ → Header
header_of bytes = record {
  code0 = word_at 0 bytes;
  code1 = word_at 4 bytes;
  text_offset = double_word_at 8 bytes;
  image_size = double_word_at 16 bytes;
  flags = double_word_at 24 bytes;
}

-- "ARM\x64" as a number
abbrev pub magic : ℕ
magic = 0x644d5241

-- the header, or the first of the two refusals
abbrev pub read_of : List ℕ → Result Header ImageFault
read_of bytes =
    if nat_lt (length bytes) 64 then Err Short
    else (if word_at 56 bytes == magic then Ok (header_of bytes) else Err BadMagic)

-- How far after a 2 MiB boundary the Image is placed. Where image_size is 0, as in kernels before
-- Linux 3.17, text_offset may have no defined byte order and 0x80000 is to be assumed.
abbrev pub load_offset_of : Header → ℕ
load_offset_of h = if h.image_size == 0 then 0x80000 else h.text_offset

-- How many bytes from where it is placed the Image takes: image_size counts what the kernel clears
-- after its file too, and a file may be longer than it says.
abbrev pub extent_of : Header → ℕ → ℕ
extent_of h file_len = max h.image_size file_len
