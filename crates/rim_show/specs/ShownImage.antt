-- The text that shows an Image. This project's choice; the fields are those of booting.rst.
use Rattle.std.specs.Prelude.{ℕ, List, ◌++◌, length, Result, Ok, Err, codes}
use Rattle.arm64_image.specs.ImageHeader.{extent_of, load_offset_of, read_of}
use Rattle.arm64_image.specs.declared.Header.{Header}
use Rattle.arm64_image.specs.declared.ImageFault.{ImageFault}
use Rattle.rim_desc.specs.Number.{digits_of}
use Rattle.rim_show.specs.declared.fault.ShowFault.{ShowFault}
use Rattle.rim_show.specs.declared.fault.ShowFault.TheVariants.{Image}

-- a label and a number
unfoldable pub field_line : List ℕ → ℕ → List ℕ
field_line label n = (label ++ digits_of n) ++ codes "\n"

-- the five lines of a header, for a file of this many bytes
abbrev pub image_text_of : Header → ℕ → List ℕ
image_text_of h file_len =
    field_line (codes "text_offset ") h.text_offset
    ++ field_line (codes "image_size ") h.image_size
    ++ field_line (codes "flags ") h.flags
    ++ field_line (codes "load_offset ") (load_offset_of h)
    ++ field_line (codes "extent ") (extent_of h file_len)

abbrev pub shown_image : Result Header ImageFault → ℕ → Result (List ℕ) ShowFault
shown_image (Ok h) file_len = Ok (image_text_of h file_len)
shown_image (Err fault) file_len = Err (Image fault)

-- the text of a file that is an Image, or why it is none
abbrev pub image_answer_of : List ℕ → Result (List ℕ) ShowFault
image_answer_of bytes = shown_image (read_of bytes) (length bytes)
