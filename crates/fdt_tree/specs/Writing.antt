-- The bytes that are written: Devicetree Specification 0.4, chapter 5. The order of the blocks and of the
-- names is this project's choice.
use Rattle.std.specs.Prelude.{ℕ, ◌+◌, List, [], ◌∷◌, ◌++◌, length, Bool, true, false, Result, Ok, Err, nat_lt, replicate, if◌then◌else◌}
use Rattle.std.specs.Int.{w32, to_be_bytes}
use Rattle.std.specs.Str.{bytes_eq}
use Rattle.fdt_header.specs.declared.fault.FdtFault.{FdtFault}
use Rattle.fdt_header.specs.declared.fault.FdtFault.TheVariants.{TooLarge}
use Rattle.fdt_tree.specs.declared.tree.Reservation.{Reservation}
use Rattle.fdt_tree.specs.Devicetree.{Devicetree, Token, begin_node, end_node, finish, nop, padding_of, property, root_tokens}
use Rattle.fdt_tree.specs.Reservations.{pair_text}
use Rattle.fdt_header.specs.declared.header.TheConstants.{HEADER_SIZE, LAST_COMP_VERSION, MAGIC, SIZE_LIMIT, VERSION}
use Rattle.fdt_tree.specs.declared.reading.lexing.TheConstants.{FDT_BEGIN_NODE, FDT_END, FDT_END_NODE, FDT_NOP, FDT_PROP}

-- ---- the strings: each name once, in the order of first use

abbrev pub is_among : List ℕ → List (List ℕ) → Bool
is_among name [] = false
is_among name (n ∷ names) = if bytes_eq name n then true else is_among name names

abbrev pub noted : List (List ℕ) → List ℕ → List (List ℕ)
noted names name = if is_among name names then names else names ++ name ∷ []

-- the names after more tokens
abbrev pub names_after : List (List ℕ) → List Token → List (List ℕ)
names_after names [] = names
names_after names (begin_node name ∷ ts) = names_after names ts
names_after names (property e ∷ ts) = names_after (noted names e.name) ts
names_after names (end_node ∷ ts) = names_after names ts
names_after names (nop ∷ ts) = names_after names ts
names_after names (finish ∷ ts) = names_after names ts

-- each name, followed by a zero byte
abbrev pub strings_text : List (List ℕ) → List ℕ
strings_text [] = []
strings_text (name ∷ names) = name ++ (0 ∷ strings_text names)

-- the offset of a name
abbrev pub offset_in : List (List ℕ) → List ℕ → ℕ
offset_in [] name = 0
offset_in (n ∷ names) name = if bytes_eq name n then 0 else length n + 1 + offset_in names name

-- ---- the structure block

abbrev pub padding_after : ℕ → List ℕ
padding_after n = replicate (padding_of n) 0

abbrev pub begin_text : List ℕ → List ℕ
begin_text name = to_be_bytes w32 FDT_BEGIN_NODE ++ (name ++ (0 ∷ padding_after (length name + 1)))

abbrev pub property_text : ℕ → List ℕ → List ℕ
property_text offset value =
    to_be_bytes w32 FDT_PROP ++ (to_be_bytes w32 (length value) ++ (to_be_bytes w32 offset ++ (value ++ padding_after (length value))))

-- the bytes of tokens, given the names that were used before them
abbrev pub text_after : List (List ℕ) → List Token → List ℕ
text_after names [] = []
text_after names (begin_node name ∷ ts) = begin_text name ++ text_after names ts
text_after names (property e ∷ ts) =
    property_text (offset_in (noted names e.name) e.name) e.value ++ text_after (noted names e.name) ts
text_after names (end_node ∷ ts) = to_be_bytes w32 FDT_END_NODE ++ text_after names ts
text_after names (nop ∷ ts) = to_be_bytes w32 FDT_NOP ++ text_after names ts
text_after names (finish ∷ ts) = to_be_bytes w32 FDT_END ++ text_after names ts

abbrev pub structure_text : Devicetree → List ℕ
structure_text t = text_after [] (root_tokens t.root) ++ to_be_bytes w32 FDT_END

-- ---- the file

abbrev pub reservations_text : List Reservation → List ℕ
reservations_text [] = pair_text (record { address = 0; size = 0 })
reservations_text (r ∷ rs) = pair_text r ++ reservations_text rs

-- The first half of the header, given the lengths of the reservation block, the structure block and the
-- strings block: the magic number, the whole length, and where the structure, the strings and the
-- reservations begin.
abbrev pub places_text : ℕ → ℕ → ℕ → List ℕ
places_text reserve structure strings =
    to_be_bytes w32 MAGIC ++ (to_be_bytes w32 (HEADER_SIZE + reserve + structure + strings)
    ++ (to_be_bytes w32 (HEADER_SIZE + reserve) ++ (to_be_bytes w32 (HEADER_SIZE + reserve + structure) ++ to_be_bytes w32 HEADER_SIZE)))

-- The second half: version 17, which a reader of version 16 can read, the processor that boots, and the
-- lengths.
abbrev pub versions_text : ℕ → ℕ → ℕ → List ℕ
versions_text structure strings boot_cpu =
    to_be_bytes w32 VERSION ++ (to_be_bytes w32 LAST_COMP_VERSION ++ (to_be_bytes w32 boot_cpu ++ (to_be_bytes w32 strings ++ to_be_bytes w32 structure)))

abbrev pub header_text : ℕ → ℕ → ℕ → ℕ → List ℕ
header_text reserve structure strings boot_cpu = places_text reserve structure strings ++ versions_text structure strings boot_cpu

-- the header, the reservations, the structure block and the strings, with nothing between or after them
abbrev pub file_text : ℕ → List ℕ → List ℕ → List ℕ → List ℕ
file_text boot_cpu reserve structure strings =
    header_text (length reserve) (length structure) (length strings) boot_cpu ++ (reserve ++ (structure ++ strings))

abbrev pub written : Devicetree → List ℕ
written t =
    file_text t.boot_cpu (reservations_text t.reservations) (structure_text t) (strings_text (names_after [] (root_tokens t.root)))

-- the file of a tree, unless it would be longer than a devicetree may be
abbrev pub file_of : Devicetree → Result (List ℕ) FdtFault
file_of t = if nat_lt SIZE_LIMIT (length (written t)) then Err TooLarge else Ok (written t)
