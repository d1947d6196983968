-- Scanning the structure block token by token: Devicetree Specification 0.4, sections 5.4 and 5.5.
-- `token_at` is the first token of some bytes, or its fault. Which of several faults is reported, and that
-- no node is deeper than 64, is this project's choice.
use Rattle.std.specs.Prelude.{ℕ, zero, suc, ◌+◌, ◌-◌, List, [], ◌∷◌, length, take, drop, Bool, true, false, Option, Some, None, Result, Ok, Err, nat_lt, ◌==◌, ◌&&◌, not, if◌then◌else◌}
use Rattle.std.specs.Int.{w32, from_be_bytes}
use Rattle.fdt_header.specs.declared.fault.FdtFault.{FdtFault}
use Rattle.fdt_header.specs.declared.fault.FdtFault.TheVariants.{BadToken, BadName, BadString, LateProperty, TooDeep}
use Rattle.fdt_tree.specs.declared.reading.place.Place.{Place}
use Rattle.refusal.specs.Answer.{◌>>=◌}
use Rattle.fdt_tree.specs.Devicetree.{Token, begin_node, end_node, finish, nop, padding_of, property}
use Rattle.fdt_tree.specs.Names.{legal}
use Rattle.fdt_tree.specs.declared.reading.lexing.TheConstants.{DEPTH_LIMIT, FDT_BEGIN_NODE, FDT_END, FDT_END_NODE, FDT_NOP, FDT_PROP}

-- before the root
abbrev pub start : Place
start = record { depth = 0; late = false }

-- the place after a token
abbrev pub after : Place → Token → Place
after p (begin_node name) = record { depth = p.depth + 1; late = false }
after p (property e) = p
after p end_node = record { depth = p.depth - 1; late = true }
after p nop = p
after p finish = p

-- a number and the bytes after it
unfoldable pub number_at : List ℕ → Result (ℕ × List ℕ) FdtFault
number_at bytes =
    if nat_lt (length bytes) 4 then Err BadToken else Ok (from_be_bytes w32 (take 4 bytes), drop 4 bytes)

-- The first n bytes, and the bytes after them and their padding to a multiple of 4. Padding is not looked
-- at: where the block ends within it, no bytes follow.
unfoldable pub padded_at : ℕ → List ℕ → Result (List ℕ × List ℕ) FdtFault
padded_at n bytes =
    if nat_lt (length bytes) n then Err BadToken else Ok (take n bytes, drop (n + padding_of n) bytes)

-- the number of bytes before the first zero byte
abbrev pub until_zero : List ℕ → Option ℕ
until_zero [] = None
until_zero (zero ∷ bytes) = Some 0
until_zero (suc b ∷ bytes) = elim (until_zero bytes) [ None ↦ None | Some n ↦ Some (suc n) ]

-- the bytes before the first zero byte
unfoldable pub string_at : FdtFault → List ℕ → Result (List ℕ) FdtFault
string_at fault bytes = elim (until_zero bytes) [ None ↦ Err fault | Some n ↦ Ok (take n bytes) ]

-- the root's name is empty
abbrev pub legal_at : Place → List ℕ → Bool
legal_at p name = if p.depth == 0 then (length name == 0) else legal name

-- FDT_BEGIN_NODE: a name, a zero byte, and padding
unfoldable pub begin_at : Place → List ℕ → Result (Token × List ℕ) FdtFault
begin_at p bytes = do
  name ← string_at BadToken bytes
  text ← padded_at (length name + 1) bytes
  if legal_at p name then (if nat_lt p.depth DEPTH_LIMIT then Ok (begin_node name, text.1) else Err TooDeep) else Err BadName

-- the name of a property: the text at this offset in the strings block, which may be the end of a longer name
unfoldable pub name_at : List ℕ → ℕ → Result (List ℕ) FdtFault
name_at strings offset =
    if nat_lt offset (length strings) then
    (string_at BadString (drop offset strings) >>= λ name. if legal name then Ok name else Err BadName)
    else Err BadString

-- FDT_PROP: the length of a value, the offset of a name, the value, and padding
unfoldable pub property_at : List ℕ → Place → List ℕ → Result (Token × List ℕ) FdtFault
property_at strings p bytes = do
  len ← number_at bytes
  offset ← number_at len.1
  value ← padded_at len.0 offset.1
  if p.late then Err LateProperty
      else (name_at strings offset.0 >>= λ name. Ok (property (record { name = name; value = value.0 }), value.1))

-- no node is open, and the root has ended
abbrev pub is_over : Place → Bool
is_over p = (p.depth == 0) && p.late

-- the token of this number, where such a token is allowed
unfoldable pub kind_at : List ℕ → Place → ℕ → List ℕ → Result (Token × List ℕ) FdtFault
kind_at strings p kind rest =
    if (kind == FDT_BEGIN_NODE) && not (is_over p) then begin_at p rest
    else (if (kind == FDT_END_NODE) && nat_lt 0 p.depth then Ok (end_node, rest)
    else (if (kind == FDT_PROP) && nat_lt 0 p.depth then property_at strings p rest
    else (if kind == FDT_NOP then Ok (nop, rest)
    else (if (kind == FDT_END) && is_over p then Ok (finish, rest)
    else Err BadToken))))

-- the first token and the bytes after it
unfoldable pub token_at : List ℕ → Place → List ℕ → Result (Token × List ℕ) FdtFault
token_at strings p bytes = do
  kind ← number_at bytes
  kind_at strings p kind.0 kind.1

-- the tokens from this one on, given those after it
abbrev pub joins : Token → Result (List Token) FdtFault → Result (List Token) FdtFault
joins finish more = Ok []
joins nop more = more
joins (begin_node name) more = more >>= λ ts. Ok (begin_node name ∷ ts)
joins (property e) more = more >>= λ ts. Ok (property e ∷ ts)
joins end_node more = more >>= λ ts. Ok (end_node ∷ ts)

-- The tokens up to END without NOPs, or the fault of the first token that has one. Each token takes
-- a byte at least, so as many steps as bytes are enough.
unfoldable pub scan : List ℕ → ℕ → Place → List ℕ → Result (List Token) FdtFault
scan strings zero p bytes = Err BadToken
scan strings (suc n) p bytes = token_at strings p bytes >>= λ t. joins t.0 (scan strings n (after p t.0) t.1)

-- the tokens of a structure block
abbrev pub structure_at : List ℕ → List ℕ → Result (List Token) FdtFault
structure_at strings block = scan strings (length block) start block
