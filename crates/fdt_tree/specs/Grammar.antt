-- Which bytes spell a structure block: Devicetree Specification 0.4, section 5.4.
use Rattle.std.specs.Prelude.{◌≡◌, ℕ, ◌+◌, ◌^◌, ◌<◌, List, [], ◌∷◌, ◌++◌, length, drop}
use Rattle.std.specs.Int.{w32, to_be_bytes}
use Rattle.fdt_tree.specs.Devicetree.{Root, Token, begin_node, end_node, finish, nop, padding_of, property, root_tokens}
use Rattle.fdt_tree.specs.Names.{AreLegal, IsLegal}
use Rattle.fdt_tree.specs.declared.reading.lexing.TheConstants.{FDT_BEGIN_NODE, FDT_END, FDT_END_NODE, FDT_NOP, FDT_PROP}

-- Any bytes that pad n bytes to a multiple of 4. The specification requires zeros. Like other readers, this
-- one does not look at them.
abbrev pub IsPadding : ℕ → List ℕ → Type 0
IsPadding n pad = length pad ≡ padding_of n

-- the name is at this offset in the strings block, and a zero byte follows it
abbrev pub IsStringAt : List ℕ → ℕ → List ℕ → Type 0
IsStringAt strings offset name = (others : List ℕ) × (drop offset strings ≡ name ++ (0 ∷ others))

-- The bytes spell this token, given the strings block (5.4.1).
abbrev pub IsTokenText : List ℕ → Token → List ℕ → Type 0
IsTokenText strings (begin_node name) text =
    (pad : List ℕ) × IsPadding (length name + 1) pad × (text ≡ to_be_bytes w32 FDT_BEGIN_NODE ++ (name ++ (0 ∷ pad)))
IsTokenText strings (property e) text =
    (offset : ℕ) × (pad : List ℕ) × (offset < 2 ^ 32) × (length e.value < 2 ^ 32)
    × IsPadding (length e.value) pad × IsStringAt strings offset e.name
    × (text ≡ to_be_bytes w32 FDT_PROP ++ (to_be_bytes w32 (length e.value) ++ (to_be_bytes w32 offset ++ (e.value ++ pad))))
IsTokenText strings end_node text = text ≡ to_be_bytes w32 FDT_END_NODE
IsTokenText strings nop text = text ≡ to_be_bytes w32 FDT_NOP
IsTokenText strings finish text = text ≡ to_be_bytes w32 FDT_END

-- the bytes spell the tokens, one after another
abbrev pub IsText : List ℕ → List Token → List ℕ → Type 0
IsText strings [] text = text ≡ []
IsText strings (t ∷ ts) text =
    (front : List ℕ) × (rest : List ℕ) × IsTokenText strings t front × IsText strings ts rest × (text ≡ front ++ rest)

-- the tokens without the NOPs, which may come before any other token
abbrev pub without_nops : List Token → List Token
without_nops [] = []
without_nops (nop ∷ ts) = without_nops ts
without_nops (begin_node name ∷ ts) = begin_node name ∷ without_nops ts
without_nops (property e ∷ ts) = property e ∷ without_nops ts
without_nops (end_node ∷ ts) = end_node ∷ without_nops ts
without_nops (finish ∷ ts) = finish ∷ without_nops ts

-- The block spells the tokens of one root with NOPs among them, then END, then any bytes (5.4.2).
pub record SpellsRoot (strings block : List ℕ) (r : Root) : Type 0 where
  pub all : List Token
  pub front : List ℕ
  pub rest : List ℕ
  pub parts : block ≡ front ++ (to_be_bytes w32 FDT_END ++ rest)
  pub text : IsText strings all front
  pub same : without_nops all ≡ root_tokens r
  pub properties : AreLegal r.properties
  pub children : IsLegal 1 r.children
